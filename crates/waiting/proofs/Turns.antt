-- Pass after pass, and the two kinds one after the other. Assumes nothing.
use mathlib.Core.Bool.{Bool, true, false, cond, true≢false}
use mathlib.Core.List.{List}
use mathlib.Core.Path.{◌≡◌, refl, sym, ap, ◌∙◌, subst⁻¹}
use Prim.Native.Nat.{ℕ, ◌+◌, ◌-◌, ◌≤◌, ◌<◌}
use native.Mathlib.Omega.{arith}
use lib.Dec.{ltb}
use lib.ListN.{replicate}
use borrow.Author.Tests.{ltb-true, ltb-false}
use Rattle.paper.specs.Rules.{Rule, HeadsBelow}
use Rattle.paper.specs.Marking.{Marks}
use Rattle.index.specs.Index.{IndexOf}
use Rattle.pending.proofs.Marked.{none_counted}
use Rattle.ranks.specs.declared.Found.{Found}
use Rattle.ranks.specs.Found.{Fit, over_rules, found_at_rest, no_lines_yet, clean_found, reasons_found}
use Rattle.justified.specs.ByLiteral.{no_line}
use Rattle.waiting.specs.declared.Order.{Order}
use Rattle.waiting.specs.Waiting.{Numbered, Ranking}
use Rattle.ranks.proofs.Rules.{pass_moves}
use Rattle.ranks.proofs.Passes.{at_most_1024, at_rest_there, rest_turn}
use Rattle.ranks.proofs.FoundLines.{no_lines_fit}
use Rattle.index.specs.declared.Index.{Index}

module _ (marked : Bool) (clean : List ℕ) (A : Marks) where
  module _ (R : List Rule) where
    -- some passes were made; the last added nothing, if there is to be no other
    pub record PassesMade (st : Found) (again : Bool) (st' : Found) : Type 0 where
      pub fit : Fit st'
      pub same : found_at_rest marked clean A R st' ≡ found_at_rest marked clean A R st
      pub still : again ≡ false → over_rules marked clean A R st' ≡ st'

    pub passes_start : {st : Found} → Fit st → PassesMade st true st
    passes_start f = record { fit = f; same = refl; still = λ e. absurd (true≢false e) }

    pub passes_end : {st st' : Found} {again : Bool} → again ≡ false → PassesMade st again st' → st' ≡ found_at_rest marked clean A R st
    passes_end {st' = st'} e p = sym (at_rest_there marked clean A R st' (p.still e)) ∙ p.same

    module _ {st st₁ st₂ : Found} {again : Bool} (below : HeadsBelow 512 R) (p : PassesMade st again st₁)
        (e : st₂ ≡ over_rules marked clean A R st₁) where
      pub passes_go_on : PassesMade st (ltb st₁.next_rank st₂.next_rank) st₂
      passes_go_on =
          let mv = pass_moves marked clean A R below st₁ p.fit in
          record {
            fit = subst⁻¹ Fit e mv.fit;
            same = ap (found_at_rest marked clean A R) e ∙ rest_turn marked clean A R below st₁ p.fit ∙ p.same;
            still = λ f.
                let k : st₂.next_rank ≤ st₁.next_rank = ltb-false st₁.next_rank st₂.next_rank f in
                let more = mv.more in
                let n = ap (λ (z : Found). z.next_rank) e in
                let s : st₂ ≡ st₁ = e ∙ mv.still (omega arith) in
                ap (over_rules marked clean A R) s ∙ sym e;
          }

      -- what may still be added, and the pass that finds it out
      pub fewer_left : again ≡ true
          → (1024 - st₂.next_rank) + cond (ltb st₁.next_rank st₂.next_rank) 1 0 < (1024 - st₁.next_rank) + cond again 1 0
      fewer_left a = rw a (go (ltb st₁.next_rank st₂.next_rank) refl)
        where
          go : (b : Bool) → ltb st₁.next_rank st₂.next_rank ≡ b → (1024 - st₂.next_rank) + cond b 1 0 < (1024 - st₁.next_rank) + 1
          go true f =
              let k = ltb-true st₁.next_rank st₂.next_rank f in
              let m = at_most_1024 st₂ passes_go_on.fit in
              omega arith
          go false f =
              let more = (pass_moves marked clean A R below st₁ p.fit).more in
              let n = ap (λ (z : Found). z.next_rank) e in
              omega arith

-- first the literals with unmarked atoms, then the others
abbrev no_lines : Found
no_lines = record { ranked = replicate 16 0; lines = replicate 1024 no_line; next_rank = 0 }

pub ranking_starts : {t : List ℕ} {x : Index} {o : Order} → IndexOf t x → Numbered t o
    → Ranking (replicate 16 0) t x o no_lines (replicate 8192 0)
unfolding no_lines_yet
ranking_starts {t} i n = record { index = i; numbered = n; fit = no_lines_fit; counted = none_counted t; clean_ranked = λ l m. m }

pub reasons_are : (R : List Rule) (A : Marks) {st₁ st₂ : Found}
    → st₁ ≡ found_at_rest false (replicate 16 0) A R no_lines → st₂ ≡ found_at_rest true st₁.ranked A R st₁
    → st₂ ≡ reasons_found R A
unfolding no_lines_yet clean_found reasons_found
reasons_are R A first e = e ∙ ap (λ (z : Found). found_at_rest true z.ranked A R z) first
