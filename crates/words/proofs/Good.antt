-- The records that a walk reads from a head on, and the same said of each record and rule.
use mathlib.Core.Path.{◌≡◌, refl, sym, ap, ◌∙◌, subst}
use mathlib.Core.Logic.{⊎_elim}
use mathlib.Core.List.Memᴰ
use mathlib.Core.List.{List, [], ◌∷◌}
use mathlib.Core.Bool.{Bool, true, false, cond, true≢false}
use Prim.Native.Nat.{ℕ, ◌*◌, ◌≤◌, ◌<◌}
use lib.Dec.{eqb}
use borrow.Author.Tests.{ne_eqb, eqb-false}
use Rattle.limits.specs.Limits.{most_line}
use Rattle.paper.specs.Rules.{Rule, HeadsBelow}
use Rattle.sets.specs.Sets.{◌∈◌, ◌with◌}
use Rattle.words.specs.Layout.{TableRecord, rules_in}
use Rattle.words.specs.Within.{DistinctHeads, BodyWithin}

-- the records that a walk from a head reads, with the heads seen before them
abbrev pub Good : ℕ → (ℕ → Bool) → List TableRecord → Type 0
Good N seen [] = Unit {0}
Good N seen (r ∷ Q) =
    (r.rule.head < 2 * N) × (seen r.rule.head ≡ false) × (r.line ≤ most_line) × BodyWithin N r.rule.groups
    × Good N (seen with r.rule.head) Q

unseen_before : (seen : ℕ → Bool) (h x : ℕ) → (seen with h) x ≡ false → (x ≡ h → ⊥) × (seen x ≡ false)
unseen_before seen h x e = by (eqb x h) refl e
  where
    by : (b : Bool) → eqb x h ≡ b → cond b true (seen x) ≡ false → (x ≡ h → ⊥) × (seen x ≡ false)
    by true q f = absurd (true≢false f)
    by false q f = (eqb-false x h q, f)

unseen_after : (seen : ℕ → Bool) (h x : ℕ) → (x ≡ h → ⊥) → seen x ≡ false → (seen with h) x ≡ false
unseen_after seen h x ne e = ap (λ (b : Bool). cond b true (seen x)) (ne_eqb x h ne) ∙ e

good_unseen : (N : ℕ) (seen : ℕ → Bool) (Q : List TableRecord) → Good N seen Q → (σ : Rule) → σ ∈ rules_in Q → seen σ.head ≡ false
good_unseen N seen [] good σ m = absurd (Memᴰ.not-nil m)
good_unseen N seen (r ∷ Q) good σ m =
    ⊎_elim (λ (e : σ ≡ r.rule). ap (λ (x : Rule). seen x.head) e ∙ good.1)
    (λ m'. (unseen_before seen r.rule.head σ.head (good_unseen N (seen with r.rule.head) Q good.4 σ m')).1)
    (Memᴰ.cases_cons m)

pub good_heads : (N : ℕ) (seen : ℕ → Bool) (Q : List TableRecord) → Good N seen Q → HeadsBelow N (rules_in Q)
good_heads N seen [] good σ m = absurd (Memᴰ.not-nil m)
good_heads N seen (r ∷ Q) good σ m =
    ⊎_elim (λ (e : σ ≡ r.rule). subst (λ (x : Rule). x.head < 2 * N) (sym e) good.0)
    (good_heads N (seen with r.rule.head) Q good.4 σ) (Memᴰ.cases_cons m)

pub good_lines : (N : ℕ) (seen : ℕ → Bool) (Q : List TableRecord) → Good N seen Q → (r : TableRecord) → r ∈ Q → r.line ≤ most_line
good_lines N seen [] good s m = absurd (Memᴰ.not-nil m)
good_lines N seen (r ∷ Q) good s m =
    ⊎_elim (λ (e : s ≡ r). subst (λ (x : TableRecord). x.line ≤ most_line) (sym e) good.2)
    (good_lines N (seen with r.rule.head) Q good.4 s) (Memᴰ.cases_cons m)

pub good_distinct : (N : ℕ) (seen : ℕ → Bool) (Q : List TableRecord) → Good N seen Q → DistinctHeads (rules_in Q)
unfolding DistinctHeads
good_distinct N seen [] good = tt
good_distinct N seen (r ∷ Q) good = (
  λ σ m. (unseen_before seen r.rule.head σ.head (good_unseen N (seen with r.rule.head) Q good.4 σ m)).0,
  good_distinct N (seen with r.rule.head) Q good.4,
)

pub good_bodies : (N : ℕ) (seen : ℕ → Bool) (Q : List TableRecord) → Good N seen Q → (ρ : Rule) → ρ ∈ rules_in Q → BodyWithin N ρ.groups
good_bodies N seen [] good σ m = absurd (Memᴰ.not-nil m)
good_bodies N seen (r ∷ Q) good σ m =
    ⊎_elim (λ (e : σ ≡ r.rule). subst (λ (x : Rule). BodyWithin N x.groups) (sym e) good.3)
    (good_bodies N (seen with r.rule.head) Q good.4 σ) (Memᴰ.cases_cons m)

pub good_of : (N : ℕ) (seen : ℕ → Bool) (Q : List TableRecord) → HeadsBelow N (rules_in Q) → DistinctHeads (rules_in Q)
    → ((r : TableRecord) → r ∈ Q → r.line ≤ most_line) → ((ρ : Rule) → ρ ∈ rules_in Q → BodyWithin N ρ.groups)
    → ((ρ : Rule) → ρ ∈ rules_in Q → seen ρ.head ≡ false) → Good N seen Q
unfolding DistinctHeads
good_of N seen [] below distinct lines bodies unseen = tt
good_of N seen (r ∷ Q) below distinct lines bodies unseen = (
  below r.rule (Memᴰ.head refl),
  unseen r.rule (Memᴰ.head refl),
  lines r (Memᴰ.head refl),
  bodies r.rule (Memᴰ.head refl),
  good_of N (seen with r.rule.head) Q (λ σ m. below σ (Memᴰ.tail m)) distinct.1 (λ s m. lines s (Memᴰ.tail m))
      (λ σ m. bodies σ (Memᴰ.tail m))
      (λ σ m. unseen_after seen r.rule.head σ.head (distinct.0 σ m) (unseen σ (Memᴰ.tail m))),
)
