-- From records within the limits to an accepted walk over their words.
use mathlib.Core.Path.{◌≡◌, refl, ap, ap₂, ◌∙◌}
use mathlib.Core.List.Memᴰ
use mathlib.Core.List.{List, [], ◌∷◌, ◌++◌, append_assoc}
use mathlib.Core.Bool.{Bool, false, not, ◌&&◌}
use Prim.Native.Nat.{ℕ, suc, ◌*◌, ◌≤◌, ◌<◌, zero-le}
use lib.ListN.{length}
use borrow.Author.Tests.{lt-ltb, le-leb}
use Rattle.sets.specs.Sets.{◌∈◌, ◌with◌}
use Rattle.refusal.specs.Numbers.{not_a_literal, out_of_range, second_rule}
use Rattle.refusal.specs.Checks.{Checked, asking, or_else}
use Rattle.words.specs.declared.Due.TheVariants.{Head, Line, Count, Size, Literal}
use Rattle.words.specs.Layout.{TableRecord, groups_words, words_of}
use Rattle.words.specs.Check.{code_fault, range_fault, fault, groups_due, literals_due, walk}
use Rattle.words.specs.Within.{GroupWithin}
use Rattle.words.proofs.Steps.{walk_faultless}
use Rattle.words.proofs.Good.{Good}
use Rattle.std.specs.Prelude.{Ok}

code_faultless : (N p w : ℕ) → w < 2 * N → code_fault N p w ≡ Ok tt
code_faultless N p w h = ap (λ (b : Bool). asking b (not_a_literal p) (Ok tt)) (lt-ltb w (2 * N) h)

range_faultless : (least most p w : ℕ) → least ≤ w → w ≤ most → range_fault least most p w ≡ Ok tt
range_faultless least most p w h h' =
    ap₂ (λ (b b' : Bool). asking (b && b') (out_of_range p) (Ok tt)) (le-leb least w h) (le-leb w most h')

head_faultless : (N : ℕ) (seen : ℕ → Bool) (p w : ℕ) → w < 2 * N → seen w ≡ false → fault N seen Head p w ≡ Ok tt
head_faultless N seen p w h e =
    ap₂ (λ (c : Checked) (b : Bool). or_else c (asking (not b) (second_rule p) (Ok tt))) (code_faultless N p w h) e

module _ (N : ℕ) (seen : ℕ → Bool) (rest : List ℕ) where
  accept_literals : (β : List ℕ) (g p : ℕ) → ((l : ℕ) → l ∈ β → l < 2 * N)
      → ((q : ℕ) → walk N seen (groups_due g) q rest ≡ Ok tt) → walk N seen (literals_due (length β) g) p (β ++ rest) ≡ Ok tt
  accept_literals [] g p below onward = onward p
  accept_literals (w ∷ β) g p below onward =
      walk_faultless N seen (Literal (length β) g) p w (β ++ rest) (code_faultless N p w (below w (Memᴰ.head refl)))
      ∙ accept_literals β g (suc p) (λ l m. below l (Memᴰ.tail m)) onward

accept_groups : (N : ℕ) (seen : ℕ → Bool) (rest : List ℕ) (βs : List (List ℕ)) (p : ℕ) → ((β : List ℕ) → β ∈ βs → GroupWithin N β)
    → ((q : ℕ) → walk N seen Head q rest ≡ Ok tt) → walk N seen (groups_due (length βs)) p (groups_words βs ++ rest) ≡ Ok tt
unfolding groups_words
accept_groups N seen rest [] p each onward = onward p
accept_groups N seen rest (β ∷ βs) p each onward =
    let one = each β (Memᴰ.head refl) in
    ap (λ (u : List ℕ). walk N seen (Size (length βs)) p (length β ∷ u)) (append_assoc β (groups_words βs) rest)
    ∙ walk_faultless N seen (Size (length βs)) p (length β) (β ++ (groups_words βs ++ rest))
    (range_faultless 1 64 p (length β) one.not_empty one.at_most_64)
    ∙ accept_literals N seen (groups_words βs ++ rest) β (length βs) (suc p) one.literals_below_lem
    (λ q. accept_groups N seen rest βs q (λ γ m. each γ (Memᴰ.tail m)) onward)

pub accept_records : (N : ℕ) (seen : ℕ → Bool) (Q : List TableRecord) (p : ℕ) → Good N seen Q → walk N seen Head p (words_of Q) ≡ Ok tt
unfolding walk words_of
accept_records N seen [] p good = refl
accept_records N seen (r ∷ Q) p good =
    let ρ = r.rule in
    let body = groups_words ρ.groups ++ words_of Q in
    walk_faultless N seen Head p ρ.head (r.line ∷ length ρ.groups ∷ body) (head_faultless N seen p ρ.head good.0 good.1)
    ∙ walk_faultless N (seen with ρ.head) Line (suc p) r.line (length ρ.groups ∷ body)
    (range_faultless 0 32768 (suc p) r.line zero-le good.2)
    ∙ walk_faultless N (seen with ρ.head) Count (suc (suc p)) (length ρ.groups) body
    (range_faultless 0 64 (suc (suc p)) (length ρ.groups) zero-le good.3.at_most_64)
    ∙ accept_groups N (seen with ρ.head) (words_of Q) ρ.groups (suc (suc (suc p))) good.3.each_group
    (λ q. accept_records N (seen with ρ.head) Q q good.4)
