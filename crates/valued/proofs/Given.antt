-- The interpretation that codes give has them as values, and has no literal of other atoms. Assumes nothing.
use mathlib.Core.Bool.{Bool, ◌&&◌, ◌||◌}
use mathlib.Core.List.{List}
use mathlib.Core.Path.{◌≡◌, refl, ap, ap₂, ◌∙◌}
use Prim.Native.Nat.{ℕ, zero, suc, ◌%◌, ◌*◌, ◌≤◌, ◌<◌}
use native.Mathlib.Omega.{arith}
use lib.Dec.{T, leb, ltb, eqb, ltb→lt, lt→ltb}
use lib.ListN.{get_or}
use Rattle.sets.proofs.Tests.{T→true, and_left}
use Rattle.paper.specs.Table1.{code}
use Rattle.paper.specs.Rules.{atom, negation}
use Rattle.paper.specs.Definitions.{by_membership, value}
use Rattle.paper.proofs.Leasts.{atom_negation}
use Rattle.values.specs.Given.{puts_literal, given}
use Rattle.valued.specs.Valued.{negated_code}

positive_code : (c : ℕ) → c ≤ 3 → code (by_membership (leb 2 c) (eqb c 0 || eqb c 2)) ≡ c
positive_code zero h = refl
positive_code (suc zero) h = refl
positive_code (suc (suc zero)) h = refl
positive_code (suc (suc (suc zero))) h = refl
positive_code (suc (suc (suc (suc c)))) h = absurd (omega arith)

negative_code : (c : ℕ) → c ≤ 3 → code (by_membership (eqb c 0 || eqb c 2) (leb 2 c)) ≡ negated_code c
negative_code zero h = refl
negative_code (suc zero) h = refl
negative_code (suc (suc zero)) h = refl
negative_code (suc (suc (suc zero))) h = refl
negative_code (suc (suc (suc (suc c)))) h = absurd (omega arith)

module _ (N : ℕ) (values : List ℕ) where
  -- a literal of the first N atoms is in as its code says
  given_inside : (l : ℕ) → atom l < N → given N values l ≡ puts_literal (get_or values (atom l) 0) l
  unfolding given
  given_inside l h = ap (λ (b : Bool). b && puts_literal (get_or values (atom l) 0) l) (T→true (ltb (atom l) N) (lt→ltb (atom l) N h))

  pub given_below : (l : ℕ) → T (given N values l) → l < 2 * N
  unfolding given
  given_below l h = omega (arith, ltb→lt (atom l) N (and_left (ltb (atom l) N) (puts_literal (get_or values (atom l) 0) l) h))

  module _ (l : ℕ) (below : l < 2 * N) (small : get_or values (atom l) 0 ≤ 3) where
    both_inside : value (given N values) l
        ≡ by_membership (puts_literal (get_or values (atom l) 0) l) (puts_literal (get_or values (atom l) 0) (negation l))
    both_inside =
        ap₂ by_membership (given_inside l (omega arith))
        (given_inside (negation l) (omega arith) ∙ ap (λ (a : ℕ). puts_literal (get_or values a 0) (negation l)) (atom_negation l))

    pub even_given : l % 2 ≡ 0 → code (value (given N values) l) ≡ get_or values (atom l) 0
    even_given e =
        let e' : negation l % 2 ≡ 1 = omega arith in
        ap code both_inside ∙ rw (e', e) (positive_code (get_or values (atom l) 0) small)

    pub odd_given : (l % 2 ≡ 0 → ⊥) → code (value (given N values) l) ≡ negated_code (get_or values (atom l) 0)
    odd_given n =
        let e : l % 2 ≡ 1 = omega arith in
        let e' : negation l % 2 ≡ 0 = omega arith in
        ap code both_inside ∙ rw (e', e) (negative_code (get_or values (atom l) 0) small)
