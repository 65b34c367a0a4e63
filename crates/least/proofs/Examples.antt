-- Which group of small bodies is wholly in small sets, by the definition.
use mathlib.Core.Bool.{Bool}
use mathlib.Core.List.{[], ◌∷◌, cons≢nil}
use mathlib.Core.Path.{refl}
use Prim.Native.Nat.{ℕ}
use lib.Dec.{eqb}
use Rattle.paper.specs.Rules.{positive, negative}
use Rattle.least.specs.Groups.{WhichAllows, is_a_fact}
use Rattle.least.specs.Walk.{which_from}
use Rattle.least.proofs.Groups.{walk_allowed}
use Rattle.std.specs.Prelude.{Some, None}

-- p is 0, q 1, r 2; `eqb l` is the set that has l alone

-- "p", whatever is in the set
fact_is_0 : (S : ℕ → Bool) → WhichAllows S [] (Some 0)
fact_is_0 S = is_a_fact refl

-- "p: q / r" and {r}: the second
second_group : WhichAllows (eqb (positive 2)) ((positive 1 ∷ []) ∷ (positive 2 ∷ []) ∷ []) (Some 2)
unfolding which_from
second_group = walk_allowed (eqb (positive 2)) _ cons≢nil refl

-- "p: q / q" and {q}: of equal groups the first
equal_groups : WhichAllows (eqb (positive 1)) ((positive 1 ∷ []) ∷ (positive 1 ∷ []) ∷ []) (Some 1)
unfolding which_from
equal_groups = walk_allowed (eqb (positive 1)) _ cons≢nil refl

-- "p: q q / p" and {p}: the head in its own body
head_in_its_body : WhichAllows (eqb (positive 0)) ((positive 1 ∷ positive 1 ∷ []) ∷ (positive 0 ∷ []) ∷ []) (Some 2)
unfolding which_from
head_in_its_body = walk_allowed (eqb (positive 0)) _ cons≢nil refl

-- "p: q -q" and {q}: none
opposite_literals : WhichAllows (eqb (positive 1)) ((positive 1 ∷ negative 1 ∷ []) ∷ []) None
unfolding which_from
opposite_literals = walk_allowed (eqb (positive 1)) _ cons≢nil refl
