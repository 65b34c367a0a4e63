-- Stage: when a rule fires for a set, as a test.
use Rattle.std.specs.Prelude.{Bool, true, false, ◌&&◌, ◌||◌, List, [], ◌∷◌, ℕ}
use Rattle.paper.specs.Rules.{Rule}

-- all literals of a group are in the set
abbrev pub wholly : (ℕ → Bool) → List ℕ → Bool
wholly S [] = true
wholly S (l ∷ β) = S l && wholly S β

abbrev pub some_wholly : (ℕ → Bool) → List (List ℕ) → Bool
some_wholly S [] = false
some_wholly S (β ∷ βs) = wholly S β || some_wholly S βs

abbrev pub no_groups : List (List ℕ) → Bool
no_groups [] = true
no_groups (β ∷ βs) = false

-- a rule that is a fact or has a group wholly in the set
abbrev pub fires : (ℕ → Bool) → Rule → Bool
fires S ρ = no_groups ρ.groups || some_wholly S ρ.groups
