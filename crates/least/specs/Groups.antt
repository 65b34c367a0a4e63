-- Believed: which group of a body is wholly in a set: the number of the lowest, counted from 1, 0 for a fact, or none.
use Rattle.std.specs.Prelude.{List, [], ◌∷◌, ◌≡◌, Bool, ℕ, suc, ◌<◌, T, Some, None, Option}
use Rattle.sets.specs.Sets.{◌∈◌}
use Rattle.paper.specs.Rules.{Rule}

-- β is the group of number g of a body, counted from 1
pub data GroupNumber : List (List ℕ) → ℕ → List ℕ → Type 0 where
  first_group : {β : List ℕ} {βs : List (List ℕ)} → GroupNumber (β ∷ βs) 1 β
  later_group : {β γ : List ℕ} {βs : List (List ℕ)} {g : ℕ} → GroupNumber βs g γ → GroupNumber (β ∷ βs) (suc g) γ

-- all literals of a group are in the set
abbrev pub Wholly : (ℕ → Bool) → List ℕ → Type 0
Wholly S β = (ι : ℕ) → ι ∈ β → T (S ι)

-- 0: a fact; g from 1 on: the group of that number is wholly in the set, and no lower one is; none: no fact, and no group is wholly in the set
pub data WhichAllows (S : ℕ → Bool) (βs : List (List ℕ)) : Option ℕ → Type 0 where
  is_a_fact : βs ≡ [] → WhichAllows S βs (Some 0)
  lowest_is : {g : ℕ} {β : List ℕ} → GroupNumber βs g β → Wholly S β
      → ((h : ℕ) (γ : List ℕ) → h < g → GroupNumber βs h γ → Wholly S γ → ⊥) → WhichAllows S βs (Some g)
  is_none : (βs ≡ [] → ⊥) → ((β : List ℕ) → β ∈ βs → Wholly S β → ⊥) → WhichAllows S βs None

-- the rule that is named by a group's number: σ is ρ with no group but that of number g; 0 names a fact as it is
pub data OnlyGroup (ρ : Rule) : ℕ → Rule → Type 0 where
  the_fact : ρ.groups ≡ [] → OnlyGroup ρ 0 ρ
  the_group : {g : ℕ} {β : List ℕ} → GroupNumber ρ.groups g β → OnlyGroup ρ g (record { head = ρ.head; groups = β ∷ [] })
