-- Believed: literals, rules and sets of rules: section 3.1 of the paper, with document 01's literal codes.
use Rattle.std.specs.Prelude.{List, ◌≡◌, ℕ, ◌+◌, ◌-◌, ◌*◌, ◌/◌, ◌%◌, ◌<◌}
use Rattle.sets.specs.Sets.{◌∈◌}

-- literal code: 2 × atom, plus 1 for the negation
abbrev pub positive : ℕ → ℕ
positive a = 2 * a

abbrev pub negative : ℕ → ℕ
negative a = 2 * a + 1

abbrev pub atom : ℕ → ℕ
atom l = l / 2

-- the same atom with the other sign
abbrev pub negation : ℕ → ℕ
negation l = 2 * (l / 2) + (1 - l % 2)

-- a rule: head and groups; a rule without groups is a fact (Definition 1)
pub record Rule : Type 0 where
  pub head : ℕ
  pub groups : List (List ℕ)

-- "for each head there is only one rule"
abbrev pub OneRulePerHead : List Rule → Type 0
OneRulePerHead R = (ρ σ : Rule) → ρ ∈ R → σ ∈ R → ρ.head ≡ σ.head → ρ ≡ σ

-- rule(l) is ρ
abbrev pub IsRuleOf : List Rule → ℕ → Rule → Type 0
IsRuleOf R l ρ = (ρ ∈ R) × (ρ.head ≡ l)

-- every head belongs to one of N atoms
abbrev pub HeadsBelow : ℕ → List Rule → Type 0
HeadsBelow N R = (ρ : Rule) → ρ ∈ R → ρ.head < 2 * N
