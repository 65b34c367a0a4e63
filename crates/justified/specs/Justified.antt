-- Believed: when a line of a reason sheet is justified: Definitions 8 and 9 with the rule and the group that it names, and no other.
use Rattle.std.specs.Prelude.{List, [], ◌∷◌, ◌≡◌, ℕ}
use Rattle.paper.specs.Table1.{𝐢}
use Rattle.paper.specs.Rules.{Rule, IsRuleOf}
use Rattle.paper.specs.Definitions.{Interpretation, value, body_value, SupportsRuleOf, RestsOnInconsistent}
use Rattle.least.specs.Groups.{OnlyGroup}

-- a line for the literal l: by (6) or (7), or by (8) if l is i and so is the whole body of the rule that it names
pub data Justified (R : List Rule) (I : Interpretation) (before : ℕ → ℕ → Type 0) (l head group : ℕ) : Type 0 where
  by_6_or_7 : (ρ σ : Rule) → IsRuleOf R head ρ → OnlyGroup ρ group σ → SupportsRuleOf (σ ∷ []) I before l → Justified R I before l head group
  by_8 : (ρ σ : Rule) → IsRuleOf R head ρ → OnlyGroup ρ group σ → value I l ≡ 𝐢 → body_value I ρ.groups ≡ 𝐢
      → RestsOnInconsistent (σ ∷ []) I before l → Justified R I before l head group
