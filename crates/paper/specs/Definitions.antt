-- Believed: Definitions 5, 6, 8 and 9 of the paper, as printed; the smallest well-supported model.
use Rattle.std.specs.Prelude.{List, [], ◌∷◌, Bool, true, false, ◌⊎◌, ◌≡◌, ℕ, T}
use Rattle.paper.specs.Table1.{Value, 𝐟, 𝐮, 𝐢, 𝐭, ◌and◌, ◌or◌, ◌implies◌}
use Rattle.paper.specs.Rules.{Rule, negation, IsRuleOf}
use Rattle.sets.specs.Sets.{◌∈◌, ◌⊆◌}

-- Definition 5: an interpretation is any set of literals
abbrev pub Interpretation : Type 0
Interpretation = ℕ → Bool

-- Definition 5's four cases: is the literal in the set, is its negation
abbrev pub by_membership : Bool → Bool → Value
by_membership true false = 𝐭
by_membership true true = 𝐢
by_membership false false = 𝐮
by_membership false true = 𝐟

-- Definition 5: the truth value of a literal
abbrev pub value : Interpretation → ℕ → Value
value I l = by_membership (I l) (I (negation l))

-- a group is the AND of its literals
unfoldable pub group_value : Interpretation → List ℕ → Value
group_value I [] = 𝐭
group_value I (l ∷ β) = value I l and group_value I β

-- the OR of groups
unfoldable pub any_value : Interpretation → List (List ℕ) → Value
any_value I [] = 𝐟
any_value I (β ∷ βs) = group_value I β or any_value I βs

-- a body is the OR of its groups; the empty body takes the value t (Definition 6)
unfoldable pub body_value : Interpretation → List (List ℕ) → Value
body_value I [] = 𝐭
body_value I (β ∷ βs) = any_value I (β ∷ βs)

-- Definition 6: each rule's implication is t
abbrev pub Model : List Rule → Interpretation → Type 0
Model R I = (ρ : Rule) → ρ ∈ R → (body_value I ρ.groups implies value I ρ.head) ≡ 𝐭

-- a strict partial order on I
pub record StrictOrder (I : Interpretation) (before : ℕ → ℕ → Type 0) : Type 0 where
  pub irreflexive : (x : ℕ) → T (I x) → before x x → ⊥
  pub transitive : (x y z : ℕ) → T (I x) → T (I y) → T (I z) → before x y → before y z → before x z

-- there is a group of ρ with value v, all of whose literals stand before head(ρ)
abbrev pub Carries : Interpretation → (ℕ → ℕ → Type 0) → Rule → Value → Type 0
Carries I before ρ v =
    (β : List ℕ) × (β ∈ ρ.groups) × (group_value I β ≡ v) × ((ι : ℕ) → ι ∈ β → before ι ρ.head)

-- Definition 8: I supports ρ
abbrev pub Supports : Interpretation → (ℕ → ℕ → Type 0) → Rule → Type 0
Supports I before ρ = (ρ.groups ≡ []) ⊎ Carries I before ρ 𝐭

-- Definition 9, conditions (6) and (7): I supports rule(l)
abbrev pub SupportsRuleOf : List Rule → Interpretation → (ℕ → ℕ → Type 0) → ℕ → Type 0
SupportsRuleOf R I before l = (ρ : Rule) × IsRuleOf R l ρ × Supports I before ρ

-- Definition 9, condition (8): rule(l) or rule(-l) with body exactly i has an i group before that rule's head
abbrev pub RestsOnInconsistent : List Rule → Interpretation → (ℕ → ℕ → Type 0) → ℕ → Type 0
RestsOnInconsistent R I before l =
    (ϱ : Rule) × (IsRuleOf R l ϱ ⊎ IsRuleOf R (negation l) ϱ) × (body_value I ϱ.groups ≡ 𝐢) × Carries I before ϱ 𝐢

-- Definition 9 for one order
pub record WellSupportedBy (R : List Rule) (I : Interpretation) (before : ℕ → ℕ → Type 0) : Type 0 where
  pub model : Model R I
  pub order : StrictOrder I before
  pub condition_6 : (l : ℕ) → T (I l) → value I l ≡ 𝐭 → SupportsRuleOf R I before l
  pub condition_7_or_8 : (l : ℕ) → T (I l) → value I l ≡ 𝐢 → SupportsRuleOf R I before l ⊎ RestsOnInconsistent R I before l

-- Definition 9: there is a strict partial order, of any kind
abbrev pub WellSupported : List Rule → Interpretation → Type 1
WellSupported R I = (before : ℕ → ℕ → Type 0) × WellSupportedBy R I before

-- a well-supported model that is contained in every other
pub record SmallestWellSupported (R : List Rule) (I : Interpretation) : Type 1 where
  pub well_supported : WellSupported R I
  pub contained : (M : Interpretation) → WellSupported R M → I ⊆ M

-- the same where the order is a test, so that a contract can say it; proofs/Theorems.antt shows that it is no other model
abbrev pub WellSupportedByTest : List Rule → Interpretation → Type 0
WellSupportedByTest R I = (before : ℕ → ℕ → Bool) × WellSupportedBy R I (λ x y. T (before x y))

pub record Smallest (R : List Rule) (I : Interpretation) : Type 0 where
  pub well_supported : WellSupportedByTest R I
  pub contained : (M : Interpretation) → WellSupportedByTest R M → I ⊆ M
