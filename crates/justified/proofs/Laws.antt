-- A justified line's literal satisfies Definition 9's condition in all the rules. Assumes nothing.
use mathlib.Core.List.Memᴰ
use mathlib.Core.List.{List, [], ◌∷◌}
use mathlib.Core.Logic.{◌⊎◌, inl, inr, ⊎_elim}
use mathlib.Core.Path.{◌≡◌, refl, sym, ap, subst, subst⁻¹, ◌∙◌}
use Prim.Native.Nat.{ℕ, ◌≤◌, ◌<◌}
use native.Mathlib.Omega.{arith}
use lib.Dec.{T}
use Rattle.paper.specs.Table1.{Value, 𝐢, 𝐭, code}
use Rattle.paper.specs.Rules.{Rule, IsRuleOf}
use Rattle.paper.specs.Definitions.{Interpretation, value, Carries, Supports, Model, StrictOrder, SupportsRuleOf, RestsOnInconsistent, WellSupportedBy}
use Rattle.paper.proofs.Values.{group_member, 𝐢→negation}
use Rattle.least.specs.Groups.{OnlyGroup, the_fact, the_group}
use Rattle.least.proofs.Groups.{only→supports, only→carries}
use Rattle.justified.specs.Justified.{Justified, by_6_or_7, by_8}

-- the rule that a number names has the whole rule's head
pub only_head : {ρ σ : Rule} {g : ℕ} → OnlyGroup ρ g σ → σ.head ≡ ρ.head
only_head (the_fact e) = refl
only_head (the_group n) = refl

-- what is rule(l) in a list of one rule is that rule
the_one_rule : {σ τ : Rule} {l : ℕ} → IsRuleOf (σ ∷ []) l τ → τ ≡ σ
the_one_rule q = Memᴰ.eq_of_singleton q.0

-- where the rule that a number names is rule(l), so is the whole rule
only→whole : (R : List Rule) {ρ σ τ : Rule} {h g l : ℕ} → IsRuleOf R h ρ → OnlyGroup ρ g σ → IsRuleOf (σ ∷ []) l τ → IsRuleOf R l ρ
only→whole R r o q = (r.0, sym (only_head o) ∙ ap (λ (z : Rule). z.head) (sym (the_one_rule q)) ∙ q.1)

module _ (R : List Rule) (I : Interpretation) (before : ℕ → ℕ → Type 0) {l h g : ℕ} where
  only→supports_rule : {ρ σ : Rule} → IsRuleOf R h ρ → OnlyGroup ρ g σ → SupportsRuleOf (σ ∷ []) I before l → SupportsRuleOf R I before l
  only→supports_rule {ρ = ρ} r o s =
      (ρ, only→whole R r o s.1, only→supports I before ρ o (subst (Supports I before) (the_one_rule s.1) s.2))

  pub justified→condition_6 : value I l ≡ 𝐭 → Justified R I before l h g → SupportsRuleOf R I before l
  justified→condition_6 t (by_6_or_7 ρ σ r o s) = only→supports_rule r o s
  justified→condition_6 t (by_8 ρ σ r o i b q) = let k : code 𝐭 ≡ code 𝐢 = ap code (sym t ∙ i) in absurd (omega arith)

  pub justified→condition_7_or_8 : Justified R I before l h g → SupportsRuleOf R I before l ⊎ RestsOnInconsistent R I before l
  justified→condition_7_or_8 (by_6_or_7 ρ σ r o s) = inl (only→supports_rule r o s)
  justified→condition_7_or_8 (by_8 ρ σ r o i b q) = inr (
    ρ,
    ⊎_elim (λ e. inl (only→whole R r o e)) (λ e. inr (only→whole R r o e)) q.1,
    b,
    only→carries I before ρ o (subst (λ (z : Rule). Carries I before z 𝐢) (⊎_elim the_one_rule the_one_rule q.1) q.3),
  )

module _ (I : Interpretation) (rank : ℕ → ℕ) where
  -- ranks are a strict order
  pub smaller_rank_strict : StrictOrder I (λ x y. rank x < rank y)
  smaller_rank_strict = record { irreflexive = λ x m b. omega arith; transitive = λ x y z mx my mz b c. omega arith }

  pub justified→well_supported : (R : List Rule) → Model R I
      → ((l : ℕ) → T (I l) → (h : ℕ) × (g : ℕ) × Justified R I (λ x y. rank x < rank y) l h g) → WellSupportedBy R I
      (λ x y. rank x < rank y)
  justified→well_supported R model line =
      record {
        model = model;
        order = smaller_rank_strict;
        condition_6 = λ l m t. justified→condition_6 R I (λ x y. rank x < rank y) t (line l m).2;
        condition_7_or_8 = λ l m i. justified→condition_7_or_8 R I (λ x y. rank x < rank y) (line l m).2;
      }

-- a justified line of a literal of I stays justified where more literals of I stand before others
module _ (I : Interpretation) {before before' : ℕ → ℕ → Type 0} (f : (x y : ℕ) → T (I x) → T (I y) → before x y → before' x y) where
  carries_on : {ρ : Rule} {v : Value} → 2 ≤ code v → T (I ρ.head) → Carries I before ρ v → Carries I before' ρ v
  carries_on {ρ} two m c =
      (c.0, c.1, c.2, λ ι i. f ι ρ.head (group_member I c.0 (subst⁻¹ (λ (w : Value). 2 ≤ code w) c.2 two) ι i) m (c.3 ι i))

  pub justified_on : {R : List Rule} {l h g : ℕ} → T (I l) → Justified R I before l h g → Justified R I before' l h g
  justified_on {l = l} m (by_6_or_7 ρ σ r o s) =
      by_6_or_7 ρ σ r o (
        s.0,
        s.1,
        ⊎_elim inl (λ (c : Carries I before s.0 𝐭). inr (carries_on (omega arith) (subst⁻¹ (λ (x : ℕ). T (I x)) s.1.1 m) c)) s.2,
      )
  justified_on {l = l} m (by_8 ρ σ r o i b q) =
      by_8 ρ σ r o i b (
        q.0,
        q.1,
        q.2,
        carries_on (omega arith)
            (⊎_elim (λ k. subst⁻¹ (λ (x : ℕ). T (I x)) k.1 m) (λ k. subst⁻¹ (λ (x : ℕ). T (I x)) k.1 (𝐢→negation I l i)) q.1)
            q.3,
      )
