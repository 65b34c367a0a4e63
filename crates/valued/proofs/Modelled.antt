-- The rules of a table, satisfied one after the other. Assumes nothing.
use mathlib.Core.Bool.{Bool}
use mathlib.Core.List.Memᴰ
use mathlib.Core.List.{List, [], ◌∷◌, ◌++◌}
use mathlib.Core.Logic.{⊎_elim}
use mathlib.Core.Path.{◌≡◌, refl, sym, ap, ◌∙◌, subst⁻¹}
use Prim.Native.Nat.{ℕ, ◌≤◌, ◌<◌}
use native.Mathlib.Omega.{arith}
use lib.ListN.{length}
use Rattle.std.specs.Prelude.{Some, None, Ok, Err}
use Rattle.sets.specs.Sets.{◌∈◌}
use Rattle.sets.specs.First.{FirstNot}
use Rattle.sets.proofs.First.{All, first_behind, all_nil, all_behind}
use Rattle.refusal.specs.Checks.{Checked}
use Rattle.refusal.specs.Numbers.{not_a_model}
use Rattle.paper.specs.Table1.{𝐭, code, ◌implies◌}
use Rattle.paper.specs.Rules.{Rule}
use Rattle.paper.specs.Definitions.{Interpretation, value, body_value, Model}
use Rattle.words.specs.Check.{AcceptedTable}
use Rattle.words.specs.Layout.{TableRecord, rules_in}
use Rattle.valued.specs.Valued.{follows_code, satisfied_at, FollowedBy, is_satisfied, is_not}
use Rattle.valued.specs.Model.{Satisfied, ModelAllows, is_a_model, is_none}
use Rattle.valued.proofs.Valuing.{follows→, not_follows}
use Rattle.valued.proofs.Through.{Through, This, through_start, through_next, through_end, place_of}

-- a rule alone is satisfied where its implication is t
alone : (I : Interpretation) (ρ : Rule) → (body_value I ρ.groups implies value I ρ.head) ≡ 𝐭 → Model (ρ ∷ []) I
alone I ρ h σ m =
    ⊎_elim (λ (e : σ ≡ ρ). subst⁻¹ (λ (x : Rule). (body_value I x.groups implies value I x.head) ≡ 𝐭) e h)
    (λ (k : σ ∈ []). absurd (Memᴰ.not-nil k)) (Memᴰ.cases_cons m)

-- records whose rules are satisfied have a model
pub all_satisfied : (I : Interpretation) (Q : List TableRecord) → All (Satisfied I) Q → Model (rules_in Q) I
all_satisfied I [] a ρ m = absurd (Memᴰ.not-nil m)
all_satisfied I (r ∷ Q) a ρ m =
    ⊎_elim (λ (e : ρ ≡ r.rule). a r (Memᴰ.head refl) ρ (subst⁻¹ (λ (x : Rule). x ∈ (r.rule ∷ [])) e (Memᴰ.head refl)))
    (λ (k : ρ ∈ rules_in Q). all_satisfied I Q (λ x i. a x (Memᴰ.tail i)) ρ k) (Memᴰ.cases_cons m)

module _ (I : Interpretation) (t : List ℕ) where
  -- the rules before a place are satisfied
  pub record Satisfying (at : ℕ) : Type 0 where
    pub passed : List TableRecord
    pub through : Through t passed at
    pub satisfied : All (Satisfied I) passed

  pub satisfying_start : (N : ℕ) → AcceptedTable N t → Satisfying 0
  satisfying_start N a = record { passed = []; through = through_start N t a; satisfied = all_nil (Satisfied I) }

  module _ (at : ℕ) (w : Satisfying at) (h : This t w.passed at w.through) where
    test : {b : Bool} → satisfied_at I t at ≡ b → follows_code (code (body_value I h.this.rule.groups)) (code (value I h.this.rule.head)) ≡ b
    test e = sym (ap (λ (ρ : Rule). follows_code (code (body_value I ρ.groups)) (code (value I ρ.head))) h.rule_is) ∙ e

    pub satisfying_next : {next : ℕ} → FollowedBy I t at (Some next) → Satisfying next
    satisfying_next {next} (is_satisfied e s) =
        let ρ = h.this.rule in
        record {
          passed = w.passed ++ h.this ∷ [];
          through = through_next t w.passed at next w.through h s;
          satisfied = all_behind (Satisfied I) w.passed h.this w.satisfied
              (alone I ρ (follows→ (body_value I ρ.groups) (value I ρ.head) (test e)));
        }

    pub not_satisfied : {r : Checked} → FollowedBy I t at None → r ≡ Err (not_a_model at) → ModelAllows I t r
    not_satisfied (is_not e) er =
        let ρ = h.this.rule in
        let P = w.passed in
        let first : FirstNot (Satisfied I) (P ++ h.this ∷ h.others) (length P) =
        first_behind (Satisfied I) P h.this h.others w.satisfied
        (λ m. not_follows (body_value I ρ.groups) (value I ρ.head) (test e) (m ρ (Memᴰ.head refl)))
        in
        subst⁻¹ (ModelAllows I t) (er ∙ ap (λ (p : ℕ). Err (not_a_model p)) (place_of t P at w.through))
        (is_none (subst⁻¹ (λ (Q : List TableRecord). FirstNot (Satisfied I) Q (length P))
        (w.through.split ∙ ap (λ (Q : List TableRecord). P ++ Q) h.rest_is) first))

  pub next_later : {at next : ℕ} → FollowedBy I t at (Some next) → at < next
  next_later (is_satisfied e s) = let k = s.not_before in omega arith

  pub all_of_table : (at : ℕ) → length t ≤ at → Satisfying at → ModelAllows I t (Ok tt)
  all_of_table at le w =
      is_a_model (subst⁻¹ (λ (Q : List TableRecord). Model (rules_in Q) I) (through_end t w.passed at le w.through)
      (all_satisfied I w.passed w.satisfied))
