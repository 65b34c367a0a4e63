-- P1 to P12: each is computed, and the computation is what the definitions say. Assumes nothing.
use mathlib.Core.Bool.{Bool, true, not, ◌&&◌}
use mathlib.Core.List.Memᴰ
use mathlib.Core.List.{List, [], ◌∷◌}
use mathlib.Core.Logic.{⊎_elim}
use mathlib.Core.Path.{◌≡◌, refl, subst, subst⁻¹, sym, ap, ◌∙◌}
use Prim.Native.Nat.{ℕ, ◌*◌}
use lib.Dec.{T, T_not, eqb, eqb_refl, ltb, ltb→lt}
use Rattle.paper.specs.Rules.{Rule, OneRulePerHead, HeadsBelow}
use Rattle.sets.specs.Sets.{◌∈◌, count}
use Rattle.paper.specs.Definitions.{Interpretation, Model, WellSupported, SmallestWellSupported}
use Rattle.paper.specs.Marking.{Marks, Marking, Settled, inconsistent}
use Rattle.paper.specs.Examples.{Example, Says, values_from, all_literals, examples, P1, P2, P3, P4, P5, P6, P7, P8, P9, P10, P11, P12}
use Rattle.sets.proofs.Tests.{and_left, and_right}
use Rattle.paper.proofs.OtherModels.{each, no_more, P2-all, P6-all, P10-only_a_model}
use Rattle.paper.proofs.Closure.{held_set}
use Rattle.paper.proofs.Existence.{settled_marks, settled_marks_is, atoms_of, atoms_of_enough}
use Rattle.paper.proofs.Smallest.{smallest_set, smallest_set_is, smallest_set_is_any, smallest_any_unique, marks_made_are_inconsistent}

-- heads that differ from a given one; all different; all below
abbrev apart : ℕ → List Rule → Bool
apart h [] = true
apart h (ρ ∷ R) = not (eqb h ρ.head) && apart h R

abbrev distinct : List Rule → Bool
distinct [] = true
distinct (ρ ∷ R) = apart ρ.head R && distinct R

abbrev heads_below : ℕ → List Rule → Bool
heads_below N [] = true
heads_below N (ρ ∷ R) = ltb ρ.head (2 * N) && heads_below N R

apart→ : (h : ℕ) (R : List Rule) → T (apart h R) → (σ : Rule) → σ ∈ R → h ≡ σ.head → ⊥
apart→ h [] t σ m e = Memᴰ.not-nil m
apart→ h (ρ ∷ R) t σ m e =
    ⊎_elim
    (λ (p : σ ≡ ρ).
    T_not (eqb h ρ.head) (and_left (not (eqb h ρ.head)) (apart h R) t)
    (subst⁻¹ (λ (z : ℕ). T (eqb z ρ.head)) (e ∙ ap (λ (r : Rule). r.head) p) (eqb_refl ρ.head)))
    (λ (k : σ ∈ R). apart→ h R (and_right (not (eqb h ρ.head)) (apart h R) t) σ k e)
    (Memᴰ.cases_cons m)

pub distinct→one : (R : List Rule) → T (distinct R) → OneRulePerHead R
distinct→one [] t ρ σ m k e = absurd (Memᴰ.not-nil m)
distinct→one (τ ∷ R) t ρ σ m k e =
    let a = apart→ τ.head R (and_left (apart τ.head R) (distinct R) t) in
    ⊎_elim
    (λ (p : ρ ≡ τ).
    ⊎_elim (λ (q : σ ≡ τ). p ∙ sym q) (λ (j : σ ∈ R). absurd (a σ j (sym (ap (λ (r : Rule). r.head) p) ∙ e))) (Memᴰ.cases_cons k))
    (λ (i : ρ ∈ R).
    ⊎_elim (λ (q : σ ≡ τ). absurd (a ρ i (sym (ap (λ (r : Rule). r.head) q) ∙ sym e)))
    (λ (j : σ ∈ R). distinct→one R (and_right (apart τ.head R) (distinct R) t) ρ σ i j e) (Memᴰ.cases_cons k))
    (Memᴰ.cases_cons m)

pub heads_below→ : (N : ℕ) (R : List Rule) → T (heads_below N R) → HeadsBelow N R
heads_below→ N [] t ρ m = absurd (Memᴰ.not-nil m)
heads_below→ N (σ ∷ R) t ρ m =
    ⊎_elim (λ (e : ρ ≡ σ). rw e (ltb→lt σ.head (2 * N) (and_left (ltb σ.head (2 * N)) (heads_below N R) t)))
    (λ (k : ρ ∈ R). heads_below→ N R (and_right (ltb σ.head (2 * N)) (heads_below N R) t) ρ k) (Memᴰ.cases_cons m)

-- the computed values and marks are the example's
abbrev model : Example → Interpretation
model e = held_set e.rules (settled_marks e.rules (atoms_of e.rules))

-- a set with a literal that the smallest model lacks is not the smallest
lacks : (e : Example) → T (distinct e.rules) → (J : Interpretation) (l : ℕ)
    → T (J l) → T (not (model e l)) → SmallestWellSupported e.rules J → ⊥
unfolding smallest_set
lacks e d J l m n i =
    T_not (model e l) n (i.contained (model e) (smallest_set_is_any e.rules (distinct→one e.rules d)).well_supported l m)

says : (e : Example) → T (distinct e.rules) → T (heads_below e.atoms e.rules) → values_from (model e) 0 e.atoms ≡ e.values
    → count e.atoms (inconsistent (model e)) ≡ e.made
    → ((J : Interpretation) → J ∈ e.also → WellSupported e.rules J × (SmallestWellSupported e.rules J → ⊥))
    → ((J : Interpretation) → J ∈ e.only_models → Model e.rules J × (WellSupported e.rules J → ⊥)) → Says e
unfolding smallest_set
says e d b v c also only =
    let one : OneRulePerHead e.rules = distinct→one e.rules d in
    let made : ((n : ℕ) (A : Marks) → Marking e.rules n A → Settled e.rules A → n ≡ e.made) = λ n A k s.
    marks_made_are_inconsistent e.rules one k s (model e) (smallest_set_is e.rules one) e.atoms (heads_below→ e.atoms e.rules b) ∙ c in
    let A : Marks = settled_marks e.rules (atoms_of e.rules) in
    let k = settled_marks_is e.rules (atoms_of e.rules) (atoms_of_enough e.rules) in
    record {
      one_rule_per_head = one;
      smallest =
          λ I i. ap (λ (J : Interpretation). values_from J 0 e.atoms) (smallest_any_unique e.rules I (model e) i (smallest_set_is_any e.rules one))
          ∙ v;
      exists = (model e, smallest_set_is_any e.rules one);
      marks_made = made;
      settles = (A, subst (λ (n : ℕ). Marking e.rules n A) (made k.0 A k.1 k.2) k.1, k.2);
      also_well_supported = also;
      only_a_model = only;
    }

-- an example that speaks of no other set
alone : (e : Example) → T (distinct e.rules) → T (heads_below e.atoms e.rules) → values_from (model e) 0 e.atoms ≡ e.values
    → count e.atoms (inconsistent (model e)) ≡ e.made → e.also ≡ [] → e.only_models ≡ [] → Says e
alone e d b v c a o =
    says e d b v c (λ J m. no_more (subst (λ (l : List Interpretation). J ∈ l) a m)) (λ J m. no_more (subst (λ (l : List Interpretation). J ∈ l) o m))

pub all_say : (e : Example) → e ∈ examples → Says e
unfolding atoms_of count
all_say =
    each (alone P1 tt tt refl refl refl refl)
    (each (says P2 tt tt refl refl (each (P2-all, lacks P2 tt (all_literals 1) 0 tt tt) (λ J m. no_more m)) (λ J m. no_more m))
    (each (alone P3 tt tt refl refl refl refl) (each (alone P4 tt tt refl refl refl refl) (each (alone P5 tt tt refl refl refl refl)
    (each (says P6 tt tt refl refl (each (P6-all, lacks P6 tt (all_literals 2) 1 tt tt) (λ J m. no_more m)) (λ J m. no_more m))
    (each (alone P7 tt tt refl refl refl refl) (each (alone P8 tt tt refl refl refl refl) (each (alone P9 tt tt refl refl refl refl)
    (each (says P10 tt tt refl refl (λ J m. no_more m) (each P10-only_a_model (λ J m. no_more m)))
    (each (alone P11 tt tt refl refl refl refl) (each (alone P12 tt tt refl refl refl refl) (λ e m. no_more m))))))))))))
