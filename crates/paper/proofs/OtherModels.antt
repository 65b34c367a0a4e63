-- The models of P2, P6 and P10 beside the smallest, straight from the definitions. Assumes nothing.
use mathlib.Core.List.Memᴰ
use mathlib.Core.List.{List, [], ◌∷◌}
use mathlib.Core.Logic.{◌⊎◌, inl, inr, ⊎_elim}
use mathlib.Core.Path.{◌≡◌, refl, subst⁻¹, sym, ap, ◌∙◌}
use Prim.Native.Nat.{ℕ, zero, suc}
use native.Mathlib.Omega.{arith}
use lib.Dec.{T, ltb, ltb→lt, lt→ltb}
use Rattle.paper.specs.Table1.{𝐢, code}
use Rattle.paper.specs.Rules.{Rule, positive, negative, negation}
use Rattle.sets.specs.Sets.{◌∈◌}
use Rattle.paper.specs.Definitions.{value, group_value, any_value, body_value, Model, SupportsRuleOf, RestsOnInconsistent, WellSupported}
use Rattle.paper.specs.Examples.{P2, P6, P10, all_literals, all_but_negative_b}
use Rattle.sets.proofs.Tests.{T→true}
use Rattle.sets.proofs.Numbers.{down_from, down_from_has}

-- a statement of each member of a list, one by one
pub each {ℓ} : {A : Type 0} {P : A → Type ℓ} {x : A} {l : List A} → P x → ((y : A) → y ∈ l → P y) → (y : A) → y ∈ (x ∷ l) → P y
each {P = P} h f y m = ⊎_elim (λ e. subst⁻¹ P e h) (λ k. f y k) (Memᴰ.cases_cons m)

pub no_more {ℓ} : {A : Type 0} {C : Type ℓ} {y : A} → y ∈ [] → C
no_more m = absurd (Memᴰ.not-nil m)

-- both literals of each of N atoms: each is i
all_i : (N l : ℕ) → T (all_literals N l) → value (all_literals N) l ≡ 𝐢
all_i N l m =
    let k = ltb→lt l (positive N) m in
    rw (T→true (all_literals N l) m, T→true (all_literals N (negation l)) (lt→ltb (negation l) (positive N) (omega arith)))

-- before by place
abbrev by_place : (ℕ → ℕ) → ℕ → ℕ → Type 0
by_place place x y = T (ltb (place x) (place y))

-- all literals of N atoms, where each rests on a rule by (7) or (8)
all_well_supported : (N : ℕ) (R : List Rule) (place : ℕ → ℕ) → Model R (all_literals N)
    → ((l : ℕ) → l ∈ down_from (positive N)
    → SupportsRuleOf R (all_literals N) (by_place place) l ⊎ RestsOnInconsistent R (all_literals N) (by_place place) l)
    → WellSupported R (all_literals N)
all_well_supported N R place m f = (
  by_place place,
  record {
    model = m;
    order =
        record {
          irreflexive = λ x i b. let k = ltb→lt (place x) (place x) b in omega arith;
          transitive = λ x y z i j k b c.
              let p = ltb→lt (place x) (place y) b in
              let q = ltb→lt (place y) (place z) c in
              lt→ltb (place x) (place z) (omega arith);
        };
    condition_6 = λ l i e. let c : ◌≡◌ {A = ℕ} 2 3 = ap code (sym (all_i N l i) ∙ e) in absurd (omega arith);
    condition_7_or_8 = λ l i e. f l (down_from_has (positive N) l (ltb→lt l (positive N) i));
  },
)

-- b before -b; both rest on "-b: b" by (8), measured at -b
pub P2-all : WellSupported P2.rules (all_literals 1)
unfolding body_value any_value group_value
P2-all =
    all_well_supported 1 P2.rules (λ l. l) (each refl (λ ρ m. no_more m))
    (each (inr (_, inl (Memᴰ.head refl, refl), refl, (_, Memᴰ.head refl, refl, each tt (λ ι m. no_more m))))
    (each (inr (_, inr (Memᴰ.head refl, refl), refl, (_, Memᴰ.head refl, refl, each tt (λ ι m. no_more m)))) (λ l m. no_more m)))

-- the places of the literals l, -l, c, -c in P6: l and -c before c and -l
abbrev place_p6 : ℕ → ℕ
place_p6 zero = 0
place_p6 (suc zero) = 1
place_p6 (suc (suc zero)) = 1
place_p6 (suc (suc (suc l))) = 0

-- l is a fact; -c rests on "c: l" by (8), measured at c
pub P6-all : WellSupported P6.rules (all_literals 2)
unfolding body_value any_value group_value
P6-all =
    all_well_supported 2 P6.rules place_p6 (each refl (each refl (each refl (λ ρ m. no_more m))))
    (each (inr (_, inr (Memᴰ.tail (Memᴰ.head refl), refl), refl, (_, Memᴰ.head refl, refl, each tt (λ ι m. no_more m))))
    (each (inr (_, inl (Memᴰ.tail (Memᴰ.head refl), refl), refl, (_, Memᴰ.head refl, refl, each tt (λ ι m. no_more m))))
    (each (inr (
      _,
      inl (Memᴰ.tail (Memᴰ.tail (Memᴰ.head refl)), refl),
      refl,
      (_, Memᴰ.head refl, refl, each tt (λ ι m. no_more m)),
    ))
    (each (inl (_, (Memᴰ.head refl, refl), inl refl)) (λ l m. no_more m)))))

-- neither rule(-p), which is not there, nor rule(p), whose body is t, serves -p
pub P10-only_a_model : Model P10.rules all_but_negative_b × (WellSupported P10.rules all_but_negative_b → ⊥)
unfolding body_value any_value group_value
P10-only_a_model = (
  each refl (each refl (each refl (each refl (λ ρ m. no_more m)))),
  λ w.
      ⊎_elim (λ s. no_rule s.0 s.1.0 s.1.1)
      (λ s. ⊎_elim (λ r. no_rule s.0 r.0 r.1) (λ r. not_exactly_i s.0 r.0 r.1 s.2) s.1)
      (w.1.condition_7_or_8 (negative 2) tt refl),
)
  where
    no_rule : (ρ : Rule) → ρ ∈ P10.rules → ρ.head ≡ negative 2 → ⊥
    no_rule = each (λ e. omega arith) (each (λ e. omega arith) (each (λ e. omega arith) (each (λ e. omega arith) (λ ρ m. no_more m))))

    not_exactly_i : (ρ : Rule) → ρ ∈ P10.rules → ρ.head ≡ positive 2 → body_value all_but_negative_b ρ.groups ≡ 𝐢 → ⊥
    not_exactly_i =
        each (λ e b. omega arith) (each (λ e b. omega arith) (each (λ e b. omega arith)
        (each (λ e b. let c : ◌≡◌ {A = ℕ} 3 2 = ap code b in omega arith) (λ ρ m. no_more m))))
