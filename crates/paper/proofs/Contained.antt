-- The held literals of a marking are contained in every well-supported model, for an order of any kind. Assumes nothing.
use mathlib.Core.Bool.{Bool, not}
use mathlib.Core.List.Memᴰ
use mathlib.Core.List.{List, [], ◌∷◌}
use mathlib.Core.Logic.{◌⊎◌, inl, inr, ⊎_elim}
use mathlib.Core.Path.{◌≡◌, refl, subst, sym, ap, ◌∙◌}
use Prim.Native.Nat.{ℕ, zero, suc, ◌≤◌}
use native.Mathlib.Omega.{arith}
use lib.Dec.{T, T_not}
use lib.ListN.{length}
use Rattle.paper.specs.Table1.{𝐭, code}
use Rattle.paper.specs.Rules.{Rule, atom, negation, positive, negative}
use Rattle.sets.specs.Sets.{◌∈◌, ◌⊆◌}
use Rattle.paper.specs.Definitions.{Interpretation, value, group_value, body_value, StrictOrder, WellSupportedBy, SupportsRuleOf}
use Rattle.paper.specs.Marking.{Marks, Marked, Unmarked, by_fact, by_group, Held, Clean, HeldNotClean, CanBeMarked, Marking, none, one_more, IsHeld}
use Rattle.sets.proofs.Tests.{either, all_or_one_fails}
use Rattle.paper.proofs.Values.{alone→𝐭, 𝐭→member, 𝐭→alone, 2≤→member, group_𝐭, group_in_lem, body_of_fact, body≥, implies_holds}
use Rattle.paper.proofs.Leasts.{least_contained, atom_negation, negation_positive, negation_negative, sign}
use Rattle.sets.proofs.Besides.{with_cases}
use Rattle.paper.proofs.Closure.{clean_set, clean_set_is}

-- a list without one of its members
without : {A : Type 0} {x : A} (l : List A) → x ∈ l
    → (r : List A) × (length l ≡ suc (length r)) × ((y : A) → y ∈ l → (y ≡ x) ⊎ (y ∈ r))
without [] m = absurd (Memᴰ.not-nil m)
without {A} {x} (z ∷ l) m = step (Memᴰ.cases_cons m) (λ k. without l k)
  where
    step : (x ≡ z) ⊎ (x ∈ l) → (x ∈ l → (r : List A) × (length l ≡ suc (length r)) × ((y : A) → y ∈ l → (y ≡ x) ⊎ (y ∈ r)))
        → (r : List A) × (length (z ∷ l) ≡ suc (length r)) × ((y : A) → y ∈ (z ∷ l) → (y ≡ x) ⊎ (y ∈ r))
    step (inl e) below = (l, refl, λ y k. ⊎_elim (λ (p : y ≡ z). inl (p ∙ sym e)) (λ (q : y ∈ l). inr q) (Memᴰ.cases_cons k))
    step (inr k) below =
        let w = below k in (
          z ∷ w.0,
          ap suc w.1,
          λ y j. ⊎_elim (λ (p : y ≡ z). inr (Memᴰ.head p))
              (λ (q : y ∈ l). ⊎_elim (λ (e : y ≡ x). inl e) (λ (s : y ∈ w.0). inr (Memᴰ.tail s)) (w.2 y q))
              (Memᴰ.cases_cons j),
        )

module _ (I : ℕ → Bool) (before : ℕ → ℕ → Type 0) (order : StrictOrder I before) (Bad : ℕ → Type 0) (in_I : (l : ℕ) → Bad l → T (I l))
    (down : (l : ℕ) → Bad l → (m : ℕ) × Bad m × before m l) where
  -- bad members that all have a smaller bad one do not fit into a finite list: each visited one is taken out
  pub no_descent : (n : ℕ) (C : List ℕ) → length C ≤ n → (l : ℕ) → Bad l → ((m : ℕ) → Bad m → before m l → m ∈ C) → ⊥
  no_descent zero [] le l b all = let d = down l b in Memᴰ.not-nil (all d.0 d.1 d.2)
  no_descent zero (x ∷ C) le l b all = omega arith
  no_descent (suc n) C le l b all =
      let d = down l b in
      let m : ℕ = d.0 in
      let w = without C (all m d.1 d.2) in
      no_descent n w.0 (let e = w.1 in omega arith) m d.1
      (λ k bk lt.
      ⊎_elim (λ (e : k ≡ m). absurd (order.irreflexive m (in_I m d.1) (subst (λ (z : ℕ). before z m) e lt))) (λ (i : k ∈ w.0). i)
      (w.2 k (all k bk (order.transitive k m l (in_I k bk) (in_I m d.1) (in_I l b) lt d.2))))

heads : List Rule → List ℕ
heads [] = []
heads (ρ ∷ R) = ρ.head ∷ heads R

head∈ : (R : List Rule) (ρ : Rule) → ρ ∈ R → ρ.head ∈ heads R
unfolding heads
head∈ [] ρ m = absurd (Memᴰ.not-nil m)
head∈ (σ ∷ R) ρ m =
    ⊎_elim (λ (e : ρ ≡ σ). Memᴰ.head (ap (λ (z : Rule). z.head) e))
    (λ (k : ρ ∈ R). Memᴰ.tail (head∈ R ρ k)) (Memᴰ.cases_cons m)

module _ (R : List Rule) (M : Interpretation) (before : ℕ → ℕ → Type 0) (ws : WellSupportedBy R M before) where
  -- in a model a rule that is a fact or has a group wholly in M has its head in M
  model_head : (ρ : Rule) → ρ ∈ R
      → (ρ.groups ≡ []) ⊎ ((β : List ℕ) × (β ∈ ρ.groups) × ((ι : ℕ) → ι ∈ β → T (M ι))) → T (M ρ.head)
  model_head ρ m f =
      2≤→member M ρ.head
      (implies_holds (body_value M ρ.groups) (value M ρ.head) (ws.model ρ m)
      (⊎_elim (λ (e : ρ.groups ≡ []). let t : code (body_value M ρ.groups) ≡ 3 = ap code (body_of_fact M ρ.groups e) in omega arith)
      (λ (q : (β : List ℕ) × (β ∈ ρ.groups) × ((ι : ℕ) → ι ∈ β → T (M ι))).
      let g = group_in_lem M q.0 q.2 in
      let k = body≥ M ρ.groups q.0 q.1 in
      omega arith)
      f))

  module _ (A : Marks) (inv : (l : ℕ) → Marked A (atom l) → T (M l)) where
    -- held literals are in M
    held⊆ : (l : ℕ) → Held R A l → T (M l)
    held⊆ l =
        least_contained (λ x. T (M x)) inv (λ x ρ m e k n. subst (λ (z : ℕ). T (M z)) e (model_head ρ m (inl n)))
        (λ x ρ β m e k g all. subst (λ (z : ℕ). T (M z)) e (model_head ρ m (inr (β, g, all))))

    -- a literal that is t in M and not clean
    Bad : ℕ → Type 0
    Bad l = (value M l ≡ 𝐭) × T (not (clean_set R A l))

    𝐭→unmarked : (l : ℕ) → value M l ≡ 𝐭 → Unmarked A (atom l)
    𝐭→unmarked l e =
        ⊎_elim (λ (m : T (A (atom l))). absurd (T_not (M (negation l)) (𝐭→alone M l e) (inv (negation l) (rw (atom_negation l) m))))
        (λ (u : T (not (A (atom l)))). u) (either (A (atom l)))

    bad_down : (l : ℕ) → Bad l → (m : ℕ) × Bad m × before m l
    unfolding Bad
    bad_down l b =
        let s : SupportsRuleOf R M before l = ws.condition_6 l (𝐭→member M l b.0) b.0 in
        let refute : (Clean R A l → ⊥) = λ c. T_not (clean_set R A l) b.1 ((clean_set_is R A l).1 c) in
        ⊎_elim (λ (e : s.0.groups ≡ []). absurd (refute (by_fact s.0 s.1.0 s.1.1 (𝐭→unmarked l b.0) e)))
        (λ (q : (β : List ℕ) × (β ∈ s.0.groups) × (group_value M β ≡ 𝐭) × ((ι : ℕ) → ι ∈ β → before ι s.0.head)).
        ⊎_elim
        (λ (all : (ι : ℕ) → ι ∈ q.0 → T (clean_set R A ι)).
        absurd (refute (by_group s.0 q.0 s.1.0 s.1.1 (𝐭→unmarked l b.0) q.1 (λ ι i. (clean_set_is R A ι).0 (all ι i)))))
        (λ (x : (ι : ℕ) × (ι ∈ q.0) × T (not (clean_set R A ι))).
        (x.0, (group_𝐭 M q.0 q.2 x.0 x.1, x.2), subst (before x.0) s.1.1 (q.3 x.0 x.1)))
        (all_or_one_fails (clean_set R A) q.0))
        s.2

    -- every literal that is t in M is clean
    𝐭→clean : (l : ℕ) → value M l ≡ 𝐭 → Clean R A l
    unfolding Bad
    𝐭→clean l e =
        ⊎_elim (λ (c : T (clean_set R A l)). (clean_set_is R A l).0 c)
        (λ (n : T (not (clean_set R A l))).
        absurd (no_descent M before ws.order Bad (λ x b. 𝐭→member M x b.0) bad_down (length (heads R)) (heads R) (omega arith) l (e, n)
        (λ m b lt.
        let s = ws.condition_6 m (𝐭→member M m b.0) b.0 in
        subst (λ (z : ℕ). z ∈ heads R) s.1.1 (head∈ R s.0 s.1.0))))
        (either (clean_set R A l))

    held_not_clean→both : (l : ℕ) → HeldNotClean R A l → T (M l) × T (M (negation l))
    held_not_clean→both l h = (
      held⊆ l h.0,
      ⊎_elim (λ (n : T (M (negation l))). n) (λ (f : T (not (M (negation l)))). absurd (h.1 (𝐭→clean l (alone→𝐭 M l (held⊆ l h.0) f))))
          (either (M (negation l))),
    )

    -- an atom that can be marked is i in M
    can_be_marked→both : (a : ℕ) → CanBeMarked R A a → T (M (positive a)) × T (M (negative a))
    can_be_marked→both a c =
        ⊎_elim (λ (h : Held R A (positive a) × Held R A (negative a)). (held⊆ (positive a) h.0, held⊆ (negative a) h.1))
        (⊎_elim (λ (h : HeldNotClean R A (positive a)). let b = held_not_clean→both (positive a) h in
        (b.0, subst (λ (z : ℕ). T (M z)) (negation_positive a) b.1))
        (λ (h : HeldNotClean R A (negative a)). let b = held_not_clean→both (negative a) h in
        (subst (λ (z : ℕ). T (M z)) (negation_negative a) b.1, b.0)))
        c.because

  -- each marked atom is i in M
  marked⊆ : {n : ℕ} {A : Marks} → Marking R n A → (l : ℕ) → Marked A (atom l) → T (M l)
  marked⊆ none l h = absurd h
  marked⊆ (one_more {A = A} a k c) l h =
      let inv : ((x : ℕ) → Marked A (atom x) → T (M x)) = λ x m. marked⊆ k x m in
      ⊎_elim
      (λ (e : atom l ≡ a).
      let b = can_be_marked→both A inv a c in
      ⊎_elim (λ (s : (l ≡ positive (atom l)) × (negation l ≡ negative (atom l))). rw (s.0, e) b.0)
      (λ (s : (l ≡ negative (atom l)) × (negation l ≡ positive (atom l))). rw (s.0, e) b.1) (sign l))
      (λ (m : T (A (atom l))). inv l m)
      (with_cases A a (atom l) h)

  pub held_contained : {n : ℕ} {A : Marks} → Marking R n A → (I : Interpretation) → IsHeld R A I → I ⊆ M
  held_contained {A = A} k I is_held_lem l m = held⊆ A (marked⊆ k) l ((is_held_lem l).0 m)
