-- A settled marking: marked atoms are i, clean literals are t, and the held literals are a model. Assumes nothing.
use mathlib.Core.Bool.{Bool, true, false, not}
use mathlib.Core.List.{List, []}
use mathlib.Core.Logic.{◌⊎◌, inl, inr, ⊎_elim}
use mathlib.Core.Path.{◌≡◌, refl, subst, sym, ap}
use Prim.Native.Nat.{ℕ, ◌≤◌, ◌<◌}
use native.Mathlib.Omega.{arith}
use lib.Dec.{T, T_not, leb, leb→le, nleb→lt}
use Rattle.paper.specs.Table1.{𝐢, 𝐭, code, ◌implies◌}
use Rattle.paper.specs.Rules.{Rule, OneRulePerHead, atom, negation, positive, negative}
use Rattle.sets.specs.Sets.{◌∈◌}
use Rattle.paper.specs.Definitions.{Interpretation, value, group_value, body_value, Model}
use Rattle.paper.specs.Marking.{Marks, Marked, Unmarked, from_base, by_fact, by_group, Held, Clean, HeldNotClean, Settled, IsHeld, by_mark_and_held, settled_value}
use Rattle.sets.proofs.Tests.{either}
use Rattle.paper.proofs.Values.{alone→𝐭, both→𝐢, 𝐭→member, 𝐭→alone, 𝐢→negation, group_member, all_𝐭→group_𝐭, body_of_fact, body≥, body_attained, 3≤code→𝐭, low_body_implies, implies_𝐢}
use Rattle.paper.proofs.Leasts.{clean→held, clean→unmarked, atom_negation, atom_positive, negation_positive, sign}
use Rattle.paper.proofs.Closure.{clean_set, clean_set_is}

module _ (R : List Rule) (A : Marks) (I : Interpretation) (is_held_lem : IsHeld R A I) where
  -- both literals of a marked atom are held
  pub marked→member : (l : ℕ) → Marked A (atom l) → T (I l)
  marked→member l m = (is_held_lem l).1 (from_base m)

  pub marked→𝐢 : (l : ℕ) → Marked A (atom l) → value I l ≡ 𝐢
  marked→𝐢 l m = both→𝐢 I l (marked→member l m) (marked→member (negation l) (rw (atom_negation l) m))

  -- a wholly held rule has its head held
  pub held_head : (ρ : Rule) → ρ ∈ R
      → (ρ.groups ≡ []) ⊎ ((β : List ℕ) × (β ∈ ρ.groups) × (2 ≤ code (group_value I β))) → T (I ρ.head)
  held_head ρ m (inl e) = (is_held_lem ρ.head).1 (by_fact ρ m refl tt e)
  held_head ρ m (inr q) =
      (is_held_lem ρ.head).1 (by_group ρ q.0 m refl tt q.1 (λ ι i. (is_held_lem ι).0 (group_member I q.0 q.2 ι i)))

  module _ (settled : Settled R A) where
    both→marked : (l : ℕ) → T (I l) → T (I (negation l)) → Marked A (atom l)
    both→marked l p n =
        ⊎_elim (λ (m : T (A (atom l))). m)
        (λ (u : T (not (A (atom l)))).
        absurd (settled (atom l) (record {
          unmarked = u;
          because = inl (⊎_elim
              (λ (s : (l ≡ positive (atom l)) × (negation l ≡ negative (atom l))).
              (subst (Held R A) s.0 ((is_held_lem l).0 p), subst (Held R A) s.1 ((is_held_lem (negation l)).0 n)))
              (λ (s : (l ≡ negative (atom l)) × (negation l ≡ positive (atom l))).
              (subst (Held R A) s.1 ((is_held_lem (negation l)).0 n), subst (Held R A) s.0 ((is_held_lem l).0 p)))
              (sign l));
        })))
        (either (A (atom l)))

    pub 𝐢→marked : (l : ℕ) → T (I l) → value I l ≡ 𝐢 → Marked A (atom l)
    𝐢→marked l m e = both→marked l m (𝐢→negation I l e)

    -- a held literal of an unmarked atom is clean
    pub unmarked→clean : (l : ℕ) → T (I l) → Unmarked A (atom l) → Clean R A l
    unmarked→clean l p u =
        ⊎_elim (λ (c : T (clean_set R A l)). (clean_set_is R A l).0 c)
        (λ (n : T (not (clean_set R A l))).
        let hnc : HeldNotClean R A l = ((is_held_lem l).0 p, λ c. T_not (clean_set R A l) n ((clean_set_is R A l).1 c)) in
        absurd (settled (atom l) (record {
          unmarked = u;
          because = inr (⊎_elim
              (λ (s : (l ≡ positive (atom l)) × (negation l ≡ negative (atom l))). inl (subst (HeldNotClean R A) s.0 hnc))
              (λ (s : (l ≡ negative (atom l)) × (negation l ≡ positive (atom l))). inr (subst (HeldNotClean R A) s.0 hnc))
              (sign l));
        })))
        (either (clean_set R A l))

    -- t to exactly the clean literals
    pub clean→𝐭 : (l : ℕ) → Clean R A l → value I l ≡ 𝐭
    clean→𝐭 l c =
        alone→𝐭 I l ((is_held_lem l).1 (clean→held A c))
        (⊎_elim (λ (n : T (I (negation l))). absurd (T_not (A (atom l)) (clean→unmarked A c) (both→marked l ((is_held_lem l).1 (clean→held A c)) n)))
        (λ (f : T (not (I (negation l)))). f) (either (I (negation l))))

    pub 𝐭→clean : (l : ℕ) → value I l ≡ 𝐭 → Clean R A l
    𝐭→clean l e =
        unmarked→clean l (𝐭→member I l e)
        (⊎_elim (λ (m : T (A (atom l))). absurd (T_not (I (negation l)) (𝐭→alone I l e) (marked→member (negation l) (rw (atom_negation l) m))))
        (λ (u : T (not (A (atom l)))). u) (either (A (atom l))))

    -- a body with a group of clean literals, or none, is t
    pub clean_body_𝐭 : (ρ : Rule) → (ρ.groups ≡ []) ⊎ ((β : List ℕ) × (β ∈ ρ.groups) × ((ι : ℕ) → ι ∈ β → Clean R A ι))
        → body_value I ρ.groups ≡ 𝐭
    clean_body_𝐭 ρ (inl e) = body_of_fact I ρ.groups e
    clean_body_𝐭 ρ (inr q) =
        let t : group_value I q.0 ≡ 𝐭 = all_𝐭→group_𝐭 I q.0 (λ ι i. clean→𝐭 ι (q.2 ι i)) in
        let t' : code (group_value I q.0) ≡ 3 = ap code t in
        3≤code→𝐭 (body_value I ρ.groups) (let k = body≥ I ρ.groups q.0 q.1 in omega arith)

    -- the held literals are a model (Definition 6)
    pub settled_model : OneRulePerHead R → Model R I
    settled_model one ρ m =
        split (leb (code (body_value I ρ.groups)) 1) (λ t. leb→le (code (body_value I ρ.groups)) 1 t)
        (λ t. nleb→lt (code (body_value I ρ.groups)) 1 t)
      where
        clean_head : Clean R A ρ.head → body_value I ρ.groups ≡ 𝐭
        clean_head (from_base h) = absurd h
        clean_head (by_fact σ k e a n) = let p = one σ ρ k m e in rw (← p) (clean_body_𝐭 σ (inl n))
        clean_head (by_group σ β k e a g all) = let p = one σ ρ k m e in rw (← p) (clean_body_𝐭 σ (inr (β, g, all)))

        held : T (I ρ.head) → (body_value I ρ.groups implies value I ρ.head) ≡ 𝐭
        held h =
            ⊎_elim (λ (k : T (A (atom ρ.head))). rw (marked→𝐢 ρ.head k) (implies_𝐢 (body_value I ρ.groups)))
            (λ (u : T (not (A (atom ρ.head)))).
            let c = unmarked→clean ρ.head h u in
            rw (clean→𝐭 ρ.head c, clean_head c) refl)
            (either (A (atom ρ.head)))

        split : (b : Bool) → (T b → code (body_value I ρ.groups) ≤ 1) → (T (not b) → 1 < code (body_value I ρ.groups))
            → (body_value I ρ.groups implies value I ρ.head) ≡ 𝐭
        split true f g = low_body_implies (body_value I ρ.groups) (value I ρ.head) (f tt)
        split false f g = let k = g tt in held (held_head ρ m (body_attained I 2 (omega arith) ρ.groups (omega arith)))

    -- the i, t, f, u rule is Definition 5's value
    pub settled_value_is : (a : ℕ) → settled_value A I a ≡ value I (positive a)
    settled_value_is a = go (A a) (I (positive a)) (I (negative a)) refl refl refl
      where
        go : (m p n : Bool) → A a ≡ m → I (positive a) ≡ p → I (negative a) ≡ n → by_mark_and_held m p n ≡ value I (positive a)
        go true p n em ep en = sym (marked→𝐢 (positive a) (rw (atom_positive a, em) tt))
        go false true true em ep en =
            let k = both→marked (positive a) (rw ep tt) (rw (negation_positive a, en) tt) in
            absurd (T_not (A a) (rw em tt) (rw (atom_positive a) at k))
        go false true false em ep en = sym (rw (negation_positive a, ep, en))
        go false false true em ep en = sym (rw (negation_positive a, ep, en))
        go false false false em ep en = sym (rw (negation_positive a, ep, en))
