-- The held literals of a settled marking are well-supported by Definition 9 as printed.
-- The order: t literals first, by the rank at which Clean derives them; then i literals, by the rank at which Held derives them along the marking.
-- A literal that first becomes held by its own mark rests on its negation's rule (condition 8). Assumes nothing.
use mathlib.Core.Bool.{Bool, true, false, not, cond}
use mathlib.Core.List.{List, []}
use mathlib.Core.Logic.{◌⊎◌, inl, inr, ⊎_elim, ◌↔◌}
use mathlib.Core.Path.{◌≡◌, refl, ap}
use Prim.Native.Nat.{ℕ, ◌≤◌, ◌<◌, ◌+◌}
use native.Mathlib.Omega.{arith}
use lib.Dec.{T, T_not, leb, leb→le, nleb→lt, ltb, ltb→lt, lt→ltb}
use Rattle.paper.specs.Table1.{𝐢, 𝐭, code}
use Rattle.paper.specs.Rules.{Rule, IsRuleOf, OneRulePerHead, atom, negation, positive, negative}
use Rattle.sets.specs.Sets.{◌∈◌, ◌⊆◌, ◌with◌}
use Rattle.paper.specs.Definitions.{Interpretation, value, group_value, body_value, StrictOrder, Carries, Supports, SupportsRuleOf, RestsOnInconsistent, WellSupportedByTest}
use Rattle.paper.specs.Marking.{Marks, Marked, Unmarked, from_base, by_fact, by_group, Held, Clean, HeldNotClean, CanBeMarked, Settled, Marking, none, one_more, IsHeld}
use Rattle.sets.proofs.Tests.{either, T→true, not→false}
use Rattle.paper.proofs.Values.{group_in_lem, group_𝐭, all_𝐭→group_𝐭, body≥, body_attained, 3≤code→𝐭, code2→𝐢}
use Rattle.paper.proofs.Leasts.{held_mono, clean_anti, clean→unmarked, atom_negation, atom_positive, atom_negative, negation_positive, negation_negative, sign}
use Rattle.sets.proofs.Besides.{with_⊇, with_cases, with_itself}
use Rattle.paper.proofs.Closure.{Ranking, Keeps, keeps_add, Bounded, bounded_add, add, Own, own_kept, Outcome, close, close_outcome, start, start_outcome, clean_set_is, grows→least, closed→least}
use Rattle.paper.proofs.Settled.{unmarked→clean, clean→𝐭, 𝐭→clean, 𝐢→marked, settled_model}

abbrev every : ℕ → Bool
every l = true

-- no fact, and no group wholly clean
NoClean : List Rule → Marks → Rule → Type 0
NoClean R A ρ = (ρ.groups ≡ [] → ⊥) × ((β : List ℕ) → β ∈ ρ.groups → ((ι : ℕ) → ι ∈ β → Clean R A ι) → ⊥)

-- a literal that rests on the rule of its negation, whose body was held and not clean
record Serves (R : List Rule) (A : Marks) (st : Ranking) (l : ℕ) : Type 0 where
  rule : Rule
  is_rule : IsRuleOf R (negation l) rule
  no_clean : NoClean R A rule
  other : T (st.members (negation l))
  group : List ℕ
  of_rule : group ∈ rule.groups
  smaller : (ι : ℕ) → ι ∈ group → T (st.members ι) × (st.rank ι < st.rank (negation l))

Rests : List Rule → Marks → Ranking → ℕ → Type 0
Rests R A st l = Own R every st l ⊎ (Marked A (atom l) × Serves R A st l)

-- the held literals with ranks along the marking
record RankedHeld (R : List Rule) (A : Marks) : Type 0 where
  ranking : Ranking
  is_held : (l : ℕ) → T (ranking.members l) ↔ Held R A l
  bounded : Bounded ranking
  rests : (l : ℕ) → T (ranking.members l) → Rests R A ranking l

module _ (R : List Rule) where
  serves_kept : (A B : Marks) {st st' : Ranking} → A ⊆ B → Keeps st st' → (l : ℕ) → Serves R A st l → Serves R B st' l
  unfolding NoClean
  serves_kept A B s k l v =
      record {
        rule = v.rule;
        is_rule = v.is_rule;
        no_clean = (v.no_clean.0, λ β m all. v.no_clean.1 β m (λ ι i. clean_anti A B s (all ι i)));
        other = k.kept (negation l) v.other;
        group = v.group;
        of_rule = v.of_rule;
        smaller = λ ι i.
            (k.kept ι (v.smaller ι i).0, rw (k.same_rank ι (v.smaller ι i).0, k.same_rank (negation l) v.other) (v.smaller ι i).1);
      }

  rests_kept : (A B : Marks) {st st' : Ranking} → A ⊆ B → Keeps st st' → (l : ℕ) → T (st.members l) → Rests R A st l → Rests R B st' l
  unfolding Rests
  rests_kept A B s k l m (inl o) = inl (own_kept R every k l m o)
  rests_kept A B s k l m (inr v) = inr (s (atom l) v.0, serves_kept A B s k l v.1)

  -- a set that has the held literals and the newly marked ones, closed again
  close_again : (A : Marks) (a : ℕ) (st : Ranking) → Bounded st → ((l : ℕ) → T (st.members l) → Held R (A with a) l)
      → ((l : ℕ) → T (st.members l) → Rests R (A with a) st l)
      → ((l : ℕ) → Marked (A with a) (atom l) → T (st.members l)) → RankedHeld R (A with a)
  unfolding Rests
  close_again A a st b s r base =
      let o : Outcome R every st (close R every st) = close_outcome R every st b in
      record {
        ranking = close R every st;
        is_held = λ l. (
          grows→least R every st (close R every st) o.grows s l,
          closed→least R every (close R every st) o.closed (λ x m. o.grows.keeps.kept x (base x m)) l,
        );
        bounded = o.bounded;
        rests = λ l m.
            ⊎_elim (λ (x : T (st.members l)). rests_kept (A with a) (A with a) (λ x h. h) o.grows.keeps l x (r l x))
            (λ (w : Own R every (close R every st) l). inl w)
            (o.grows.came l m);
      }

  -- the ranks after one more mark
  one_more_ranked : (A : Marks) (a : ℕ) → RankedHeld R A → CanBeMarked R A a → RankedHeld R (A with a)
  unfolding NoClean Rests
  one_more_ranked A a h c = split (either (st.members (positive a))) (either (st.members (negative a)))
    where
      st : Ranking
      st = h.ranking

      held_now : (l : ℕ) → T (st.members l) → Held R (A with a) l
      held_now l m = held_mono A (A with a) (with_⊇ A a) ((h.is_held l).0 m)

      own_atom : (l : ℕ) → atom l ≡ a → Marked (A with a) (atom l)
      own_atom l e = rw e (with_itself A a)

      -- every literal of a marked atom is in a set that has the two of a
      based : (s : Ranking) → Keeps st s → T (s.members (positive a)) → T (s.members (negative a))
          → (l : ℕ) → Marked (A with a) (atom l) → T (s.members l)
      based s k p n l m =
          ⊎_elim
          (λ (e : atom l ≡ a).
          ⊎_elim (λ (x : (l ≡ positive (atom l)) × (negation l ≡ negative (atom l))). rw (x.0, e) p)
          (λ (x : (l ≡ negative (atom l)) × (negation l ≡ positive (atom l))). rw (x.0, e) n) (sign l))
          (λ (x : T (A (atom l))). k.kept l ((h.is_held l).1 (from_base x)))
          (with_cases A a (atom l) m)

      -- the literal l is new: its negation is held and not clean
      new_literal : (l : ℕ) → atom l ≡ a → T (not (st.members l)) → HeldNotClean R A (negation l)
          → T ((add st l).members (positive a)) → T ((add st l).members (negative a)) → RankedHeld R (A with a)
      new_literal l e n hnc p q =
          close_again A a (add st l) (bounded_add st l h.bounded)
          (λ x m. ⊎_elim (λ (y : x ≡ l). rw y (from_base (own_atom l e))) (λ (y : T (st.members x)). held_now x y) (with_cases st.members l x m))
          (λ x m.
          ⊎_elim (λ (y : x ≡ l). inr (rw y (own_atom l e), rw y serves))
          (λ (y : T (st.members x)). rests_kept A (A with a) (with_⊇ A a) k x y (h.rests x y)) (with_cases st.members l x m))
          (based (add st l) k p q)
        where
          k : Keeps st (add st l)
          k = keeps_add st l n

          in_negation : T (st.members (negation l))
          in_negation = (h.is_held (negation l)).1 hnc.0

          unmarked_negation : Unmarked A (atom (negation l))
          unmarked_negation = rw (atom_negation l, e) c.unmarked

          from_own : Own R every st (negation l) → Serves R (A with a) (add st l) l
          from_own w =
              ⊎_elim (λ (f : w.0.groups ≡ []). absurd (hnc.1 (by_fact w.0 w.1.0 w.1.1 unmarked_negation f)))
              (λ (g : (β : List ℕ) × (β ∈ w.0.groups) × ((ι : ℕ) → ι ∈ β → T (st.members ι) × (st.rank ι < st.rank (negation l)))).
              serves_kept A (A with a) (with_⊇ A a) k l (record {
                rule = w.0;
                is_rule = w.1;
                no_clean = (
                  (λ f. hnc.1 (by_fact w.0 w.1.0 w.1.1 unmarked_negation f)),
                  λ β m all. hnc.1 (by_group w.0 β w.1.0 w.1.1 unmarked_negation m all),
                );
                other = in_negation;
                group = g.0;
                of_rule = g.1;
                smaller = g.2;
              }))
              w.3

          serves : Serves R (A with a) (add st l) l
          serves =
              ⊎_elim (λ (w : Own R every st (negation l)). from_own w)
              (λ (v : Marked A (atom (negation l)) × Serves R A st (negation l)). absurd (T_not (A (atom (negation l))) unmarked_negation v.0))
              (h.rests (negation l) in_negation)

      not_held : (l : ℕ) → T (not (st.members l)) → Held R A l → ⊥
      not_held l n k = T_not (st.members l) n ((h.is_held l).1 k)

      split : T (st.members (positive a)) ⊎ T (not (st.members (positive a)))
          → T (st.members (negative a)) ⊎ T (not (st.members (negative a))) → RankedHeld R (A with a)
      split (inl p) (inl n) =
          let same : Keeps st st = record { kept = λ l m. m; same_rank = λ l m. refl } in
          close_again A a st h.bounded held_now (λ l m. rests_kept A (A with a) (with_⊇ A a) same l m (h.rests l m)) (based st same p n)
      split (inl p) (inr n) =
          new_literal (negative a) (atom_negative a) n
          (rw (negation_negative a)
          (⊎_elim (λ (x : Held R A (positive a) × Held R A (negative a)). absurd (not_held (negative a) n x.1))
          (⊎_elim (λ (x : HeldNotClean R A (positive a)). x) (λ (x : HeldNotClean R A (negative a)). absurd (not_held (negative a) n x.0)))
          c.because))
          (with_⊇ st.members (negative a) (positive a) p) (with_itself st.members (negative a))
      split (inr p) n =
          new_literal (positive a) (atom_positive a) p
          (rw (negation_positive a)
          (⊎_elim (λ (x : Held R A (positive a) × Held R A (negative a)). absurd (not_held (positive a) p x.0))
          (⊎_elim (λ (x : HeldNotClean R A (positive a)). absurd (not_held (positive a) p x.0)) (λ (x : HeldNotClean R A (negative a)). x))
          c.because))
          (with_itself st.members (positive a)) (with_⊇ st.members (positive a) (negative a) (other c.because))
        where
          other : (Held R A (positive a) × Held R A (negative a)) ⊎ (HeldNotClean R A (positive a) ⊎ HeldNotClean R A (negative a))
              → T (st.members (negative a))
          other (inl x) = absurd (not_held (positive a) p x.0)
          other (inr (inl x)) = absurd (not_held (positive a) p x.0)
          other (inr (inr x)) = (h.is_held (negative a)).1 x.0

  marking_ranked : {n : ℕ} {A : Marks} → Marking R n A → RankedHeld R A
  unfolding Rests
  marking_ranked none =
      let none_yet : ℕ → Bool = λ l. false in
      let o = start_outcome R every none_yet in
      record {
        ranking = close R every (start none_yet);
        is_held = λ l. (
          grows→least R every (start none_yet) (close R every (start none_yet)) o.grows (λ x h. absurd h) l,
          closed→least R every (close R every (start none_yet)) o.closed (λ x h. absurd h) l,
        );
        bounded = o.bounded;
        rests = λ l m. ⊎_elim (λ (x : ⊥). absurd x) (λ (w : Own R every (close R every (start none_yet)) l). inl w) (o.grows.came l m);
      }
  marking_ranked (one_more {A = A} a k c) = one_more_ranked A a (marking_ranked k) c

module _ (R : List Rule) (one : OneRulePerHead R) (A : Marks) (settled : Settled R A) (I : Interpretation) (is_held : IsHeld R A I) (h : RankedHeld R A) where
  st : Ranking
  st = h.ranking

  free : ℕ → Bool
  free l = not (A (atom l))

  -- the clean literals with ranks
  clean : Ranking
  clean = close R free (start (λ l. false))

  -- the place of a literal in the order
  place : ℕ → ℕ
  place l = cond (A (atom l)) (clean.next + st.rank l) (clean.rank l)

  before : ℕ → ℕ → Bool
  before x y = ltb (place x) (place y)

  clean_outcome : Outcome R free (start (λ l. false)) clean
  unfolding clean
  clean_outcome = start_outcome R free (λ l. false)

  clean_is : (l : ℕ) → T (clean.members l) ↔ Clean R A l
  unfolding clean free
  clean_is l = clean_set_is R A l

  place_clean : (l : ℕ) → Clean R A l → (place l ≡ clean.rank l) × (place l < clean.next)
  unfolding place
  place_clean l c =
      let e : A (atom l) ≡ false = not→false (A (atom l)) (clean→unmarked A c) in
      (rw e, rw e (clean_outcome.bounded l ((clean_is l).1 c)))

  place_marked : (l : ℕ) → Marked A (atom l) → place l ≡ clean.next + st.rank l
  unfolding place
  place_marked l m = rw (T→true (A (atom l)) m)

  is_before : (x y : ℕ) → place x < place y → T (before x y)
  unfolding before
  is_before x y k = lt→ltb (place x) (place y) k

  strict : StrictOrder I (λ x y. T (before x y))
  unfolding before
  strict =
      record {
        irreflexive = λ x m b. let k = ltb→lt (place x) (place x) b in omega arith;
        transitive = λ x y z mx my mz b c.
            let k = ltb→lt (place x) (place y) b in
            let k' = ltb→lt (place y) (place z) c in
            lt→ltb (place x) (place z) (omega arith);
      }

  in_st : (l : ℕ) → T (I l) → T (st.members l)
  unfolding st
  in_st l m = (h.is_held l).1 ((is_held l).0 m)

  in_I : (l : ℕ) → T (st.members l) → T (I l)
  unfolding st
  in_I l m = (is_held l).1 ((h.is_held l).0 m)

  -- a held literal stands before a marked one of larger rank
  held_before : (ι k : ℕ) → T (st.members ι) → Marked A (atom k) → st.rank ι < st.rank k → place ι < place k
  held_before ι k m mk lt =
      let e = place_marked k mk in
      ⊎_elim (λ (mi : T (A (atom ι))). let e' = place_marked ι mi in omega arith)
      (λ (u : T (not (A (atom ι)))). let p = (place_clean ι (unmarked→clean R A I is_held settled ι (in_I ι m) u)).1 in
      omega arith) (either (A (atom ι)))

  -- a t literal stands before a marked one
  clean_before : (ι k : ℕ) → Clean R A ι → Marked A (atom k) → place ι < place k
  clean_before ι k c mk = let e = place_marked k mk in let p = (place_clean ι c).1 in omega arith

  supported_t : (l : ℕ) → T (I l) → value I l ≡ 𝐭 → SupportsRuleOf R I (λ x y. T (before x y)) l
  supported_t l m e = go (clean_outcome.grows.came l ((clean_is l).1 c))
    where
      c : Clean R A l
      c = 𝐭→clean R A I is_held settled l e

      go : ⊥ ⊎ Own R free clean l → SupportsRuleOf R I (λ x y. T (before x y)) l
      go (inl x) = absurd x
      go (inr o) = (
        o.0,
        o.1,
        ⊎_elim (λ (f : o.0.groups ≡ []). inl f)
            (λ (g : (β : List ℕ) × (β ∈ o.0.groups) × ((ι : ℕ) → ι ∈ β → T (clean.members ι) × (clean.rank ι < clean.rank l))).
            inr (
              g.0,
              g.1,
              all_𝐭→group_𝐭 I g.0 (λ ι i. clean→𝐭 R A I is_held settled ι ((clean_is ι).0 (g.2 ι i).0)),
              λ ι i.
                  let p = (place_clean ι ((clean_is ι).0 (g.2 ι i).0)).0 in
                  let q = (place_clean l c).0 in
                  let k = (g.2 ι i).1 in
                  rw o.1.1 (is_before ι l (omega arith)),
            ))
            o.3,
      )

  -- rule ρ of a marked k carries a held group before k: condition 8, unless its body is t
  rests_on : (ρ : Rule) (k : ℕ) → IsRuleOf R k ρ → Marked A (atom k) → (β : List ℕ)
      → β ∈ ρ.groups → ((ι : ℕ) → ι ∈ β → T (st.members ι) × (st.rank ι < st.rank k))
      → (body_value I ρ.groups ≡ 𝐭) ⊎ ((body_value I ρ.groups ≡ 𝐢) × Carries I (λ x y. T (before x y)) ρ 𝐢)
  rests_on ρ k r mk β b all =
      split (leb 3 (code (body_value I ρ.groups))) (λ t. leb→le 3 (code (body_value I ρ.groups)) t)
      (λ t. nleb→lt 3 (code (body_value I ρ.groups)) t)
    where
      split : (c : Bool) → (T c → 3 ≤ code (body_value I ρ.groups)) → (T (not c) → code (body_value I ρ.groups) < 3)
          → (body_value I ρ.groups ≡ 𝐭) ⊎ ((body_value I ρ.groups ≡ 𝐢) × Carries I (λ x y. T (before x y)) ρ 𝐢)
      split true f g = inl (3≤code→𝐭 (body_value I ρ.groups) (f tt))
      split false f g =
          let lt = g tt in
          let two = group_in_lem I β (λ ι i. in_I ι (all ι i).0) in
          let le = body≥ I ρ.groups β b in
          inr (
            code2→𝐢 (body_value I ρ.groups) (omega arith),
            (β, b, code2→𝐢 (group_value I β) (omega arith), λ ι i. rw r.1 (is_before ι k (held_before ι k (all ι i).0 mk (all ι i).1))),
          )

  -- a t body of l's own rule supports it (condition 7): its t group stands before every i literal
  t_body_supports : (ρ : Rule) (l : ℕ) → IsRuleOf R l ρ → Marked A (atom l)
      → body_value I ρ.groups ≡ 𝐭 → Supports I (λ x y. T (before x y)) ρ
  t_body_supports ρ l r m e =
      let c : code (body_value I ρ.groups) ≡ 3 = ap code e in
      ⊎_elim (λ (f : ρ.groups ≡ []). inl f)
      (λ (g : (β : List ℕ) × (β ∈ ρ.groups) × (3 ≤ code (group_value I β))).
      let t : group_value I g.0 ≡ 𝐭 = 3≤code→𝐭 (group_value I g.0) g.2 in
      inr (g.0, g.1, t, λ ι i. rw r.1 (is_before ι l (clean_before ι l (𝐭→clean R A I is_held settled ι (group_𝐭 I g.0 t ι i)) m))))
      (body_attained I 3 (omega arith) ρ.groups (omega arith))

  supported_i : (l : ℕ) → T (I l) → value I l ≡ 𝐢
      → SupportsRuleOf R I (λ x y. T (before x y)) l ⊎ RestsOnInconsistent R I (λ x y. T (before x y)) l
  unfolding Rests NoClean st
  supported_i l m e = go (h.rests l (in_st l m))
    where
      marked : Marked A (atom l)
      marked = 𝐢→marked R A I is_held settled l m e

      go : Own R every st l ⊎ (Marked A (atom l) × Serves R A st l)
          → SupportsRuleOf R I (λ x y. T (before x y)) l ⊎ RestsOnInconsistent R I (λ x y. T (before x y)) l
      go (inl o) =
          ⊎_elim (λ (f : o.0.groups ≡ []). inl (o.0, o.1, inl f))
          (λ (g : (β : List ℕ) × (β ∈ o.0.groups) × ((ι : ℕ) → ι ∈ β → T (st.members ι) × (st.rank ι < st.rank l))).
          ⊎_elim (λ (t : body_value I o.0.groups ≡ 𝐭). inl (o.0, o.1, t_body_supports o.0 l o.1 marked t))
          (λ (x : (body_value I o.0.groups ≡ 𝐢) × Carries I (λ x y. T (before x y)) o.0 𝐢). inr (o.0, inl o.1, x.0, x.1))
          (rests_on o.0 l o.1 marked g.0 g.1 g.2))
          o.3
      go (inr v) =
          let s : Serves R A st l = v.1 in
          ⊎_elim
          (λ (t : body_value I s.rule.groups ≡ 𝐭).
          let c : code (body_value I s.rule.groups) ≡ 3 = ap code t in
          absurd
          (⊎_elim (λ (f : s.rule.groups ≡ []). s.no_clean.0 f)
          (λ (g : (β : List ℕ) × (β ∈ s.rule.groups) × (3 ≤ code (group_value I β))).
          s.no_clean.1
          g.0 g.1 (λ ι i. 𝐭→clean R A I is_held settled ι (group_𝐭 I g.0 (3≤code→𝐭 (group_value I g.0) g.2) ι i)))
          (body_attained I 3 (omega arith) s.rule.groups (omega arith))))
          (λ (x : (body_value I s.rule.groups ≡ 𝐢) × Carries I (λ x y. T (before x y)) s.rule 𝐢). inr (s.rule, inr s.is_rule, x.0, x.1))
          (rests_on s.rule (negation l) s.is_rule (rw (atom_negation l) v.0) s.group s.of_rule s.smaller)

  ranked_supported : WellSupportedByTest R I
  ranked_supported = (
    before,
    record {
      model = settled_model R A I is_held settled one;
      order = strict;
      condition_6 = supported_t;
      condition_7_or_8 = supported_i;
    },
  )

pub settled_supported : (R : List Rule) → OneRulePerHead R → {n : ℕ} {A : Marks} → Marking R n A
    → Settled R A → (I : Interpretation) → IsHeld R A I → WellSupportedByTest R I
settled_supported R one {A = A} k s I is_held = ranked_supported R one A s I is_held (marking_ranked R k)
