-- A round marks as if one at a time; rounds come to a settled marking. Assumes nothing.
use mathlib.Core.Bool.{Bool, true, false, not, ◌&&◌, ◌||◌, true≢false, false≢true, or_comm, or-false, or-true}
use mathlib.Core.List.{List}
use mathlib.Core.Logic.{inl, inr, ⊎_elim}
use mathlib.Core.Path.{◌≡◌, refl, sym, ap, ap₂, ◌∙◌, subst, subst⁻¹}
use Prim.Native.Nat.{ℕ, zero, suc, ◌+◌, ◌-◌, ◌≤◌, ◌<◌}
use native.Mathlib.Numerals.{add-one}
use native.Mathlib.Omega.{arith}
use native.Mathlib.Decide.{ℕ_discrete}
use lib.Dec.{T, ltb, lt→ltb, ltb→lt}
use lib.ListN.{length, replicate}
use borrow.Author.Tests.{ne_eqb, lt-ltb, le-ltb}
use Rattle.paper.specs.Rules.{Rule, HeadsBelow, atom}
use Rattle.paper.specs.Marking.{CanBeMarked, Settled, Marking, one_more, IsHeld, IsClean, from_base}
use Rattle.sets.specs.Sets.{◌with◌, count}
use Rattle.sets.specs.Some.{some_below}
use Rattle.sets.proofs.Some.{some_more}
use Rattle.paper.proofs.Leasts.{can_be_marked_mono, held_mono}
use Rattle.sets.proofs.Besides.{with_⊇}
use Rattle.sets.proofs.Counting.{count_with, count≤}
use Rattle.sets.proofs.Tests.{and_left, true→T, same_tests→≡, or_right, or_cases}
use Rattle.bits.specs.Sets.{member, put_in}
use Rattle.bits.proofs.Laws.{member_put_in, member_put_in_same, member_put_in_other, length_put_in}
use Rattle.words.specs.Layout.{rules_of}
use Rattle.pending.specs.Pending.{PairsOf, with_pair, Working}
use Rattle.pending.proofs.Marked.{working_more, Marking-below, marking_starts, marking_goes_on}
use Rattle.marking.specs.Markable.{markable, reason_to_mark}
use Rattle.marking.proofs.Markable.{markable_is, goes_on}
use Rattle.evaluation.specs.declared.Unsettled.{Unsettled}
use Rattle.evaluation.specs.Rounds.{marked_one, marked_below, paired_below, with_one, RoundOver, MarkedAll, Begun, Settling, Round, Standing}

-- what looking at the atoms below a does to the marks s
pub record Looked (s : List ℕ) (H C : ℕ → Bool) (a : ℕ) (any : Bool) (s' : List ℕ) : Type 0 where
  pub ahead : (b : ℕ) → a ≤ b → member s' b ≡ member s b
  pub length_same : length s' ≡ length s
  pub more : (b : ℕ) → T (member s b) → T (member s' b)
  pub one_at_a_time : (R : List Rule) → ((a : ℕ) → T (markable (member s) H C a) → CanBeMarked R (member s) a)
      → (k : ℕ) → Marking R k (member s) → (k' : ℕ) × Marking R k' (member s')
  pub unchanged : any ≡ false → member s' ≡ member s
  pub grew : any ≡ true → count 512 (member s) < count 512 (member s')

module _ (s : List ℕ) (H C : ℕ → Bool) (len : length s ≡ 8) where
  abbrev one : ℕ → Bool
  one a = markable (member s) H C a

  abbrev before : ℕ → Bool
  before a = some_below (markable (member s) H C) a

  abbrev so_far : ℕ → List ℕ
  so_far a = marked_below s H C a

  module _ (a : ℕ) (lt : a < 512) (k : Looked s H C a (before a) (so_far a)) where
    looked_marking : one a ≡ true → Looked s H C (suc a) (true || before a) (put_in (so_far a) a)
    looked_marking e =
        let eight : length (so_far a) ≡ 8 = k.length_same ∙ len in
        let m : member (put_in (so_far a) a) ≡ (member (so_far a) with a) = member_put_in (so_far a) a (omega arith) in
        let u₀ : T (not (member s a)) = and_left (not (member s a)) (reason_to_mark H C a) (true→T (one a) e) in
        let u : T (not (member (so_far a) a)) = subst⁻¹ (λ (b : Bool). T (not b)) (k.ahead a (omega arith)) u₀ in
        let c : count 512 (member (put_in (so_far a) a)) ≡ suc (count 512 (member (so_far a))) = ap (count 512) m
        ∙ count_with 512 (member (so_far a)) a lt u in
        record {
          ahead = λ b h. ap (λ (f : ℕ → Bool). f b) m ∙ rw (ne_eqb b a (λ p. omega arith)) (k.ahead b (omega arith));
          length_same = length_put_in (so_far a) a ∙ k.length_same;
          more = λ b h. subst⁻¹ (λ (f : ℕ → Bool). T (f b)) m (with_⊇ (member (so_far a)) a b (k.more b h));
          one_at_a_time = λ R f n w.
              let q = k.one_at_a_time R f n w in
              let can : CanBeMarked R (member (so_far a)) a = can_be_marked_mono (member s) (member (so_far a)) k.more a u (f a (true→T (one a) e)) in
              (suc q.0, subst⁻¹ (λ (f : ℕ → Bool). Marking R (suc q.0) f) m (one_more a q.1 can));
          unchanged = λ p. absurd (true≢false p);
          grew = λ p. larger (before a) refl c;
        }
      where
        larger : (b : Bool) → before a ≡ b → count 512 (member (put_in (so_far a) a)) ≡ suc (count 512 (member (so_far a)))
            → count 512 (member s) < count 512 (member (put_in (so_far a) a))
        larger true p c = let g = k.grew p in omega arith
        larger false p c = let g = ap (count 512) (k.unchanged p) in omega arith

    looked_at_one : (b : Bool) → one a ≡ b → Looked s H C (suc a) (b || before a) (marked_one (so_far a) a b)
    looked_at_one true e = looked_marking e
    looked_at_one false e =
        record {
          ahead = λ b h. k.ahead b (omega arith);
          length_same = k.length_same;
          more = k.more;
          one_at_a_time = k.one_at_a_time;
          unchanged = k.unchanged;
          grew = k.grew;
        }

  looked : (n : ℕ) → n ≤ 512 → Looked s H C n (before n) (so_far n)
  unfolding marked_below
  looked zero h =
      record {
        ahead = λ b h. refl;
        length_same = refl;
        more = λ b h. h;
        one_at_a_time = λ R f k m. (k, m);
        unchanged = λ e. refl;
        grew = λ e. absurd (false≢true e);
      }
  looked (suc a) h =
      subst⁻¹ (λ (b : Bool). Looked s H C (suc a) b (so_far (suc a))) (some_more one a)
      (looked_at_one a (omega arith) (looked a (omega arith)) (one a) refl)

  -- by the marks at hand an atom can be marked exactly if it could by those before the round
  turn_same : (s₁ : List ℕ) (a : ℕ) (any marked : Bool) → a < 512 → RoundOver s H C a any s₁ → marked ≡ markable (member s₁) H C a
      → marked ≡ one a
  turn_same s₁ a any marked lt o e =
      let here : member s₁ a ≡ member s a = ap (λ (x : List ℕ). member x a) o.marks_are ∙ (looked a (omega arith)).ahead a (omega arith) in
      e ∙ ap (λ (b : Bool). not b && reason_to_mark H C a) here

  -- the literals of one atom more
  pub pair_turn : (u u₁ u₂ s₁ : List ℕ) (a : ℕ) (any marked : Bool) → a < 512 → RoundOver s H C a any s₁ → marked ≡ markable
      (member s₁) H C a
      → u₁ ≡ paired_below u s H C a → u₂ ≡ with_pair u₁ a marked → u₂ ≡ paired_below u s H C (a + 1)
  unfolding paired_below
  pair_turn u u₁ u₂ s₁ a any marked lt o e e₁ e₂ =
      rw (add-one a) (e₂ ∙ ap₂ (λ (x : List ℕ) (b : Bool). with_pair x a b) e₁ (turn_same s₁ a any marked lt o e))

  -- a turn looks at one atom more
  pub turn : (s₁ s₂ : List ℕ) (a : ℕ) (any marked any' : Bool) → a < 512 → RoundOver s H C a any s₁ → marked ≡ markable (member s₁) H C a
      → s₂ ≡ marked_one s₁ a marked → any' ≡ (marked || any) → RoundOver s H C (a + 1) any' s₂
  unfolding marked_below
  turn s₁ s₂ a any marked any' lt o e es ea =
      let same = turn_same s₁ a any marked lt o e in
      rw (add-one a)
      (record {
        marks_are = es ∙ ap₂ (λ (x : List ℕ) (b : Bool). marked_one x a b) o.marks_are same;
        any_is = ea ∙ ap₂ (λ (b c : Bool). b || c) same o.any_is ∙ sym (some_more one a);
      })

  pub over_looked : (n : ℕ) (any : Bool) (s' : List ℕ) → n ≤ 512 → RoundOver s H C n any s' → Looked s H C n any s'
  over_looked n any s' h o = rw (o.marks_are, o.any_is) (looked n h)

pub round_begins : (s : List ℕ) (H C : ℕ → Bool) → RoundOver s H C 0 false s
unfolding marked_below
round_begins s H C = record { marks_are = refl; any_is = refl }

-- what is left to mark
abbrev pub left : List ℕ → ℕ
left s = 512 - count 512 (member s)

-- a whole round from marks that were begun: held again, clean afresh, then marks
module _ (R : List Rule) (n : ℕ) (below : HeadsBelow n R) (le : n ≤ 512)
    (s s' h h' : List ℕ) (any : Bool) (b : Begun R s h) (o : Round R n s s' h' any) where
  by_round : Looked s (member h') o.clean n any s'
  by_round = over_looked s (member h') o.clean b.marks_length n any s' le o.over

  pub round_settles : Settling R s' h' any
  round_settles =
      let q = by_round.one_at_a_time R (λ a t. (markable_is R (member s) (member h') o.clean o.held o.clean_is a).0 t) b.made b.marking in
      record {
        begun =
            record {
              marks_length = by_round.length_same ∙ b.marks_length;
              held_length = o.held_length;
              made = q.0;
              marking = q.1;
              held = λ l t. held_mono (member s) (member s') by_round.more ((o.held l).0 t);
            };
        settled = λ e.
            let u = by_round.unchanged e in
            let g = goes_on R (member s) (member h') o.clean o.held o.clean_is n below any o.over.any_is in
            (subst⁻¹ (λ (A : ℕ → Bool). IsHeld R A (member h')) u o.held, subst⁻¹ (λ (A : ℕ → Bool). Settled R A) u (g.when_false e));
      }

  -- .. and fewer are left to mark if one was marked
  pub round_falls : any ≡ true → left s' < left s
  round_falls e = let g = by_round.grew e in let c = count≤ 512 (member s') in omega arith

-- the rows of the literals of what a round marked
module _ (s : List ℕ) (H C : ℕ → Bool) where
  abbrev can : ℕ → Bool
  can a = markable (member s) H C a

  pub paired_members : (u : List ℕ) → length u ≡ 16 → (n : ℕ) → n ≤ 512 → Marking-below can u (paired_below u s H C n) n
  unfolding paired_below
  paired_members u row zero le = marking_starts can u
  paired_members u row (suc a) le =
      let m = paired_members u row a (omega arith) in
      subst (Marking-below can u (paired_below u s H C (suc a))) (add-one a)
      (marking_goes_on can u (paired_below u s H C a) (paired_below u s H C (suc a)) a (m.length_same ∙ row) (omega arith) m refl)

  pub marked_members : length s ≡ 8 → (n : ℕ) → n ≤ 512 → (length (marked_below s H C n) ≡ 8) × ((a : ℕ) → member
      (marked_below s H C n) a ≡ (member s a || ltb a n && can a))
  unfolding marked_below
  marked_members len zero le = (len, λ a. rw (le-ltb a 0 (omega arith)) (sym (or-false (member s a))))
  marked_members len (suc b) le =
      let m = marked_members len b (omega arith) in (
        length_one (marked_below s H C b) b (can b) ∙ m.0,
        λ a. elim (ℕ_discrete a b) [
          | yes e ↦ rw (e, lt-ltb b (suc b) (omega arith)) (here (can b) refl m.0 (m.1 b))
          | no n ↦ other (can b) a n ∙ m.1 a ∙ ap (λ (x : Bool). member s a || x && can a)
              (same_tests→≡ (ltb a b) (ltb a (suc b)) (λ h. lt→ltb a (suc b) (let k = ltb→lt a b h in omega arith))
              (λ h. lt→ltb a b (let k = ltb→lt a (suc b) h in omega (arith, n))))
        ],
      )
    where
      length_one : (u : List ℕ) (a : ℕ) (x : Bool) → length (marked_one u a x) ≡ length u
      length_one u a true = length_put_in u a
      length_one u a false = refl

      here : (x : Bool) → can b ≡ x → length (marked_below s H C b) ≡ 8 → member (marked_below s H C b) b ≡ (member s b || ltb b b && can b)
          → member (marked_one (marked_below s H C b) b x) b ≡ (member s b || x)
      here true e l q = member_put_in_same (marked_below s H C b) b (omega arith) ∙ sym (or-true (member s b))
      here false e l q = q ∙ ap (λ (x : Bool). member s b || x && can b) (le-ltb b b (omega arith))

      other : (x : Bool) (a : ℕ) → (a ≡ b → ⊥) → member (marked_one (marked_below s H C b) b x) a ≡ member (marked_below s H C b) a
      other true a n = member_put_in_other (marked_below s H C b) b a n
      other false a n = refl

-- after a round all stands as before it, for the marks that it made
module _ (t : List ℕ) (n : ℕ) (le : n ≤ 512) (m m' : Unsettled) (C : ℕ → Bool) (any : Bool)
    (len : length m.marks ≡ 8) (row : length m.shut ≡ 16) (pairs : PairsOf m.shut (member m.marks)) (work : Working t m.held (replicate 16 0))
    (none : (l : ℕ) → member m.held.ready l ≡ false) (held : IsHeld (rules_of t) (member m.marks) (member m.held.taken))
    (all : MarkedAll m C n any m') where
  abbrev H : ℕ → Bool
  H = member m.held.taken

  abbrev new : ℕ → Bool
  new a = ltb a n && markable (member m.marks) H C a

  shut_now : (l : ℕ) → member m'.shut l ≡ (member m.shut l || new (atom l))
  shut_now l = ap (λ (u : List ℕ). member u l) all.shut ∙ (paired_members m.marks H C m.shut row n le).members l

  ready_now : (l : ℕ) → member m'.held.ready l ≡ new (atom l)
  ready_now l =
      ap (λ (u : List ℕ). member u l) all.ready ∙ (paired_members m.marks H C m.held.ready work.ready_row n le).members l
      ∙ ap (λ (b : Bool). b || new (atom l)) (none l)

  marks_now : (a : ℕ) → member m'.marks a ≡ (member m.marks a || new a)
  marks_now a = ap (λ (u : List ℕ). member u a) all.over.marks_are ∙ (marked_members m.marks H C len n le).1 a

  pub standing_on : Standing t m'
  standing_on =
      record {
        shut_row = ap length all.shut ∙ (paired_members m.marks H C m.shut row n le).length_same ∙ row;
        pairs = λ l. shut_now l ∙ ap (λ (b : Bool). b || new (atom l)) (pairs l) ∙ sym (marks_now (atom l));
        working = working_more t m.held m'.held (replicate 16 0) all.taken all.counts
            (ap length all.ready ∙ (paired_members m.marks H C m.held.ready work.ready_row n le).length_same ∙ work.ready_row)
            (λ l k. absurd (subst T (none l) k)) work;
        pending = λ l k. from_base (subst⁻¹ T (marks_now (atom l)) (or_right (member m.marks (atom l)) (new (atom l)) (subst T (ready_now l) k)));
        marked = λ l k. ⊎_elim (λ (y : T (member m.marks (atom l))). inl (subst⁻¹ (λ (u : List ℕ). T (member u l)) all.taken
            ((held l).1 (from_base y))))
            (λ (y : T (new (atom l))). inr (subst⁻¹ T (ready_now l) y))
            (or_cases (member m.marks (atom l)) (new (atom l)) (subst T (marks_now (atom l)) k));
      }

  pub round_on : IsClean (rules_of t) (member m.marks) C → Round (rules_of t) n m.marks m'.marks m'.held.taken any
  round_on clean =
      record {
        held_length = ap length all.taken ∙ work.taken_row;
        held = subst⁻¹ (λ (u : List ℕ). IsHeld (rules_of t) (member m.marks) (member u)) all.taken held;
        clean = C;
        clean_is = clean;
        over = subst⁻¹ (λ (u : List ℕ). RoundOver m.marks (member u) C n any m'.marks) all.taken all.over;
      }

-- no atom was looked at yet
pub none_marked : (m : Unsettled) (C : ℕ → Bool) → MarkedAll m C 0 false m
unfolding paired_below
none_marked m C = record { over = round_begins m.marks (member m.held.taken) C; shut = refl; ready = refl; taken = refl; counts = refl }

-- one atom more was looked at
pub marked_more : (m m₁ m₂ : Unsettled) (C : ℕ → Bool) (a : ℕ) (any marked any' : Bool) → length m.marks ≡ 8 → a < 512
    → MarkedAll m C a any m₁ → marked ≡ markable (member m₁.marks) (member m₁.held.taken) C a → m₂ ≡ with_one m₁ a marked
    → any' ≡ (any || marked) → MarkedAll m C (a + 1) any' m₂
marked_more m m₁ m₂ C a any marked any' len lt k e em ea =
    let H = member m.held.taken in
    let can : marked ≡ markable (member m₁.marks) H C a = e ∙ ap (λ (u : List ℕ). markable (member m₁.marks) (member u) C a) k.taken in
    record {
      over = turn m.marks H C len m₁.marks m₂.marks a any marked any' lt k.over can (ap (λ (u : Unsettled). u.marks) em) (ea ∙ or_comm any marked);
      shut = pair_turn m.marks H C len m.shut m₁.shut m₂.shut m₁.marks a any marked lt k.over can k.shut (ap (λ (u : Unsettled). u.shut) em);
      ready = pair_turn m.marks H C len m.held.ready m₁.held.ready m₂.held.ready m₁.marks a any marked lt k.over can k.ready
          (ap (λ (u : Unsettled). u.held.ready) em);
      taken = ap (λ (u : Unsettled). u.held.taken) em ∙ k.taken;
      counts = ap (λ (u : Unsettled). u.held.counts) em ∙ k.counts;
    }
