-- Each literal of a well-supported interpretation, whatever its order, has a justified line by ranks, and all that the lines name is small. Assumes nothing.
use mathlib.Core.Bool.{Bool, true, false, not, cond, ◌&&◌}
use mathlib.Core.List.Memᴰ
use mathlib.Core.List.{List, [], ◌∷◌, ◌++◌, map, cons≢nil}
use mathlib.Core.Logic.{◌⊎◌, inl, inr, ⊎_elim}
use mathlib.Core.Path.{◌≡◌, refl, sym, ap, subst, subst⁻¹, ◌∙◌}
use Prim.Native.Nat.{ℕ, ◌*◌, ◌≤◌, ◌<◌}
use native.Mathlib.Omega.{arith}
use lib.Dec.{T, T_not, not_T, eqb, eqb→eq, eqb_refl, ltb, ltb→lt, lt→ltb}
use lib.ListN.{length}
use Rattle.sets.specs.Sets.{◌∈◌, count}
use Rattle.sets.proofs.Tests.{either, all_or_one_fails, and_intro, and_left, and_right, T→true}
use Rattle.sets.proofs.Counting.{count_less, count≤}
use Rattle.sets.proofs.Numbers.{down_from, down_from_has}
use Rattle.paper.specs.Table1.{Value, 𝐢, 𝐭, code}
use Rattle.paper.specs.Rules.{Rule, IsRuleOf, negation}
use Rattle.paper.specs.Definitions.{Interpretation, value, group_value, any_value, body_value, Carries, SupportsRuleOf, RestsOnInconsistent, WellSupportedBy, WellSupported}
use Rattle.paper.proofs.Values.{group_member, both→𝐢, alone→𝐭, 𝐢→negation}
use Rattle.paper.proofs.Closure.{Ranking, Own, Outcome, close, start, start_outcome}
use Rattle.paper.proofs.Contained.{no_descent}
use Rattle.least.specs.Groups.{GroupNumber, the_fact, the_group}
use Rattle.least.proofs.Groups.{in_numbered, number≤length}
use Rattle.justified.specs.Justified.{Justified, by_6_or_7, by_8}

-- a justified line for each literal of I: its rank, the head of the rule that it names, its group's number
pub record RankedLines (R : List Rule) (I : Interpretation) (N M : ℕ) : Type 0 where
  pub rank : ℕ → ℕ
  pub rule_head : ℕ → ℕ
  pub group : ℕ → ℕ
  pub rank_below : (l : ℕ) → T (I l) → rank l < 2 * N
  pub head_below : (l : ℕ) → T (I l) → rule_head l < 2 * N
  pub group_below : (l : ℕ) → group l ≤ M
  pub justified : (l : ℕ) → T (I l) → Justified R I (λ x y. rank x < rank y) l (rule_head l) (group l)

-- a place below N for each rank: how many of S have a smaller one
module _ (N : ℕ) (S : ℕ → Bool) (rank : ℕ → ℕ) where
  lower : ℕ → ℕ → Bool
  lower l x = S x && ltb (rank x) (rank l)

  not_lower_itself : (l : ℕ) → T (not (lower l l))
  unfolding lower
  not_lower_itself l = not_T (lower l l) (λ t. let k = ltb→lt (rank l) (rank l) (and_right (S l) (ltb (rank l) (rank l)) t) in omega arith)

  place : ℕ → ℕ
  place l = count N (lower l)

  place_smaller : (x y : ℕ) → x < N → T (S x) → rank x < rank y → place x < place y
  unfolding lower place
  place_smaller x y lt m k =
      count_less N (lower x) (lower y)
      (λ z t. and_intro (S z) (ltb (rank z) (rank y)) (and_left (S z) (ltb (rank z) (rank x)) t)
      (let j = ltb→lt (rank z) (rank x) (and_right (S z) (ltb (rank z) (rank x)) t) in lt→ltb (rank z) (rank y) (omega arith)))
      x lt (not_lower_itself x) (and_intro (S x) (ltb (rank x) (rank y)) m (lt→ltb (rank x) (rank y) k))

  place_below : (l : ℕ) → l < N → T (S l) → place l < N
  unfolding lower place
  place_below l lt m =
      let k = count_less N (lower l) S (λ z t. and_left (S z) (ltb (rank z) (rank l)) t) l lt (not_lower_itself l) m in
      let j = count≤ N S in
      omega arith

-- a body of one i group is i
pub one_group_𝐢 : (I : Interpretation) (β : List ℕ) → group_value I β ≡ 𝐢 → body_value I (β ∷ []) ≡ 𝐢
unfolding body_value any_value
one_group_𝐢 I β e = rw e

module _ (R : List Rule) (I : Interpretation) (M : ℕ) (small : (ρ : Rule) → ρ ∈ R → length ρ.groups ≤ M)
    (before : ℕ → ℕ → Type 0) where
  -- a line chosen for l, and the literals that have to stand before the head that it names; for a literal that is not in I there are none
  record Chosen (l : ℕ) : Type 0 where
    names : ℕ
    group : ℕ
    needs : List ℕ
    own : (names ≡ l) ⊎ (names ≡ negation l)
    names_in : T (I l) → T (I names)
    group≤ : group ≤ M
    needs_in : (ι : ℕ) → ι ∈ needs → T (I ι)
    earlier : (ι : ℕ) → ι ∈ needs → before ι names
    justified : T (I l) → (rank : ℕ → ℕ) → ((ι : ℕ) → ι ∈ needs → rank ι < rank names)
        → Justified R I (λ x y. rank x < rank y) l names group

  -- no literal has to stand before l, as l is a fact or not in I
  nothing_needed : (l : ℕ) → (T (I l) → (rank : ℕ → ℕ) → Justified R I (λ x y. rank x < rank y) l l 0) → Chosen l
  nothing_needed l f =
      record {
        names = l;
        group = 0;
        needs = [];
        own = inl refl;
        names_in = λ m. m;
        group≤ = omega arith;
        needs_in = λ ι i. absurd (Memᴰ.not-nil i);
        earlier = λ ι i. absurd (Memᴰ.not-nil i);
        justified = λ m rank g. f m rank;
      }

  -- a group of the rule of l or of its negation has to stand before that rule's head
  group_needed : (l : ℕ) (ρ : Rule) {v : Value} → 2 ≤ code v → ρ ∈ R → (ρ.head ≡ l) ⊎ (ρ.head ≡ negation l) → T (I ρ.head)
      → (c : Carries I before ρ v)
      → ((g : ℕ) → GroupNumber ρ.groups g c.0 → (rank : ℕ → ℕ) → ((ι : ℕ) → ι ∈ c.0 → rank ι < rank ρ.head)
      → Justified R I (λ x y. rank x < rank y) l ρ.head g) → Chosen l
  group_needed l ρ two r own head_in c f =
      let n = in_numbered c.1 in
      record {
        names = ρ.head;
        group = n.0;
        needs = c.0;
        own = own;
        names_in = λ k. head_in;
        group≤ = let k = number≤length n.1 in let j = small ρ r in omega arith;
        needs_in = group_member I c.0 (subst⁻¹ (λ (w : Value). 2 ≤ code w) c.2 two);
        earlier = c.3;
        justified = λ k rank g. f n.0 n.1 rank g;
      }

  by_6_or_7_chosen : (l : ℕ) → T (I l) → SupportsRuleOf R I before l → Chosen l
  by_6_or_7_chosen l m s =
      let ρ : Rule = s.0 in
      ⊎_elim
      (λ (e : ρ.groups ≡ []).
      nothing_needed l (λ k rank. by_6_or_7 ρ ρ s.1 (the_fact e) (ρ, (Memᴰ.head refl, s.1.1), inl e)))
      (λ (c : Carries I before ρ 𝐭).
      group_needed l ρ (omega arith) s.1.0 (inl s.1.1) (rw s.1.1 m) c
      (λ g n rank f. by_6_or_7 ρ (record { head = ρ.head; groups = c.0 ∷ [] }) (s.1.0, refl) (the_group n)
      (_, (Memᴰ.head refl, s.1.1), inr (c.0, Memᴰ.head refl, c.2, f))))
      s.2

  by_8_chosen : (l : ℕ) → T (I l) → value I l ≡ 𝐢 → RestsOnInconsistent R I before l → Chosen l
  by_8_chosen l m i q =
      ⊎_elim
      (λ (r : IsRuleOf R l q.0). go q.0 r.0 (inl r.1) (rw r.1 m) q.2 q.3)
      (λ (r : IsRuleOf R (negation l) q.0).
      go q.0 r.0 (inr r.1) (rw r.1 (𝐢→negation I l i)) q.2 q.3)
      q.1
    where
      go : (ρ : Rule) → ρ ∈ R → (ρ.head ≡ l) ⊎ (ρ.head ≡ negation l) → T (I ρ.head)
          → body_value I ρ.groups ≡ 𝐢 → (c : Carries I before ρ 𝐢) → Chosen l
      go ρ r own head_in b c =
          group_needed l ρ (omega arith) r own head_in c
          (λ g n rank f. let σ : Rule = record { head = ρ.head; groups = c.0 ∷ [] } in
          by_8 ρ σ (r, refl) (the_group n) i b (
            σ,
            ⊎_elim (λ e. inl (Memᴰ.head refl, e)) (λ e. inr (Memᴰ.head refl, e)) own,
            one_group_𝐢 I c.0 c.2,
            (c.0, Memᴰ.head refl, c.2, f),
          ))

  module _ (ws : WellSupportedBy R I before) where
    chosen : (l : ℕ) → Chosen l
    chosen l =
        ⊎_elim
        (λ (m : T (I l)).
        ⊎_elim (λ (k : T (I (negation l))). let i : value I l ≡ 𝐢 = both→𝐢 I l m k in
        ⊎_elim (by_6_or_7_chosen l m) (by_8_chosen l m i) (ws.condition_7_or_8 l m i))
        (λ (k : T (not (I (negation l)))). by_6_or_7_chosen l m (ws.condition_6 l m (alone→𝐭 I l m k))) (either (I (negation l))))
        (λ (n : T (not (I l))). nothing_needed l (λ m. absurd (T_not (I l) n m)))
        (either (I l))

    -- what l's line needs before h: nothing if it names another
    needs_at : ℕ → ℕ → List ℕ
    needs_at l h = cond (eqb (chosen l).names h) (chosen l).needs []

    needs_at→ : (l h ι : ℕ) → ι ∈ needs_at l h → T (I ι) × before ι h
    unfolding needs_at
    needs_at→ l h ι = go (eqb (chosen l).names h) (λ t. eqb→eq (chosen l).names h t)
      where
        go : (b : Bool) → (T b → (chosen l).names ≡ h) → ι ∈ cond b (chosen l).needs [] → T (I ι) × before ι h
        go true e i = ((chosen l).needs_in ι i, subst (before ι) (e tt) ((chosen l).earlier ι i))
        go false e i = absurd (Memᴰ.not-nil i)

    →needs_at : (l ι : ℕ) → ι ∈ (chosen l).needs → ι ∈ needs_at l (chosen l).names
    unfolding needs_at
    →needs_at l ι i = rw (T→true (eqb (chosen l).names (chosen l).names) (eqb_refl (chosen l).names)) i

    -- only the lines of h and its negation name h
    all_needs : ℕ → List ℕ
    all_needs h = needs_at h h ++ needs_at (negation h) h

    all_needs→ : (h ι : ℕ) → ι ∈ all_needs h → T (I ι) × before ι h
    unfolding all_needs
    all_needs→ h ι i = ⊎_elim (needs_at→ h h ι) (needs_at→ (negation h) h ι) (Memᴰ.append_cases (needs_at h h) i)

    →all_needs : (l ι : ℕ) → ι ∈ (chosen l).needs → ι ∈ all_needs (chosen l).names
    unfolding all_needs
    →all_needs l ι i =
        let h : ℕ = (chosen l).names in
        ⊎_elim (λ (e : h ≡ l). Memᴰ.append_left (needs_at (negation h) h) (subst⁻¹ (λ (z : ℕ). ι ∈ needs_at z h) e (→needs_at l ι i)))
        (λ (e : h ≡ negation l). let k : negation h ≡ l = omega arith in
        Memᴰ.append_right (needs_at h h) (subst⁻¹ (λ (z : ℕ). ι ∈ needs_at z h) k (→needs_at l ι i)))
        (chosen l).own

    -- what has to stand before h, as a rule
    abbrev constraint : ℕ → Rule
    constraint h = record { head = h; groups = all_needs h ∷ [] }

    module _ (N : ℕ) (below : (l : ℕ) → T (I l) → l < 2 * N) where
      constraints : List Rule
      constraints = map constraint (down_from (2 * N))

      st : Ranking
      st = close constraints I (start (λ l. false))

      outcome : Outcome constraints I (start (λ l. false)) st
      unfolding st
      outcome = start_outcome constraints I (λ l. false)

      -- a member's needs have smaller ranks
      needs_smaller : (h ι : ℕ) → T (st.members h) → ι ∈ all_needs h → st.rank ι < st.rank h
      unfolding constraints
      needs_smaller h ι m i = ⊎_elim (λ (x : ⊥). absurd x) (λ (o : Own constraints I st h). go o) (outcome.grows.came h m)
        where
          go : Own constraints I st h → st.rank ι < st.rank h
          go o =
              let q = Memᴰ.of_map constraint (down_from (2 * N)) o.1.0 in
              let e : constraint h ≡ o.0 = ap constraint (sym (ap (λ (ρ : Rule). ρ.head) q.2 ∙ o.1.1)) ∙ q.2 in
              let g : o.0.groups ≡ all_needs h ∷ [] = ap (λ (ρ : Rule). ρ.groups) (sym e) in
              ⊎_elim (λ (f : o.0.groups ≡ []). absurd (cons≢nil (sym g ∙ f)))
              (λ (k : (β : List ℕ) × (β ∈ o.0.groups) × ((ι : ℕ) → ι ∈ β → T (st.members ι) × (st.rank ι < st.rank h))).
              let β≡ : k.0 ≡ all_needs h = Memᴰ.eq_of_singleton (subst (λ (z : List (List ℕ)). k.0 ∈ z) g k.1) in
              (k.2 ι (subst⁻¹ (λ (z : List ℕ). ι ∈ z) β≡ i)).1)
              o.3

      -- a literal of I that got no rank; one of its needs got none either
      Out : ℕ → Type 0
      Out l = T (I l) × T (not (st.members l))

      out_down : (l : ℕ) → Out l → (m : ℕ) × Out m × before m l
      unfolding Out constraints
      out_down l b =
          ⊎_elim
          (λ (all : (ι : ℕ) → ι ∈ all_needs l → T (st.members ι)).
          absurd (T_not (st.members l) b.1 (outcome.closed (constraint l)
          (Memᴰ.map constraint (down_from_has (2 * N) l (below l b.0))) b.0 (inr (all_needs l, Memᴰ.head refl, all)))))
          (λ (x : (ι : ℕ) × (ι ∈ all_needs l) × T (not (st.members ι))).
          let k = all_needs→ l x.0 x.1 in (x.0, (k.0, x.2), k.1))
          (all_or_one_fails st.members (all_needs l))

      -- so the order leaves none out
      none_out : (l : ℕ) → T (I l) → T (st.members l)
      unfolding Out
      none_out l m =
          ⊎_elim (λ (k : T (st.members l)). k)
          (λ (n : T (not (st.members l))).
          absurd (no_descent I before ws.order Out (λ x b. b.0) out_down (length (down_from (2 * N))) (down_from (2 * N)) (omega arith) l (m, n)
          (λ x b lt. down_from_has (2 * N) x (below x b.0))))
          (either (st.members l))

      ranked_lines : RankedLines R I N M
      ranked_lines =
          record {
            rank = place (2 * N) I st.rank;
            rule_head = λ l. (chosen l).names;
            group = λ l. (chosen l).group;
            rank_below = λ l m. place_below (2 * N) I st.rank l (below l m) m;
            head_below = λ l m. below (chosen l).names ((chosen l).names_in m);
            group_below = λ l. (chosen l).group≤;
            justified = λ l m. (chosen l).justified m (place (2 * N) I st.rank)
                (λ ι i. let k = (chosen l).needs_in ι i in
                place_smaller (2 * N) I st.rank ι (chosen l).names (below ι k) k
                (needs_smaller (chosen l).names ι (none_out (chosen l).names ((chosen l).names_in m)) (→all_needs l ι i)));
          }

pub well_supported→ranked : (R : List Rule) (I : Interpretation) (N M : ℕ) → ((l : ℕ) → T (I l) → l < 2 * N)
    → ((ρ : Rule) → ρ ∈ R → length ρ.groups ≤ M) → WellSupported R I → RankedLines R I N M
well_supported→ranked R I N M below small ws = ranked_lines R I M small ws.0 ws.1 N below
