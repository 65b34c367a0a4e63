-- Records that do not wait add nothing: the pass goes on at the next one that waits. Assumes nothing.
use mathlib.Core.Bool.{Bool, true, false, not, cond, ◌||◌}
use mathlib.Core.List.{List, []}
use mathlib.Core.Logic.{inl, inr, ⊎_elim}
use mathlib.Core.Path.{◌≡◌, refl, sym, ap, ap₂, ◌∙◌, subst, subst⁻¹}
use Prim.Native.Nat.{ℕ, zero, suc, ◌+◌, ◌-◌, ◌≤◌, ◌<◌}
use native.Mathlib.Decide.{ℕ_discrete, dec_lt}
use native.Mathlib.Omega.{arith}
use lib.Dec.{T, T_not}
use lib.ListN.{length, get_or, drop, drop_of_length-le}
use Rattle.sets.specs.Sets.{◌∈◌, ◌⊆◌}
use Rattle.sets.proofs.Tests.{true→T, false→not, refuted→false}
use Rattle.paper.specs.Rules.{Rule, atom}
use Rattle.paper.specs.Marking.{Marks}
use Rattle.paper.specs.Fires.{fires}
use Rattle.paper.proofs.Closure.{Fires, fires→, →fires}
use Rattle.bits.specs.Sets.{member}
use Rattle.bits.specs.Rows.{row_without, lowest_from}
use Rattle.bits.proofs.Least.{lowest_from_found, lowest_from_none}
use Rattle.bits.proofs.Laws.{length_taken_out, member_taken_out_same, member_taken_out_other}
use Rattle.words.specs.Layout.{records_of, rules_of}
use Rattle.words.specs.RecordAt.{rule_at}
use Rattle.least.specs.Groups.{Wholly}
use Rattle.least.proofs.Groups.{number_fires, none_fires}
use Rattle.index.proofs.Placed.{group_in_lem}
use Rattle.pending.specs.Pending.{Whole}
use Rattle.ranks.specs.declared.Found.{Found}
use Rattle.ranks.specs.declared.Adds.{Adds}
use Rattle.ranks.specs.Found.{Fit, adds_at, not_its_turn, with_line, with_negation, adding, at_rule, over_rules}
use Rattle.waiting.specs.declared.Order.{Order}
use Rattle.waiting.specs.Waiting.{number_for, place_for, AllBelow, Stirred, Ranking, MayAdd, Awake}
use Rattle.ranks.proofs.Lines.{Moves, line_moves, line_ranked, negation_too, negation_moves}
use Rattle.ranks.proofs.Rules.{Due, due, Added, not_due, no_group, one_line, two_lines, at_rule_lem, rule_moves}
use Rattle.waiting.proofs.Numbering.{in_drop, at_most_1024_rules, number_of}
use Rattle.index.specs.declared.Index.{Index}
use Rattle.std.specs.Prelude.{Some, None}

fires_more : (S S' : ℕ → Bool) → S ⊆ S' → (ρ : Rule) → T (fires S ρ) → T (fires S' ρ)
fires_more S S' sub ρ f =
    →fires S' ρ (⊎_elim inl (λ (q : (β : List ℕ) × (β ∈ ρ.groups) × ((ι : ℕ) → ι ∈ β → T (S ι))).
    inr (q.0, q.1, λ ι m. sub ι (q.2 ι m))) (fires→ S ρ f))

-- it is the turn of a head that has no line and is of the kind looked for
its_turn : (marked : Bool) (A : Marks) (st : Found) (l : ℕ) → Due marked A st l → T (not (not_its_turn marked A st.ranked l))
its_turn marked A st l d = go (member st.ranked l) marked (A (atom l)) d.0 d.1
  where
    go : (a m b : Bool) → T (not a) → b ≡ m → T (not (a || cond m (not b) b))
    go true m b h e = h
    go false true true h e = tt
    go false true false h e = subst T (sym e) tt
    go false false true h e = subst T e tt
    go false false false h e = tt

module _ {marked : Bool} {clean : List ℕ} {A : Marks} {st : Found} {ρ : Rule} where
  -- what has its turn and fires waits, so a rule that adds something does
  adds_waiting : member clean ⊆ member st.ranked → {X : Type 0} → (MayAdd marked A st.ranked ρ → X) → (X → ⊥)
      → {a : Adds} → Added marked clean A st ρ a → adding st ρ.head a ≡ st
  unfolding adding
  adds_waiting sub waits none (not_due t) = refl
  adds_waiting sub waits none (no_group a) = refl
  adds_waiting sub waits none (one_line {g = g} d a) =
      let S : ℕ → Bool = member (cond marked clean st.ranked) in
      let f : T (fires S ρ) = subst T (number_fires S ρ g a refl) tt in
      absurd (none (waits (its_turn marked A st ρ.head d, fires_more S (member st.ranked) (of_kind marked) ρ f)))
    where
      of_kind : (m : Bool) → member (cond m clean st.ranked) ⊆ member st.ranked
      of_kind true = sub
      of_kind false = λ l h. h
  adds_waiting sub waits none (two_lines {g = g} e d n a) =
      absurd (none (waits (its_turn marked A st ρ.head d, subst T (number_fires (member st.ranked) ρ g a refl) tt)))

  -- a rule that was looked at has had its turn or does not fire
  looked_at : Fit st → ρ.head < 1024 → {a : Adds} → Added marked clean A st ρ a → MayAdd marked A (adding st ρ.head a).ranked ρ → ⊥
  unfolding adding
  looked_at fit below (not_due t) may = T_not (not_its_turn marked A st.ranked ρ.head) may.0 t
  looked_at fit below (no_group a) may = subst T (sym (none_fires (member st.ranked) ρ a refl)) may.1
  looked_at fit below (one_line {g = g} d a) may =
      let st₁ = with_line st ρ.head ρ.head g in
      T_not (member st₁.ranked ρ.head) (due marked A st₁ ρ.head may.0).0 (line_ranked st ρ.head ρ.head g fit below)
  looked_at fit below (two_lines {g = g} e d n a) may =
      let st₁ = with_line st ρ.head ρ.head g in
      let st₂ = with_negation st₁ ρ.head g in
      let m = line_moves st ρ.head ρ.head g fit below d.0 in
      let more = (negation_moves m.fit below (negation_too st₁ ρ.head g)).grown.kept in
      T_not (member st₂.ranked ρ.head) (due marked A st₂ ρ.head may.0).0
      (more ρ.head (line_ranked st ρ.head ρ.head g fit below))

module _ {marked : Bool} {clean : List ℕ} {A : Marks} {t : List ℕ} {x : Index} {o : Order} where
  -- all wait
  pub all_awake : {st : Found} {counts w : List ℕ} → Ranking clean t x o st counts → AllBelow (length (rules_of t)) w
      → Awake marked clean A t x o st counts w
  all_awake r all =
      record {
        ranking = r;
        row = all.row;
        only = all.only;
        due = λ ρ m may. all.each _ (number_of t o r.numbered ρ m).below;
      }

  module _ {st : Found} {counts w : List ℕ} (awake : Awake marked clean A t x o st counts w) where
    -- a record that does not wait adds nothing
    idle : (ρ : Rule) → ρ ∈ rules_of t → (T (member w (number_for o ρ.head)) → ⊥) → at_rule marked clean A st ρ ≡ st
    idle ρ m none = adds_waiting awake.ranking.clean_ranked (awake.due ρ m) none (at_rule_lem clean A st ρ marked)

    idle_on : (d i k : ℕ) → i + d ≡ k → ((j : ℕ) → i ≤ j → j < k → T (member w j) → ⊥)
        → over_rules marked clean A (drop k (rules_of t)) st ≡ over_rules marked clean A (drop i (rules_of t)) st
    unfolding over_rules
    idle_on zero i k e none =
        let q : k ≡ i = omega arith in
        ap (λ (j : ℕ). over_rules marked clean A (drop j (rules_of t)) st) q
    idle_on (suc d) i k e none =
        elim (dec_lt i (length (rules_of t))) [
          | yes lt ↦
              let r = awake.ranking.numbered.each i lt in
              let ρ : Rule = rule_at t (place_for o i) in
              let still = idle ρ (in_drop i (rules_of t) r.rule)
              (λ h. none i (omega arith) (omega arith) (subst (λ (j : ℕ). T (member w j)) r.number h)) in
              idle_on d (suc i) k (omega arith) (λ j a b. none j (omega arith) b)
              ∙ ap (over_rules marked clean A (drop (suc i) (rules_of t))) (sym still)
              ∙ ap (λ (R : List Rule). over_rules marked clean A R st) (sym r.rule)
          | no ge ↦
              ap (λ (R : List Rule). over_rules marked clean A R st)
              (drop_of_length-le (rules_of t) {i = k} (omega arith) ∙ sym (drop_of_length-le (rules_of t) {i = i} (omega arith)))
        ]

    -- none waits from number i on
    pub none_left : {i : ℕ} → i < 1024 → None ≡ lowest_from (1024 - i) i (member w)
        → over_rules marked clean A (drop 1024 (rules_of t)) st ≡ over_rules marked clean A (drop i (rules_of t)) st
    none_left {i} lt found =
        idle_on (1024 - i) i 1024 (omega arith)
        (λ j a b m. subst T (lowest_from_none (1024 - i) i (member w) (sym found) j a (omega arith)) m)

    module _ {i j : ℕ} (lt : i < 1024) (found : Some j ≡ lowest_from (1024 - i) i (member w)) where
      -- the next that waits
      pub next_below : j < length (rules_of t)
      next_below = awake.only j (true→T (member w j) (lowest_from_found (1024 - i) i j (member w) (sym found)).passes)

      pub next_further : i ≤ j
      next_further = (lowest_from_found (1024 - i) i j (member w) (sym found)).from

      pub next_looked_at : {st' : Found} → st' ≡ at_rule marked clean A st (rule_at t (place_for o j))
          → over_rules marked clean A (drop (j + 1) (rules_of t)) st' ≡ over_rules marked clean A (drop i (rules_of t)) st
      unfolding over_rules
      next_looked_at {st'} e =
          let q = lowest_from_found (1024 - i) i j (member w) (sym found) in
          let r = awake.ranking.numbered.each j next_below in
          let from : i ≤ j = q.from in
          let s : j + 1 ≡ suc j = omega arith in
          ap (λ (k : ℕ). over_rules marked clean A (drop k (rules_of t)) st') s
          ∙ ap (over_rules marked clean A (drop (suc j) (rules_of t))) e
          ∙ ap (λ (R : List Rule). over_rules marked clean A R st) (sym r.rule)
          ∙ idle_on (j - i) i j (omega arith) (λ k a b m. subst T (q.none_before k a b) m)

    -- what was chosen at the place of a record is what its rule adds
    pub looked_at_adds : (j : ℕ) {at head : ℕ} {adds : Adds} {st' : Found} → at ≡ place_for o j → head ≡ get_or t at 0
        → adds ≡ adds_at marked clean A st.ranked (rule_at t at) → st' ≡ adding st head adds
        → st' ≡ at_rule marked clean A st (rule_at t (place_for o j))
    looked_at_adds j place eh ea e = e ∙ ap₂ (adding st) eh ea ∙ ap (λ (p : ℕ). at_rule marked clean A st (rule_at t p)) place

    module _ {j : ℕ} (lt : j < length (rules_of t)) {st' : Found} (e : st' ≡ at_rule marked clean A st (rule_at t (place_for o j))) where
      this_below : (rule_at t (place_for o j)).head < 1024
      this_below = (awake.ranking.numbered.each j lt).stands.head_literal

      moved : Moves st (at_rule marked clean A st (rule_at t (place_for o j)))
      moved = rule_moves marked clean A st (rule_at t (place_for o j)) awake.ranking.fit this_below

      kept : member st.ranked ⊆ member st'.ranked
      kept l m = rw e (moved.grown.kept l m)

      -- a rule that may add something now might have done so before, or has a group that became whole
      waits : {counts' w' : List ℕ} → Stirred t o st.ranked st'.ranked w w' counts' → (ρ : Rule) → ρ ∈ rules_of t
          → MayAdd marked A st'.ranked ρ → T (member w' (number_for o ρ.head))
      waits {w' = w'} s ρ m may =
          ⊎_elim (λ (fact : ρ.groups ≡ []). before (inl fact))
          (λ (q : (β : List ℕ) × (β ∈ ρ.groups) × Wholly (member st'.ranked) β).
          let g = group_in_lem 0 (records_of t) ρ q.0 m q.1 in
          ⊎_elim (λ (k : Whole (member st.ranked) g.group). before (inr (q.0, q.1, subst (Wholly (member st.ranked)) g.literals k)))
          (λ (k : T (member w' (number_for o g.group.head))). subst (λ (h : ℕ). T (member w' (number_for o h))) g.head k)
          (s.whole g.group g.one (subst⁻¹ (Wholly (member st'.ranked)) g.literals q.2)))
          (fires→ (member st'.ranked) ρ may.1)
        where
          turn : T (not (not_its_turn marked A st.ranked ρ.head))
          turn =
              let d = due marked A st' ρ.head may.0 in
              let new = refuted→false (member st.ranked ρ.head) (λ h. T_not (member st'.ranked ρ.head) d.0 (kept ρ.head h)) in
              its_turn marked A st ρ.head (false→not (member st.ranked ρ.head) new, d.1)

          before : Fires (member st.ranked) ρ → T (member w' (number_for o ρ.head))
          before f = s.more (number_for o ρ.head) (awake.due ρ m (turn, →fires (member st.ranked) ρ f))

      -- after its turn all others that may have something to add wait
      pub stays_awake : {counts' w' : List ℕ} → Stirred t o st.ranked st'.ranked w w' counts'
          → Awake marked clean A t x o st' counts' w'
      stays_awake s =
          record {
            ranking = record {
              index = awake.ranking.index;
              numbered = awake.ranking.numbered;
              fit = subst⁻¹ Fit e moved.fit;
              counted = s.counts;
              clean_ranked = λ l m. kept l (awake.ranking.clean_ranked l m);
            };
            row = s.row;
            only = λ k m. ⊎_elim (awake.only k) (λ (h : k < length (rules_of t)). h) (s.only k m);
            due = waits s;
          }

      -- it has nothing more to add
      done : (ρ : Rule) → ρ ≡ rule_at t (place_for o j) → MayAdd marked A st'.ranked ρ → ⊥
      done ρ q may =
          looked_at awake.ranking.fit this_below (at_rule_lem clean A st (rule_at t (place_for o j)) marked)
          (subst (λ (z : Found). MayAdd marked A z.ranked (rule_at t (place_for o j))) e (subst (MayAdd marked A st'.ranked) q may))

      -- so it need not wait any longer
      pub taken_out : {counts' w₁ w' : List ℕ} → Awake marked clean A t x o st' counts' w₁ → w' ≡ row_without w₁ j
          → Awake marked clean A t x o st' counts' w'
      taken_out {w₁ = w₁} {w'} after out =
          let others : (k : ℕ) → (k ≡ j → ⊥) → member w' k ≡ member w₁ k =
          λ k ne. ap (λ (v : List ℕ). member v k) out ∙ member_taken_out_other w₁ j k ne in
          let gone : member w' j ≡ false = ap (λ (v : List ℕ). member v j) out ∙ member_taken_out_same w₁ j in
          record {
            ranking = after.ranking;
            row = ap length out ∙ length_taken_out w₁ j ∙ after.row;
            only = λ k m. elim (ℕ_discrete k j) [
              | yes same ↦ absurd (subst T (ap (member w') same ∙ gone) m)
              | no ne ↦ after.only k (subst T (others k ne) m)
            ];
            due = λ ρ m may.
                let n = number_of t o awake.ranking.numbered ρ m in
                elim (ℕ_discrete (number_for o ρ.head) j) [
                  | yes same ↦ absurd (done ρ (n.rule ∙ ap (λ (k : ℕ). rule_at t (place_for o k)) same) may)
                  | no ne ↦ subst⁻¹ T (others (number_for o ρ.head) ne) (after.due ρ m may)
                ];
          }

-- the rules before number i were passed
pub record PassedTo (marked : Bool) (clean : List ℕ) (A : Marks) (t : List ℕ) (x : Index) (o : Order) (st : Found) (i : ℕ) (st' : Found)
    (counts w : List ℕ) : Type 0 where
  pub awake : Awake marked clean A t x o st' counts w
  pub same : over_rules marked clean A (drop i (rules_of t)) st' ≡ over_rules marked clean A (rules_of t) st

pub pass_ends : {marked : Bool} {clean : List ℕ} {A : Marks} {t : List ℕ} {x : Index} {o : Order} {st st' : Found} {i : ℕ} {counts w : List ℕ}
    → 1024 ≤ i
    → PassedTo marked clean A t x o st i st' counts w → st' ≡ over_rules marked clean A (rules_of t) st
unfolding over_rules
pass_ends {marked} {clean} {A} {t} {st' = st'} {i} le p =
    let few = at_most_1024_rules t p.awake.ranking.index.table in
    ap (λ (R : List Rule). over_rules marked clean A R st') (sym (drop_of_length-le (rules_of t) {i = i} (omega arith))) ∙ p.same
