-- Demand 3 about the entries' own promises: the order of work never matters. Assumes nothing.
use mathlib.Core.List.{List}
use mathlib.Core.Logic.{◌↔◌, ◌≢◌}
use mathlib.Core.Path.{◌≡◌, refl, sym, ap, ap₂, ◌∙◌, subst⁻¹, fun_ext}
use Prim.Native.Nat.{ℕ, ◌≤◌, ◌<◌}
use native.Mathlib.Omega.{arith}
use lib.Dec.{T_not}
use lib.ListN.{length}
use Rattle.refusal.specs.declared.Refusal.{Refusal}
use Rattle.refusal.specs.Numbers.{not_settled}
use Rattle.refusal.specs.Checks.{Checked, Decided}
use Rattle.words.specs.Check.{AcceptedTable}
use Rattle.words.specs.Layout.{rules_of}
use Rattle.refusal.proofs.Laws.{refused≢accepted}
use Rattle.words.proofs.Laws.{accepted_heads, accepted_one_rule}
use Rattle.paper.specs.Rules.{positive}
use Rattle.sets.specs.Sets.{◌∈◌, count}
use Rattle.paper.specs.Definitions.{Interpretation, value, Smallest}
use Rattle.paper.specs.Marking.{Marked, CanBeMarked, Settled, inconsistent}
use Rattle.paper.proofs.Existence.{pass_marks_one, passes_settle}
use Rattle.paper.proofs.Order.{can_be_marked_below, settled_equal}
use Rattle.paper.proofs.Smallest.{settled_value_is_smallest, marks_are_inconsistent}
use Rattle.sets.proofs.Counting.{count_≡}
use Rattle.bits.specs.Sets.{member}
use Rattle.bits.proofs.Laws.{member_put_in_other, same_members}
use Rattle.records.specs.Records.{marks_of, marks_counted, no_marks_for, CountAllows}
use Rattle.picks.specs.Faults.{pick_fault}
use Rattle.records.specs.declared.MarkRecord.{MarkRecord}
use Rattle.picks.specs.Entries.{PickAllows, SettledAllows, ReportAllows}
use Rattle.values.specs.Values.{written}
use Rattle.picks.specs.Traces.{Picks, PickPasses}
use Rattle.picks.proofs.Tracing.{RecordFor, fresh_for, record_for_good, pick_not_refused, picks_pass, picks_marking, passes_passes}
use Rattle.picks.proofs.Counted.{all_counted_settled}
use Rattle.picks.proofs.Faultless.{settled_not_refused, only_before_settled, reports, counts}
use Rattle.std.specs.Prelude.{Ok, Err, Result}
use Rattle.picks.specs.declared.PickAnswer.{PickAnswer}

-- a pick touches no other atom's mark, and not N
pub only_its_own_atom : {r : MarkRecord} {t : List ℕ} {a : ℕ} {r' : MarkRecord} {answer : Result PickAnswer Refusal}
    → PickAllows r t a answer r' → (r'.n ≡ r.n) × ((b : ℕ) → b ≢ a → marks_of r' b ≡ marks_of r b)
only_its_own_atom (PickAllows.refused e) = (refl, λ b n. refl)
only_its_own_atom (PickAllows.already_marked e m) = (refl, λ b n. refl)
only_its_own_atom {r} {a = a} (PickAllows.marked e c) = (refl, λ b n. member_put_in_other r.marks a b n)
only_its_own_atom (PickAllows.cannot_be_marked_now e u n) = (refl, λ b n'. refl)

-- a pick answers `marked` exactly when its atom can be marked, if it is not refused there
marks_exactly_when_it_may : {r : MarkRecord} {t : List ℕ} {a : ℕ} {r' : MarkRecord} {answer : Result PickAnswer Refusal} → PickAllows r t a answer r'
    → (CanBeMarked (rules_of t) (marks_of r) a → pick_fault r t a ≡ Ok tt)
    → (answer ≡ (Ok PickAnswer.Marked)) ↔ CanBeMarked (rules_of t) (marks_of r) a
marks_exactly_when_it_may (PickAllows.refused {f} e) h =
    ((λ p. let z : ◌≡◌ {A = ℕ} 0 1 = cc in absurd (omega arith)), λ c. absurd (refused≢accepted f (sym e ∙ h c)))
marks_exactly_when_it_may {r} {a = a} (PickAllows.already_marked e m) h =
    ((λ p. let z : ◌≡◌ {A = ℕ} 0 1 = cc in absurd (omega arith)), λ c. absurd (T_not (marks_of r a) c.unmarked m))
marks_exactly_when_it_may (PickAllows.marked e c) h = ((λ p. c), λ d. refl)
marks_exactly_when_it_may (PickAllows.cannot_be_marked_now e u n) h = ((λ p. let z : ◌≡◌ {A = ℕ} 0 1 = cc in absurd (omega arith)), λ c. absurd (n c))

module _ (N : ℕ) (t : List ℕ) (accepted : AcceptedTable N t) {l : List ℕ} {r : MarkRecord} (picks : Picks t (no_marks_for N) l r) where
  reached : RecordFor N r
  reached = (picks_marking N t accepted picks).0

  -- a pick marks its own atom exactly when it may
  pub marks_when_it_may : (a : ℕ) {answer : Result PickAnswer Refusal} {r' : MarkRecord} → PickAllows r t a answer r'
      → (answer ≡ (Ok PickAnswer.Marked)) ↔ CanBeMarked (rules_of t) (marks_of r) a
  marks_when_it_may a o =
      marks_exactly_when_it_may o
      (λ c. pick_not_refused N t accepted r reached a (can_be_marked_below (rules_of t) N (accepted_heads N t accepted) (marks_of r) a c))

  -- nothing is refused that a caller could mean
  pub pick_never_refused : (a : ℕ) → a < N → {answer : Result PickAnswer Refusal} {r' : MarkRecord}
      → PickAllows r t a answer r' → (f : Refusal) → answer ≡ Err f → ⊥
  pick_never_refused a lt (PickAllows.refused {f} e) g same = refused≢accepted f (sym e ∙ pick_not_refused N t accepted r reached a lt)
  pick_never_refused a lt (PickAllows.already_marked e m) g same = absurd (let z : ◌≡◌ {A = ℕ} 0 1 = cc in omega arith)
  pick_never_refused a lt (PickAllows.marked e c) g same = absurd (let z : ◌≡◌ {A = ℕ} 0 1 = cc in omega arith)
  pick_never_refused a lt (PickAllows.cannot_be_marked_now e u n) g same = absurd (let z : ◌≡◌ {A = ℕ} 0 1 = cc in omega arith)

  pub settled_never_refused : {answer : Decided} → SettledAllows r t answer → (f : Refusal) → answer ≡ Err f → ⊥
  settled_never_refused o = settled_not_refused N t accepted r reached o

  pub report_refused_before_settled : (room : List ℕ) → N ≤ length room
      → {answer : Checked} {room' : List ℕ} → ReportAllows r t room answer room'
      → (f : Refusal) → answer ≡ Err f → (f ≡ not_settled) × (Settled (rules_of t) (marks_of r) → ⊥)
  report_refused_before_settled room fits o = only_before_settled N t accepted r reached room fits o

  pub count_never_refused : {answer : Result ℕ Refusal} → CountAllows r answer → answer ≡ Ok (count 512 (marks_of r))
  count_never_refused o = counts N t accepted r reached o

  -- as soon as no atom can be marked, the report's values are those of the smallest well-supported model
  pub report_after_picks : Settled (rules_of t) (marks_of r) → (I : Interpretation) → Smallest (rules_of t) I → (room : List ℕ) → N ≤ length room
      → {answer : Checked} {room' : List ℕ} → ReportAllows r t room answer room'
      → (answer ≡ Ok tt) × (room' ≡ written (λ a. value I (positive a)) N room)
  report_after_picks s I i room fits o =
      let q = picks_marking N t accepted picks in
      let w = reports N t accepted r q.0 s room fits o in (
        w.0,
        w.1.2
            ∙ ap
            (λ v. written v N room) (fun_ext (settled_value_is_smallest (rules_of t) (accepted_one_rule N t accepted) q.1.1 s I i w.1.0 w.1.1)),
      )

  -- and the marks are as many as the inconsistent atoms, which is what the mark count answers
  as_many_inconsistent : Settled (rules_of t) (marks_of r) → (I : Interpretation) → Smallest (rules_of t) I → marks_counted r
      ≡ count 512 (inconsistent I)
  as_many_inconsistent s I i =
      let q = picks_marking N t accepted picks in
      count_≡ 512 (marks_of r) (inconsistent I) (λ a h. marks_are_inconsistent (rules_of t) (accepted_one_rule N t accepted) q.1.1 s I i a)

  pub count_after_picks : Settled (rules_of t) (marks_of r) → (I : Interpretation) → Smallest (rules_of t) I → {answer : Result ℕ Refusal}
      → CountAllows r answer
      → answer ≡ Ok (count 512 (inconsistent I))
  count_after_picks s I i o = counts N t accepted r reached o ∙ ap Ok (as_many_inconsistent s I i)

  pub stored_after_picks : Settled (rules_of t) (marks_of r) → (I : Interpretation) → Smallest (rules_of t) I → r.count ≡ count 512 (inconsistent I)
  stored_after_picks s I i = reached.counted.true_count ∙ as_many_inconsistent s I i

  -- until then a pass over all atoms, in any order, marks at least one
  pub pass_marks_at_least_one : (Settled (rules_of t) (marks_of r) → ⊥) → (order : List ℕ)
      → ((a : ℕ) → a < N → a ∈ order) → {r' : MarkRecord} → Picks t r order r'
      → (a : ℕ) × CanBeMarked (rules_of t) (marks_of r) a × Marked (marks_of r') a
  pass_marks_at_least_one n order all {r'} p =
      let q = picks_marking N t accepted picks in
      pass_marks_one (rules_of t) N (accepted_heads N t accepted) (marks_of r) (marks_of r') order all n (picks_pass N t accepted q.0 p).1

  -- and by the time N marks are counted it is settled
  pub settled_when_all_counted : r.count ≡ N → Settled (rules_of t) (marks_of r)
  settled_when_all_counted full =
      all_counted_settled r (record_for_good N t accepted r reached) (full ∙ sym reached.same_n) t
      (subst⁻¹ (λ (n : ℕ). AcceptedTable n t) reached.same_n accepted)

-- so N passes settle
pub n_passes_settle : (N : ℕ) (t : List ℕ) → AcceptedTable N t → {r : MarkRecord}
    → PickPasses t N N (no_marks_for N) r → Settled (rules_of t) (marks_of r)
n_passes_settle N t accepted p = passes_settle (rules_of t) N (accepted_heads N t accepted) (passes_passes N t accepted (fresh_for N) p).1

-- two lists of picks that settle leave equal records
pub same_record : (N : ℕ) (t : List ℕ) → AcceptedTable N t → {l l' : List ℕ} {r r' : MarkRecord}
    → Picks t (no_marks_for N) l r → Picks t (no_marks_for N) l' r'
    → Settled (rules_of t) (marks_of r) → Settled (rules_of t) (marks_of r') → r ≡ r'
same_record N t accepted {r = r} {r' = r'} picks picks' s s' =
    let q = picks_marking N t accepted picks in
    let q' = picks_marking N t accepted picks' in
    let marks : r.marks ≡ r'.marks =
    same_members r.marks r'.marks q.0.words q'.0.words (q.0.counted.eight ∙ sym q'.0.counted.eight)
    (settled_equal (rules_of t) (marks_of r) (marks_of r') q.1.1 s q'.1.1 s')
    in
    by_marks r q.0.counted.true_count
    ∙ ap₂ (λ (n : ℕ) (m : List ℕ). record { n = n; marks = m; count = count 512 (member m) }) (q.0.same_n ∙ sym q'.0.same_n) marks
    ∙ sym (by_marks r' q'.0.counted.true_count)
  where
    by_marks : (x : MarkRecord) → x.count ≡ marks_counted x → x ≡ record { n = x.n; marks = x.marks; count = marks_counted x }
    by_marks x e = ap (λ (c : ℕ). record { n = x.n; marks = x.marks; count = c }) e
