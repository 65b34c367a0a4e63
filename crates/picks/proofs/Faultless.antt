-- A record for an accepted table is not refused, and what settled question, report and count then answer. Assumes nothing.
use mathlib.Core.List.{List}
use mathlib.Core.Path.{◌≡◌, refl, sym, ap, ◌∙◌}
use Prim.Native.Nat.{ℕ, ◌≤◌}
use native.Mathlib.Omega.{arith}
use lib.ListN.{length}
use borrow.Author.Tests.{le-leb}
use Rattle.refusal.specs.declared.Refusal.{Refusal}
use Rattle.refusal.specs.Numbers.{not_settled}
use Rattle.refusal.specs.Checks.{Checked, Decided}
use Rattle.words.specs.Check.{AcceptedTable}
use Rattle.words.specs.Layout.{rules_of}
use Rattle.refusal.proofs.Laws.{refused≢accepted}
use Rattle.refusal.proofs.Questions.{never_refused}
use Rattle.words.proofs.Laws.{accepted_length}
use Rattle.paper.specs.Definitions.{Interpretation}
use Rattle.paper.specs.Marking.{Settled, IsHeld, settled_value}
use Rattle.sets.specs.Sets.{count}
use Rattle.records.specs.Records.{record_fault, marks_of, CountAllows}
use Rattle.picks.specs.Faults.{settled_fault, report_fault}
use Rattle.records.specs.declared.MarkRecord.{MarkRecord}
use Rattle.picks.specs.Entries.{SettledAllows, ReportAllows}
use Rattle.values.specs.Values.{written}
use Rattle.picks.proofs.Tracing.{RecordFor, record_for_good}
use Rattle.std.specs.Prelude.{Ok, Err, Result}

module _ (N : ℕ) (t : List ℕ) (accepted : AcceptedTable N t) (r : MarkRecord) (g : RecordFor N r) where
  record_accepted : record_fault r ≡ Ok tt
  record_accepted = record_for_good N t accepted r g

  report_not_refused : (room : ℕ) → N ≤ room → report_fault r t room ≡ Ok tt
  unfolding report_fault
  report_not_refused room h =
      rw (record_accepted, le-leb (length t) 8192 (accepted_length N t accepted), g.same_n, le-leb N room h, accepted)

  settled_accepted : settled_fault r t ≡ Ok tt
  unfolding settled_fault
  settled_accepted = rw (record_accepted, g.same_n, accepted)

  pub settled_not_refused : {answer : Decided} → SettledAllows r t answer → (f : Refusal) → answer ≡ Err f → ⊥
  settled_not_refused o = never_refused settled_accepted o

  -- with room the report is refused by 18 alone
  pub only_before_settled : (room : List ℕ) → N ≤ length room → {answer : Checked} {room' : List ℕ} → ReportAllows r t room answer room'
      → (f : Refusal) → answer ≡ Err f → (f ≡ not_settled) × (Settled (rules_of t) (marks_of r) → ⊥)
  only_before_settled room h (ReportAllows.refused {f} e) g same = absurd (refused≢accepted f (sym e ∙ report_not_refused (length room) h))
  only_before_settled room h (ReportAllows.before_settled e n) g same = (cc, n)
  only_before_settled room h (ReportAllows.reported e s H i) g same = absurd (let z : ◌≡◌ {A = ℕ} 0 1 = cc in omega arith)

  pub reports : Settled (rules_of t) (marks_of r) → (room : List ℕ) → N ≤ length room
      → {answer : Checked} {room' : List ℕ} → ReportAllows r t room answer room'
      → (answer ≡ Ok tt)
      × ((H : Interpretation) × IsHeld (rules_of t) (marks_of r) H × (room' ≡ written (settled_value (marks_of r) H) N room))
  reports s room h (ReportAllows.refused {f} e) = absurd (refused≢accepted f (sym e ∙ report_not_refused (length room) h))
  reports s room h (ReportAllows.before_settled e n) = absurd (n s)
  reports s room h (ReportAllows.reported e s' H i) = (refl, (H, i, ap (λ (n : ℕ). written (settled_value (marks_of r) H) n room) g.same_n))

  pub counts : {answer : Result ℕ Refusal} → CountAllows r answer → answer ≡ Ok (count 512 (marks_of r))
  counts (CountAllows.refused {f} e) = absurd (refused≢accepted f (sym e ∙ record_accepted))
  counts (CountAllows.counted e) = ap Ok g.counted.true_count
