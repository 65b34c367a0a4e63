-- Believed: what pick, settled question and report may answer, and what they leave behind.
use Rattle.std.specs.Prelude.{List, ◌≡◌, ℕ, length, Ok, Err, Result}
use Rattle.values.specs.Values.{written}
use Rattle.refusal.specs.declared.Refusal.{Refusal}
use Rattle.refusal.specs.Numbers.{not_settled}
use Rattle.refusal.specs.Questions.{QuestionAllows}
use Rattle.words.specs.Layout.{rules_of}
use Rattle.paper.specs.Definitions.{Interpretation}
use Rattle.paper.specs.Marking.{Marked, Unmarked, CanBeMarked, Settled, IsHeld, settled_value}
use Rattle.records.specs.Records.{marks_of, with_mark}
use Rattle.picks.specs.Faults.{pick_fault, settled_fault, report_fault}
use Rattle.records.specs.declared.MarkRecord.{MarkRecord}
use Rattle.refusal.specs.Checks.{Decided, Checked}
use Rattle.picks.specs.declared.PickAnswer.{PickAnswer}

-- a pick of atom a: the answer, and the record afterwards
pub data PickAllows (r : MarkRecord) (t : List ℕ) (a : ℕ) : Result PickAnswer Refusal → MarkRecord → Type 0 where
  refused : {f : Refusal} → pick_fault r t a ≡ Err f → PickAllows r t a (Err f) r
  already_marked : pick_fault r t a ≡ Ok tt → Marked (marks_of r) a → PickAllows r t a (Ok PickAnswer.AlreadyMarked) r
  marked : pick_fault r t a ≡ Ok tt → CanBeMarked (rules_of t) (marks_of r) a
      → PickAllows r t a (Ok PickAnswer.Marked) (with_mark r a)
  cannot_be_marked_now : pick_fault r t a ≡ Ok tt → Unmarked (marks_of r) a → (CanBeMarked (rules_of t) (marks_of r) a → ⊥)
      → PickAllows r t a (Ok PickAnswer.CannotBeMarkedNow) r

-- the settled question
abbrev pub SettledAllows : MarkRecord → List ℕ → Decided → Type 0
SettledAllows r t = QuestionAllows (settled_fault r t) (Settled (rules_of t) (marks_of r))

-- the report: values only when settled, by the i, t, f, u rule for the marks it is given
pub data ReportAllows (r : MarkRecord) (t room : List ℕ) : Checked → List ℕ → Type 0 where
  refused : {f : Refusal} → report_fault r t (length room) ≡ Err f → ReportAllows r t room (Err f) room
  before_settled : report_fault r t (length room) ≡ Ok tt → (Settled (rules_of t) (marks_of r) → ⊥)
      → ReportAllows r t room (Err not_settled) room
  reported : report_fault r t (length room) ≡ Ok tt → Settled (rules_of t) (marks_of r)
      → (H : Interpretation) → IsHeld (rules_of t) (marks_of r) H → ReportAllows r t room (Ok tt) (written (settled_value (marks_of r) H) r.n room)
