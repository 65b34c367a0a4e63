-- Whole evaluation equals the report after picks.
use mathlib.Core.List.{List}
use mathlib.Core.Path.{◌≡◌, refl, sym, ◌∙◌}
use Prim.Native.Nat.{ℕ}
use lib.ListN.{length}
use Rattle.refusal.specs.Checks.{Checked}
use Rattle.words.specs.Layout.{rules_of}
use Rattle.paper.specs.Marking.{Settled}
use Rattle.records.specs.declared.MarkRecord.{MarkRecord}
use Rattle.records.specs.Records.{marks_of, no_marks_for}
use Rattle.picks.specs.Entries.{ReportAllows}
use Rattle.picks.specs.Traces.{Picks}
use Rattle.picks.proofs.Demand3.{report_after_picks}
use Rattle.evaluation.specs.Evaluation.{EvaluationAllows}
use Rattle.evaluation.proofs.Evaluated.{evaluation_accepted}
use Rattle.evaluation.proofs.Laws.{evaluated_is}
use Rattle.std.specs.Prelude.{Ok}

-- whole evaluation equals the report after picks from a fresh record until settled, in any order
pub evaluation_equals_report : (N : ℕ) (t room x y : List ℕ) {l : List ℕ} {r : MarkRecord} {answer : Checked}
    → EvaluationAllows N t room (Ok tt) x
    → Picks t (no_marks_for N) l r → Settled (rules_of t) (marks_of r) → ReportAllows r t room answer y → (answer ≡ Ok tt) × (x ≡ y)
evaluation_equals_report N t room x y o picks s w =
    let e = evaluated_is N t room x (Ok tt) o refl in
    let a = evaluation_accepted N t (length room) e.0 in
    let q = report_after_picks N t a.1 picks s e.1.0 e.1.1 room a.2 w in
    (q.0, e.1.2 ∙ sym q.1)
