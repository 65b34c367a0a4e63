use mathlib.Core.Path.{◌≡◌}
use lib.ListN.{length}
use lib.Seq.{sets}
use Rattle.reasontext.specs.ReasonSheet.{reason_text}
use Rattle.reasons.specs.Sheet.{lines_found}
use Rattle.reasons.proofs.put_sheet.Given as goal

abbrev pub invariant-loop-l : goal.invariant-loop-l
invariant-loop-l l =
    (l.at ≡ length (reason_text (lines_found l.found l.l))) × (l.text ≡ sets l.initial.text 0 (reason_text (lines_found l.found l.l)))
