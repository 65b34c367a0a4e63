use Prim.Native.Nat.{◌*◌, ◌≤◌}
use mathlib.Core.Path.{◌≡◌}
use lib.ListN.{length}
use Rattle.reasontext.specs.ReasonSheet.{reason_text}
use Rattle.reasons.specs.Sheet.{lines_found}
use Rattle.reasons.proofs.sheet_length.Given as goal

abbrev pub invariant-loop-l : goal.invariant-loop-l
invariant-loop-l l =
    (l.total ≡ length (reason_text (lines_found l.found l.l))) × (l.total ≤ 24 * l.l)
