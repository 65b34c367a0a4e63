use Prim.Native.Nat.{◌≤◌}
use mathlib.Core.List.{List}
use Rattle.values.specs.Given.{given}
use Rattle.reasontext.specs.ReasonSheet.{ReasonLine}
use Rattle.reasoncheck.specs.Matching.{NumbersHold}
use Rattle.reasoncheck.proofs.Matches.{Matching}
use Rattle.reasoncheck.proofs.match_lines.Given as goal

abbrev pub invariant-loop-l : goal.invariant-loop-l
invariant-loop-l l =
    (l.k ≤ l.l) × ((ls : List ReasonLine) → NumbersHold l.text.numbers.now l.text.count ls → Matching
    (given l.values.n l.values.codes.now) ls l.l l.k l.lines)
