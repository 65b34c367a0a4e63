use Prim.Native.Nat.{◌-◌}
use lib.ListN.{length}
use Rattle.values.specs.Given.{given}
use Rattle.grounds.proofs.Judging.{Judging}
use Rattle.grounds.proofs.justified_lines.Given as goal

abbrev pub invariant-loop-at : goal.invariant-loop-at
invariant-loop-at l =
    Judging (given l.values.n l.values.codes.now) l.lines l.table l.at l.ok

abbrev pub decreases-loop-at : goal.decreases-loop-at
decreases-loop-at l =
    length l.table - l.at
