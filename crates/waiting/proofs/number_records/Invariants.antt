use Prim.Native.Nat.{◌-◌}
use lib.ListN.{length}
use Rattle.waiting.proofs.Numbering.{NumberedTo}
use Rattle.waiting.proofs.number_records.Given as goal

abbrev pub invariant-loop-at : goal.invariant-loop-at
invariant-loop-at l =
    NumberedTo l.table l.order l.at

abbrev pub decreases-loop-at : goal.decreases-loop-at
decreases-loop-at l =
    length l.table - l.at
