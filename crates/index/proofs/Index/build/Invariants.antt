use Prim.Native.Nat.{◌-◌}
use lib.ListN.{length}
use Rattle.index.specs.Index.{IndexedTo}
use Rattle.index.proofs.Index.build.Given as goal

abbrev pub invariant-loop-at : goal.invariant-loop-at
invariant-loop-at l =
    IndexedTo l.table l.self l.at

abbrev pub decreases-loop-at : goal.decreases-loop-at
decreases-loop-at l =
    length l.table - l.at
