use Prim.Native.Nat.{◌-◌}
use lib.ListN.{length}
use Rattle.values.specs.Given.{given}
use Rattle.valued.proofs.Modelled.{Satisfying}
use Rattle.valued.proofs.model_fault.Given as goal

abbrev pub invariant-loop-at : goal.invariant-loop-at
invariant-loop-at l =
    Satisfying (given l.values.n l.values.codes.now) l.table l.at

abbrev pub decreases-loop-at : goal.decreases-loop-at
decreases-loop-at l =
    length l.table - l.at
