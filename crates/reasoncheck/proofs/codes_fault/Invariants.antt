use mathlib.Core.Path.{◌≡◌}
use lib.ListN.{take, drop}
use Rattle.reasoncheck.specs.ReasonCheck.{codes_fault}
use Rattle.reasoncheck.proofs.codes_fault.Given as goal

abbrev pub invariant-loop-a : goal.invariant-loop-a
invariant-loop-a l =
    codes_fault l.a (drop l.a (take l.n l.values)) ≡ codes_fault 0 (take l.n l.values)
