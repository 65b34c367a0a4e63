use mathlib.Core.Path.{◌≡◌}
use Prim.Native.Nat.{◌≤◌, min}
use lib.ListN.{drop}
use Rattle.paper.specs.Table1.{code}
use Rattle.paper.specs.Definitions.{group_value}
use Rattle.values.specs.Given.{given}
use Rattle.valued.proofs.Values.group_code.Given as goal

abbrev pub invariant-loop-l : goal.invariant-loop-l
invariant-loop-l l =
    let I = given l.self.n l.self.codes.now in
    (l.low ≤ 3) × (min l.low (code (group_value I (drop l.l-index l.group))) ≡ code (group_value I l.group))
