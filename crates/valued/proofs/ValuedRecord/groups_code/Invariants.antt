use Prim.Native.Nat.{◌-◌}
use Rattle.values.specs.Given.{given}
use Rattle.valued.proofs.Valuing.{Ored}
use Rattle.valued.proofs.ValuedRecord.groups_code.Given as goal

abbrev pub invariant-loop-i : goal.invariant-loop-i
invariant-loop-i l =
    Ored (given l.self.values.n l.self.values.codes.now) l.self.values.n l.self.record.table.now l.first l.m l.at (l.m - l._i) l.high
