use native.Mathlib.Nat.{zero-add}
use native.Mathlib.Omega.{arith}
use Rattle.names.proofs.Steps.{found_here, search_on, found_none}
use Rattle.names.proofs.number.Goals as goal

pub loop-i-init : goal.loop-i-init
loop-i-init c =
    (omega arith, zero-add _)

pub returns-then-has_name : goal.returns-then-has_name
returns-then-has_name c =
    record {
      value = found_here c.args.sheet.now c.args.names.now _ c.args.count c.loop-i.i c.requires.count_in_bounds c.loop-i.invariant.1 _
          c.entry.ensures.value _ c.loop-i-test.true c.has_name.ensures c.if-has_name.true;
      upper_bound = omega arith;
    }

pub loop-i-preserved : goal.loop-i-preserved
loop-i-preserved c = (
  omega arith,
  search_on c.args.sheet.now c.args.names.now _ c.args.count c.loop-i.i c.requires.count_in_bounds c.loop-i.invariant.1 _
      c.entry.ensures.value _ c.loop-i-test.true c.has_name.ensures c.if-has_name.false,
)

pub returns : goal.returns
returns c =
    record {
      value = found_none c.args.sheet.now c.args.names.now _
          c.args.count c.loop-i.i c.requires.count_in_bounds c.loop-i.invariant.0 c.loop-i-test.false c.loop-i.invariant.1;
      upper_bound = omega arith;
    }
