use native.Mathlib.Nat.{zero-add}
use native.Mathlib.Omega.{arith}
use Rattle.valuesheet.proofs.Printing.{bytes_turn, no_bytes}
use Rattle.valuesheet.proofs.bytes_needed.Goals as goal

pub loop-a-init : goal.loop-a-init
loop-a-init c =
    (omega arith, omega arith, zero-add _)

pub loop-a-preserved : goal.loop-a-preserved
loop-a-preserved c = (
  omega arith,
  omega (arith, c.line_bytes-total.ensures.upper_bound),
  bytes_turn c.args.names.now c.args.n c.loop-a.a c.requires.n_in_bounds c.loop-a-test.true _
      c.entry.ensures.value c.loop-a.total _ _ c.line_bytes-total.ensures.value c.loop-a.invariant.2,
)

pub returns : goal.returns
returns c =
    omega (
      arith,
      c.loop-a.invariant.2,
      no_bytes c.args.names.now c.args.n c.loop-a.a c.requires.n_in_bounds c.loop-a-test.false,
    )
