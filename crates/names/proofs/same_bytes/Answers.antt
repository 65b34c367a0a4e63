use mathlib.Core.Path.{sym, ◌∙◌}
use native.Mathlib.Omega.{arith}
use Rattle.names.proofs.Steps.{same_begins, same_on, same_stops, same_ended}
use Rattle.names.proofs.same_bytes.Goals as goal

pub loop-i-init : goal.loop-i-init
loop-i-init c =
    (omega arith, same_begins c.args.sheet.now c.args.a c.args.b c.args.n)

pub returns-then-byte : goal.returns-then-byte
returns-then-byte c =
    same_stops c.args.sheet.now c.args.a c.args.b c.args.n c.loop-i.i _ c.loop-i.invariant.1
    c.loop-i-test.true (λ e. c.if-byte.true (c.byte.ensures ∙ e ∙ sym c.byte-in-loop-i.ensures))

pub loop-i-preserved : goal.loop-i-preserved
loop-i-preserved c = (
  omega arith,
  same_on c.args.sheet.now c.args.a c.args.b c.args.n c.loop-i.i _
      c.loop-i.invariant.1 c.loop-i-test.true
      (sym c.byte.ensures ∙ c.if-byte.false ∙ c.byte-in-loop-i.ensures),
)

pub returns : goal.returns
returns c =
    same_ended c.args.sheet.now c.args.a c.args.b c.args.n c.loop-i.i _
    c.loop-i.invariant.1 c.loop-i-test.false
