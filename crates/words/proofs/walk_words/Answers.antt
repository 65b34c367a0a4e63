use Rattle.std.proofs.Common.{rules}
use mathlib.Core.Path.{refl, ap, ◌∙◌}
use Prim.Native.Nat.{zero-le}
use native.Mathlib.Omega.{arith}
use Rattle.words.specs.Check.{ended}
use Rattle.words.proofs.Steps.{starts, goes_on, stops, ends, length_noted_16}
use Rattle.words.proofs.walk_words.Goals as goal

pub loop-i-init : goal.loop-i-init
loop-i-init c = (zero-le, refl, starts c.args.n c.args.table.now)

pub loop-i-preserved : goal.loop-i-preserved
loop-i-preserved c =
    let a = c.args in (
      omega arith,
      length_noted_16 c.loop-i.due c.loop-i.seen _ c.loop-i.invariant.1 c.note.ensures,
      goes_on a.n a.table.now c.loop-i.seen c.loop-i.due c.loop-i.i _ c.loop-i.invariant.2 c.requires c.loop-i.invariant.1 c.loop-i-test.true
          (c.from-w.ensures) c.fault_of.ensures (c.in_ok-fault_of.was) c.note.ensures c.next_due-due.ensures,
    )

pub returns-in_err-fault_of : goal.returns-in_err-fault_of
returns-in_err-fault_of c =
    let a = c.args in
    (search rules) ∙ stops a.n a.table.now c.loop-i.seen c.loop-i.due c.loop-i.i _
    c.loop-i.invariant.2 c.loop-i-test.true (c.from-w.ensures) c.fault_of.ensures c.in_err-fault_of.was

pub returns : goal.returns
returns c =
    let a = c.args in
    c.ended_at.ensures ∙ ap (ended c.loop-i.due) (omega arith)
    ∙ ends a.n a.table.now c.loop-i.seen c.loop-i.due c.loop-i.i _ c.loop-i.invariant.2 c.loop-i-test.false
