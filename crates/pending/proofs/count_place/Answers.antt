use native.Mathlib.Omega.{arith}
use Rattle.pending.proofs.Laws.{whole_put, not_whole}
use Rattle.pending.proofs.count_place.Goals as goal

pub returns-then-n-word_inside-clause-ready_after : goal.returns-then-n-word_inside-clause-ready_after
returns-then-n-word_inside-clause-ready_after c =
    whole_put c.args.table.now c.args.index.now c.args.counts.now c.args.ready.now c.args.g _
    (omega arith) c.word_inside.ensures.value _ _ c.if-n-word_inside.true c.owner-head.ensures c.put.ensures

pub returns-else-n-word_inside-clause-ready_after : goal.returns-else-n-word_inside-clause-ready_after
returns-else-n-word_inside-clause-ready_after c =
    not_whole c.args.table.now c.args.index.now c.args.counts.now c.args.ready.now c.args.g _
    (omega arith) c.word_inside.ensures.value c.if-n-word_inside.false
