use lib.ListN.{length}
use Rattle.words.proofs.Laws.{accepted_heads}
use Rattle.index.proofs.Placed.{accepted_table}
use Rattle.evaluation.proofs.Evaluated.{evaluation_accepted, settled_evaluates}
use Rattle.evaluation.proofs.write_settled.Goals as goal

pub build-rules-requires : goal.build-rules-requires
build-rules-requires c =
    (accepted_table c.args.n c.args.table.now (evaluation_accepted c.args.n c.args.table.now (length c.args.values.now) c.requires).1, c.empty-room.ensures)

pub settle-m-requires : goal.settle-m-requires
settle-m-requires c =
    let a = evaluation_accepted c.args.n c.args.table.now (length c.args.values.now) c.requires in
    (a.0, rw c.build-rules.ensures (accepted_heads c.args.n c.args.table.now a.1))

pub write_values-requires : goal.write_values-requires
write_values-requires c =
    let a = evaluation_accepted c.args.n c.args.table.now (length c.args.values.now) c.requires in
    (a.0, a.2)

pub returns : goal.returns
returns c =
    settled_evaluates c.args.n c.args.table.now c.args.values.now c.settle-m.result.marks c.settle-m.result.held _
    c.requires (rw c.build-rules.ensures at c.settle-m.ensures) c.write_values.ensures
