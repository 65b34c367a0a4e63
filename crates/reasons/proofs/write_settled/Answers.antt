use native.Mathlib.Omega.{arith}
use mathlib.Core.Path.{◌∙◌}
use Rattle.words.proofs.Laws.{accepted_atoms, accepted_heads}
use Rattle.index.proofs.Placed.{accepted_table}
use Rattle.reasons.proofs.Writing.{printed_allowed}
use Rattle.reasons.proofs.write_settled.Goals as goal

pub build-rules-requires : goal.build-rules-requires
build-rules-requires c =
    (accepted_table c.args.n c.args.table.now c.requires, c.empty-room.ensures)

pub settle-m-requires : goal.settle-m-requires
settle-m-requires c =
    (accepted_atoms c.args.n c.args.table.now c.requires, rw c.build-rules.ensures (accepted_heads c.args.n c.args.table.now c.requires))

pub overflow_mul-n : goal.overflow_mul-n
overflow_mul-n c =
    omega (arith, accepted_atoms c.args.n c.args.table.now c.requires)

pub print_sheet-requires : goal.print_sheet-requires
print_sheet-requires c =
    omega (arith, accepted_atoms c.args.n c.args.table.now c.requires)

pub returns : goal.returns
returns c =
    let words = c.rules.view_is ∙ c.build-rules.ensures in
    printed_allowed c.args.n c.args.table.now c.args.text.now c.requires _ _ (rw c.build-rules.ensures at c.settle-m.ensures)
    (rw words at c.find_reasons-found.ensures) c.print_sheet.ensures
