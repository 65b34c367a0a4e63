use mathlib.Core.Path.{sym, ◌∙◌}
use Rattle.bits.proofs.Laws.{taken_out_member, taken_out_no_member}
use Rattle.bits.proofs.remove.Goals as goal

pub returns-then-has : goal.returns-then-has
returns-then-has c =
    let at_has = c.has in
    let at-if1 = c.if-has in
    c.flip.ensures ∙ taken_out_member c.args.set.now c.args.i (sym at_has.ensures ∙ at-if1.true)

pub returns-else-has : goal.returns-else-has
returns-else-has c =
    taken_out_no_member c.args.set.now c.args.i (sym c.has.ensures ∙ c.if-has.false)
