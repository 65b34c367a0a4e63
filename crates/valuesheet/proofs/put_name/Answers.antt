use mathlib.Core.Path.{refl, sym, ◌∙◌}
use native.Mathlib.Omega.{arith}
use lib.ListN.{length-set}
use Rattle.valuesheet.proofs.Printing.{name_begins, name_turn, name_ends}
use Rattle.valuesheet.proofs.put_name.Goals as goal

pub loop-i-init : goal.loop-i-init
loop-i-init c =
    (omega arith, refl, name_begins c.args.sheet.now c.args.start c.args.len c.args.text.now c.args.at)

pub loop-i-preserved : goal.loop-i-preserved
loop-i-preserved c = (
  omega arith,
  length-set c.loop-i.text _ _ ∙ c.loop-i.invariant.1,
  name_turn c.args.sheet.now c.args.start
      c.args.len c.loop-i.text c.args.at c.loop-i.i _ c.loop-i-test.true c.byte.ensures ∙ c.loop-i.invariant.2,
)

pub returns : goal.returns
returns c =
    sym (name_ends c.args.sheet.now c.args.start c.args.len c.loop-i.text
    c.args.at c.loop-i.i c.loop-i-test.false) ∙ c.loop-i.invariant.2
