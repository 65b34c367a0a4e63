use mathlib.Core.Path.{sym}
use Rattle.words.proofs.repeat_fault.Goals as goal

pub returns-then-has : goal.returns-then-has
returns-then-has c = simp (sym c.has.ensures, c.if-has.true, sym c.refused.ensures)

pub returns-else-has : goal.returns-else-has
returns-else-has c = simp (sym c.has.ensures, c.if-has.false)
