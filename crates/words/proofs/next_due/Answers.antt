use mathlib.Core.Path.{sym}
use Rattle.words.proofs.next_due.Goals as goal

pub returns-in-Size : goal.returns-in-Size
returns-in-Size c = simp (c.in-Size.is, sym c.literals_due.ensures)

pub returns-in-Literal : goal.returns-in-Literal
returns-in-Literal c = simp (c.in-Literal.is, sym c.literals_due-in-Literal.ensures)
