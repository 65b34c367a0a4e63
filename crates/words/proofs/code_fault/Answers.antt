use mathlib.Core.Path.{sym}
use borrow.Author.Tests.{lt-ltb, le-ltb}
use Rattle.words.proofs.code_fault.Goals as goal

pub returns-then-w-n : goal.returns-then-w-n
returns-then-w-n c = simp (lt-ltb _ _ c.if-w-n.true)

pub returns-else-w-n : goal.returns-else-w-n
returns-else-w-n c = simp (le-ltb _ _ c.if-w-n.false, sym c.refused.ensures)
