use borrow.Author.Tests.{le-leb, lt-leb}
use Rattle.reasontext.proofs.goes_on.Goals as goal

-- src/lib.rt:34:1
pub returns-then-n-ge1 : goal.returns-then-n-ge1
returns-then-n-ge1 c = simp (le-leb _ _ c.if-n-ge1.true)

-- src/lib.rt:34:1
pub returns-else-n-ge1 : goal.returns-else-n-ge1
returns-else-n-ge1 c = simp (lt-leb _ _ c.if-n-ge1.false)
