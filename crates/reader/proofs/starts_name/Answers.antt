use borrow.Author.Tests.{le-leb, lt-leb}
use Rattle.reader.specs.Sheet.{starts_name}
use Rattle.reader.proofs.starts_name.Goals as goal

pub returns-then-b-ge97 : goal.returns-then-b-ge97
unfolding starts_name
returns-then-b-ge97 c =
    simp (le-leb _ _ c.if-b-ge97.true)

pub returns-else-b-ge97 : goal.returns-else-b-ge97
unfolding starts_name
returns-else-b-ge97 c =
    simp (lt-leb _ _ c.if-b-ge97.false)
