use borrow.Author.Tests.{le-leb, lt-leb}
use mathlib.Core.Path.{sym}
use Rattle.words.proofs.table_too_long.Goals as goal

pub returns-then-table-gt-MOST_WORDS : goal.returns-then-table-gt-MOST_WORDS
returns-then-table-gt-MOST_WORDS c =
    rw (lt-leb _ _ c.if-table-gt-MOST_WORDS.true, sym c.refused.ensures)

pub returns-else-table-gt-MOST_WORDS : goal.returns-else-table-gt-MOST_WORDS
returns-else-table-gt-MOST_WORDS c =
    rw (le-leb _ _ c.if-table-gt-MOST_WORDS.false)
