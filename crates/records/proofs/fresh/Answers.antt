use borrow.Author.Tests.{le-leb, lt-leb}
use Rattle.records.specs.Records.{FreshAllows}
use Rattle.records.proofs.fresh.Goals as goal

pub returns-then-n-gt-MOST_N : goal.returns-then-n-gt-MOST_N
returns-then-n-gt-MOST_N c =
    rw (c.refused.ensures, c.no_marks_for.ensures) (FreshAllows.refused (lt-leb _ _ c.if-n-gt-MOST_N.true))

pub returns : goal.returns
returns c = rw c.no_marks_for-2.ensures (FreshAllows.fresh (le-leb _ _ c.if-n-gt-MOST_N.false))
