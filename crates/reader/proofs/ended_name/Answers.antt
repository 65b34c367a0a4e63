use mathlib.Core.Path.{sym}
use borrow.Author.Tests.{lt-leb, le-leb}
use Rattle.reader.specs.Readings.{ended_name}
use Rattle.reader.proofs.ended_name.Goals as goal

pub returns-then-n-gt-MOST_NAME_BYTES : goal.returns-then-n-gt-MOST_NAME_BYTES
unfolding ended_name
returns-then-n-gt-MOST_NAME_BYTES c =
    simp (lt-leb _ _ c.if-n-gt-MOST_NAME_BYTES.true, c.refused.ensures)

pub returns-then-may_follow : goal.returns-then-may_follow
unfolding ended_name
returns-then-may_follow c =
    simp (le-leb _ _ c.if-n-gt-MOST_NAME_BYTES.false, sym c.byte.ensures, sym c.may_follow.ensures, c.if-may_follow.true)

pub returns-else-may_follow : goal.returns-else-may_follow
unfolding ended_name
returns-else-may_follow c =
    simp (
      le-leb _ _ c.if-n-gt-MOST_NAME_BYTES.false,
      sym c.byte.ensures,
      sym c.may_follow.ensures,
      c.if-may_follow.false,
      c.refused-else-may_follow.ensures,
    )
