use borrow.Author.Tests.{le-leb, lt-leb}
use mathlib.Core.Path.{sym}
use Rattle.values.proofs.room_too_small.Goals as goal

pub returns-then-room-n : goal.returns-then-room-n
returns-then-room-n c =
    rw (lt-leb _ _ c.if-room-n.true, sym c.refused.ensures)

pub returns-else-room-n : goal.returns-else-room-n
returns-else-room-n c =
    rw (le-leb _ _ c.if-room-n.false)
