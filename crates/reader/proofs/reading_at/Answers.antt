use mathlib.Core.Path.{sym}
use borrow.Author.Tests.{lt-leb, le-leb}
use Rattle.reader.specs.Readings.{reading_at}
use Rattle.reader.proofs.reading_at.Goals as goal

pub returns-then-sheet-gt-MOST_SHEET_BYTES : goal.returns-then-sheet-gt-MOST_SHEET_BYTES
unfolding reading_at
returns-then-sheet-gt-MOST_SHEET_BYTES c =
    simp (lt-leb _ _ c.if-sheet-gt-MOST_SHEET_BYTES.true, c.refused.ensures)

pub returns-then-sheet-place : goal.returns-then-sheet-place
unfolding reading_at
returns-then-sheet-place c =
    simp (le-leb _ _ c.if-sheet-gt-MOST_SHEET_BYTES.false, lt-leb _ _ c.if-sheet-place.true, c.refused-then-sheet-place.ensures)

pub returns : goal.returns
unfolding reading_at
returns c =
    simp (
      le-leb _ _ c.if-sheet-gt-MOST_SHEET_BYTES.false,
      le-leb _ _ c.if-sheet-place.false,
      sym c.byte_before.ensures,
      c.reading_after.ensures,
    )
