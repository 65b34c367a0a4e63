use borrow.Author.Tests.{eq-eqb, ne_eqb}
use Rattle.reader.specs.Readings.{line_at}
use Rattle.reader.proofs.line_at.Goals as goal

pub returns-then-place-sheet : goal.returns-then-place-sheet
unfolding line_at
returns-then-place-sheet c =
    simp (eq-eqb _ _ c.if-place-sheet.true)

pub returns-else-place-sheet : goal.returns-else-place-sheet
unfolding line_at
returns-else-place-sheet c =
    simp (ne_eqb _ _ c.if-place-sheet.false, c.literal_at.ensures)
