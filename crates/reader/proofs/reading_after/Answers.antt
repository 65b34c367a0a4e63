use borrow.Author.Tests.{eq-eqb, ne_eqb}
use Rattle.reader.specs.Readings.{reading_after}
use Rattle.reader.proofs.reading_after.Goals as goal

pub returns-then-before-eq10 : goal.returns-then-before-eq10
unfolding reading_after
returns-then-before-eq10 c =
    simp (eq-eqb _ _ c.if-before-eq10.true, c.line_at.ensures)

pub returns-then-before-eq9 : goal.returns-then-before-eq9
unfolding reading_after
returns-then-before-eq9 c =
    simp (ne_eqb _ _ c.if-before-eq10.false, eq-eqb _ _ c.if-before-eq9.true, c.literal_at.ensures)

pub returns-then-before-eq32 : goal.returns-then-before-eq32
unfolding reading_after
returns-then-before-eq32 c =
    simp (
      ne_eqb _ _ c.if-before-eq10.false,
      ne_eqb _ _ c.if-before-eq9.false,
      eq-eqb _ _ c.if-before-eq32.true,
      c.literal_at-then-before-eq32.ensures,
    )

pub returns : goal.returns
unfolding reading_after
returns c =
    simp (ne_eqb _ _ c.if-before-eq10.false, ne_eqb _ _ c.if-before-eq9.false, ne_eqb _ _ c.if-before-eq32.false, c.refused.ensures)
