use mathlib.Core.Path.{sym}
use borrow.Author.Tests.{eq-eqb, ne_eqb}
use Rattle.reader.specs.Sheet.{continues_name}
use Rattle.reader.proofs.continues_name.Goals as goal

pub returns-then-starts_name : goal.returns-then-starts_name
unfolding continues_name
returns-then-starts_name c =
    simp (sym c.starts_name.ensures, c.if-starts_name.true)

pub returns-then-is_digit : goal.returns-then-is_digit
unfolding continues_name
returns-then-is_digit c =
    simp (sym c.starts_name.ensures, c.if-starts_name.false, sym c.is_digit.ensures, c.if-is_digit.true)

pub returns-then-b-eq95 : goal.returns-then-b-eq95
unfolding continues_name
returns-then-b-eq95 c =
    simp (
      sym c.starts_name.ensures,
      c.if-starts_name.false,
      sym c.is_digit.ensures,
      c.if-is_digit.false,
      eq-eqb _ _ c.if-b-eq95.true,
    )

pub returns : goal.returns
unfolding continues_name
returns c =
    simp (
      sym c.starts_name.ensures,
      c.if-starts_name.false,
      sym c.is_digit.ensures,
      c.if-is_digit.false,
      ne_eqb _ _ c.if-b-eq95.false,
    )
