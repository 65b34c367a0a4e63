use mathlib.Core.Path.{sym}
use Rattle.values.proofs.value_code.Goals as goal

pub returns-then-has : goal.returns-then-has
returns-then-has c =
    rw (sym c.has.ensures, c.if-has.true)

pub returns-then-has-2 : goal.returns-then-has-2
returns-then-has-2 c =
    rw (sym c.has.ensures, c.if-has.false, sym c.has-2.ensures, c.if-has-2.true)

pub returns-then-has-3 : goal.returns-then-has-3
returns-then-has-3 c =
    rw (
      sym c.has.ensures,
      c.if-has.false,
      sym c.has-2.ensures,
      c.if-has-2.false,
      sym c.has-3.ensures,
      c.if-has-3.true,
    )

pub returns : goal.returns
returns c =
    rw (
      sym c.has.ensures,
      c.if-has.false,
      sym c.has-2.ensures,
      c.if-has-2.false,
      sym c.has-3.ensures,
      c.if-has-3.false,
    )
