use mathlib.Core.Path.{sym}
use Rattle.reader.specs.Readings.{name_at}
use Rattle.reader.proofs.name_at.Goals as goal

pub returns-then-starts_name : goal.returns-then-starts_name
unfolding name_at
returns-then-starts_name c =
    simp (
      sym c.byte.ensures,
      sym c.starts_name.ensures,
      c.if-starts_name.true,
      sym c.name_run.ensures.value,
      c.ended_name.ensures,
    )

pub returns-else-starts_name : goal.returns-else-starts_name
unfolding name_at
returns-else-starts_name c =
    simp (sym c.byte.ensures, sym c.starts_name.ensures, c.if-starts_name.false, c.refused.ensures)
