use mathlib.Core.Path.{refl, sym, ◌∙◌}
use native.Mathlib.Omega.{arith}
use borrow.Author.Tests.{eq-eqb, ne_eqb}
use Rattle.reader.specs.Sheet.{is_minus}
use Rattle.reader.specs.Readings.{literal_at}
use Rattle.reader.proofs.Runs.{inside_by}
use Rattle.reader.proofs.literal_at.Goals as goal

pub overflow_add-place : goal.overflow_add-place
overflow_add-place c =
    omega (
      arith,
      inside_by is_minus refl
          c.args.sheet.now c.args.place
          (eq-eqb _ _ (sym c.byte-b.ensures ∙ c.if-b-eq45.true)),
    )

pub name_at-requires : goal.name_at-requires
name_at-requires c =
    omega (
      arith,
      inside_by is_minus refl
          c.args.sheet.now c.args.place
          (eq-eqb _ _ (sym c.byte-b.ensures ∙ c.if-b-eq45.true)),
    )

pub returns-then-b-eq45 : goal.returns-then-b-eq45
unfolding literal_at
returns-then-b-eq45 c =
    simp (sym c.byte-b.ensures, eq-eqb _ _ c.if-b-eq45.true, c.name_at.ensures)

pub returns-else-b-eq45 : goal.returns-else-b-eq45
unfolding literal_at
returns-else-b-eq45 c =
    simp (sym c.byte-b.ensures, ne_eqb _ _ c.if-b-eq45.false, c.name_at-else-b-eq45.ensures)
