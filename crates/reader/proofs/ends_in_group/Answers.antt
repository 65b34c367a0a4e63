use borrow.Author.Tests.{eq-eqb, ne_eqb}
use Rattle.reader.specs.Sheet.{may_follow}
use Rattle.reader.proofs.ends_in_group.Goals as goal

pub returns-then-b-eq32 : goal.returns-then-b-eq32
unfolding may_follow
returns-then-b-eq32 c =
    simp (eq-eqb _ _ c.if-b-eq32.true)

pub returns : goal.returns
unfolding may_follow
returns c =
    simp (ne_eqb _ _ c.if-b-eq32.false, c.ends_field.ensures)
