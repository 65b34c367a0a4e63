use borrow.Author.Tests.{eq-eqb, ne_eqb}
use Rattle.reader.specs.Sheet.{may_follow}
use Rattle.reader.proofs.ends_field.Goals as goal

pub returns-then-b-eq9 : goal.returns-then-b-eq9
unfolding may_follow
returns-then-b-eq9 c =
    simp (eq-eqb _ _ c.if-b-eq9.true)

pub returns : goal.returns
unfolding may_follow
returns c =
    simp (ne_eqb _ _ c.if-b-eq9.false)
