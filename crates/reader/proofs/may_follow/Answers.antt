use mathlib.Core.Path.{sym}
use Rattle.reader.specs.Sheet.{may_follow}
use Rattle.reader.proofs.may_follow.Goals as goal

pub returns-in-Head : goal.returns-in-Head
returns-in-Head c =
    simp (c.in-Head.is, sym c.ends_field.ensures)

pub returns-in-First : goal.returns-in-First
returns-in-First c =
    simp (c.in-First.is, sym c.ends_in_group.ensures)

pub returns-in-Further : goal.returns-in-Further
unfolding may_follow
returns-in-Further c =
    simp (c.in-Further.is, sym c.ends_in_group-in-Further.ensures)
