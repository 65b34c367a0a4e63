use borrow.Author.Rules.{rules}
use native.Mathlib.Omega.{arith}
use Rattle.reader.specs.Readings.{place_after}
use Rattle.reader.proofs.place_after.Goals as goal

pub overflow_add-result : goal.overflow_add-result
unfolding place_after
overflow_add-result c =
    let h = rw c.in-Literal.is at c.requires in
    omega (arith, h)

pub overflow_add-result-in-Literal : goal.overflow_add-result-in-Literal
unfolding place_after
overflow_add-result-in-Literal c =
    let h = rw c.in-Literal.is at c.requires in
    omega (arith, h)

pub returns-in-End : goal.returns-in-End
unfolding place_after
returns-in-End c =
    search rules

pub returns-in-Refused : goal.returns-in-Refused
unfolding place_after
returns-in-Refused c =
    search rules

pub returns-in-Literal : goal.returns-in-Literal
unfolding place_after
returns-in-Literal c =
    rw c.in-Literal.is
