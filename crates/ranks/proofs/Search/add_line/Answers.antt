use native.Mathlib.Omega.{arith}
use Rattle.ranks.proofs.Lines.{rank_below}
use Rattle.ranks.proofs.Counted.{counted_one}
use Rattle.ranks.proofs.Search.add_line.Goals as goal

pub overflow_cast-self : goal.overflow_cast-self
overflow_cast-self c =
    let pre = c.requires.0 in
    omega (arith, rank_below _ _ 0 0 pre.fit pre.literal pre.new)

pub overflow_add-self : goal.overflow_add-self
overflow_add-self c =
    let pre = c.requires.0 in
    omega (arith, rank_below _ _ 0 0 pre.fit pre.literal pre.new)

pub returns-clause-counted : goal.returns-clause-counted
returns-clause-counted c =
    counted_one _ _ c.requires.0.fit.row c.requires.0.literal c.take.ensures.taken_after c.requires.1.row c.take.ensures.taken
