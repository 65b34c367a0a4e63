use Rattle.bits.specs.Sets.{member}
use Rattle.evaluation.specs.Rounds.{MarkedAll}
use Rattle.evaluation.proofs.Unsettled.mark_all.Given as goal

abbrev pub invariant-loop-a : goal.invariant-loop-a
invariant-loop-a l =
    MarkedAll l.initial.self (member l.clean) l.a l.any l.self
