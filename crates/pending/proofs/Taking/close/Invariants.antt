use Rattle.pending.specs.Pending.{Working, Closing, left}
use Rattle.pending.proofs.Taking.close.Given as goal

abbrev pub invariant-loop-l : goal.invariant-loop-l
invariant-loop-l v =
    Working v.table v.self v.shut × Closing v.table v.initial.self v.shut v.self

abbrev pub decreases-loop-l : goal.decreases-loop-l
decreases-loop-l v =
    left v.self
