use Rattle.bits.specs.Sets.{member}
use Rattle.pending.proofs.Laws.{Walking}
use Rattle.pending.proofs.take.Given as goal

abbrev pub invariant-loop-c : goal.invariant-loop-c
invariant-loop-c l =
    Walking l.table l.index (member l.taken) l.l l.initial.ready l.c l.ready l.counts

abbrev pub decreases-loop-c : goal.decreases-loop-c
decreases-loop-c l =
    l.c
