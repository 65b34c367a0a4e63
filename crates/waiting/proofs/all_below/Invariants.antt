use Rattle.waiting.specs.Waiting.{AllBelow}
use Rattle.waiting.proofs.all_below.Given as goal

abbrev pub invariant-loop-i : goal.invariant-loop-i
invariant-loop-i l = AllBelow l.i l.row
