use mathlib.Core.Path.{◌≡◌}
use lib.ListN.{length}
use Rattle.bits.specs.Sets.{member}
use Rattle.pending.proofs.Marked.{Marking-below}
use Rattle.pending.proofs.put_marked.Given as goal

abbrev pub invariant-loop-a : goal.invariant-loop-a
invariant-loop-a l =
    (length l.set ≡ 16) × Marking-below (member l.marks) l.initial.set l.set l.a
