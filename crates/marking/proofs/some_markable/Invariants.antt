use mathlib.Core.Path.{◌≡◌}
use Rattle.bits.specs.Sets.{member}
use Rattle.sets.specs.Some.{some_below}
use Rattle.marking.specs.Markable.{markable}
use Rattle.marking.proofs.some_markable.Given as goal

abbrev pub invariant-loop-a : goal.invariant-loop-a
invariant-loop-a l =
    some_below (markable (member l.marks) (member l.held) (member l.clean)) l.a
    ≡ some_below (markable (member l.marks) (member l.held) (member l.clean)) l.n
