use mathlib.Core.Path.{◌≡◌}
use Rattle.bits.specs.Sets.{member}
use Rattle.sets.specs.Some.{some_below}
use Rattle.conflict.specs.Both.{both_in}
use Rattle.conflict.proofs.some_both_in.Given as goal

abbrev pub invariant-loop-a : goal.invariant-loop-a
invariant-loop-a l =
    some_below (both_in (member l.set)) l.a ≡ some_below (both_in (member l.set)) l.n
