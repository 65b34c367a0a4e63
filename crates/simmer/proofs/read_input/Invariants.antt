use Rattle.std.proofs.Common.{◌≤◌, ◌-◌, length}
use Rattle.simmer.proofs.read_input.Given as goal

abbrev pub invariant-loop-place : goal.invariant-loop-place
invariant-loop-place g l = l.place ≤ length l.sheet

abbrev pub decreases-loop-place : goal.decreases-loop-place
decreases-loop-place g l = length l.sheet - l.place
