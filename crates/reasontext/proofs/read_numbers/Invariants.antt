use Rattle.reasontext.proofs.Going.{Going}
use Rattle.reasontext.proofs.read_numbers.Given as goal

abbrev pub invariant-loop-i : goal.invariant-loop-i
invariant-loop-i l =
    Going l.text l.initial.room l.s l.i l.room
