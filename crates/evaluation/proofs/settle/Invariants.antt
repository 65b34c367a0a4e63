use Rattle.words.specs.Layout.{rules_of}
use Rattle.evaluation.specs.Rounds.{Begun, Standing}
use Rattle.evaluation.proofs.Rounds.{left}
use Rattle.evaluation.proofs.settle.Given as goal

abbrev pub invariant-loop : goal.invariant-loop
invariant-loop l = record { begun : Begun (rules_of l.rules) l.m.marks l.m.held.taken; standing : Standing l.rules l.m }

abbrev pub decreases-loop : goal.decreases-loop
decreases-loop l = left l.m.marks
