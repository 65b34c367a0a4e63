use Prim.Native.Nat.{◌+◌, ◌-◌}
use mathlib.Core.Bool.{cond}
use Rattle.bits.specs.Sets.{member}
use Rattle.ranks.specs.KnownClean.{marked_in, clean_in}
use Rattle.words.specs.Layout.{rules_of}
use Rattle.waiting.specs.Searching.{AwakeIn}
use Rattle.waiting.proofs.Turns.{PassesMade}
use Rattle.waiting.proofs.rest.Given as goal

abbrev pub invariant-loop-again : goal.invariant-loop-again
invariant-loop-again l =
    let heads = l.sources.heads in
    PassesMade (marked_in heads.clean) (clean_in heads.clean) (member heads.marks.now) (rules_of l.sources.table.words.now)
    l.initial.search.found l.again l.search.found
    × AwakeIn l.sources l.search l.waiting

abbrev pub decreases-loop-again : goal.decreases-loop-again
decreases-loop-again l =
    (1024 - l.search.found.next_rank) + cond l.again 1 0
