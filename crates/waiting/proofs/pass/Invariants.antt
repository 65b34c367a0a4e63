use Prim.Native.Nat.{◌-◌}
use Rattle.bits.specs.Sets.{member}
use Rattle.ranks.specs.KnownClean.{marked_in, clean_in}
use Rattle.waiting.proofs.Awake.{PassedTo}
use Rattle.waiting.proofs.pass.Given as goal

abbrev pub invariant-loop-i : goal.invariant-loop-i
invariant-loop-i l =
    let heads = l.sources.heads in
    PassedTo (marked_in heads.clean) (clean_in heads.clean) (member heads.marks.now) l.sources.table.words.now l.sources.table.index.now l.sources.order.now
    l.initial.search.found l.i l.search.found l.search.counts l.waiting

abbrev pub decreases-loop-i : goal.decreases-loop-i
decreases-loop-i l =
    1024 - l.i
