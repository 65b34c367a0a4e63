use Rattle.index.proofs.Indexing.{to_starts, indexed_ends, facts_end}
use Rattle.index.proofs.Index.build.Goals as goal

pub loop-at-init : goal.loop-at-init
loop-at-init c = to_starts _ c.requires.0 _ c.requires.1

pub returns : goal.returns
returns c =
    record {
      index_of = indexed_ends _ c.requires.0 _ _ c.loop-at-test.false c.loop-at.invariant.indexed;
      facts_of = facts_end _ _ _ c.loop-at-test.false c.loop-at.invariant.facts;
    }
