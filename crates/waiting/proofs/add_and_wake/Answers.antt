use mathlib.Core.Path.{refl}
use Rattle.ranks.specs.Found.{adding}
use Rattle.waiting.proofs.Waking.{woken_small, stirred}
use Rattle.waiting.proofs.add_and_wake.Goals as goal

pub returns-in-Nothing-clause-found_after : goal.returns-in-Nothing-clause-found_after
unfolding adding
returns-in-Nothing-clause-found_after c = rw c.in-Nothing.is refl

pub wake-requires : goal.wake-requires
wake-requires c =
    let ranking = c.requires.0 in
    (c.requires.1, woken_small ranking.numbered c.add.ensures.counted ranking.index.table)

pub returns : goal.returns
returns c =
    record {
      found_after = c.add.ensures.found_after;
      stirred = stirred c.requires.0.numbered c.add.ensures.counted c.wake.ensures;
    }
