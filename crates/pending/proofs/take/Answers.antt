use mathlib.Core.Path.{refl, ◌∙◌}
use native.Mathlib.Omega.{arith}
use Rattle.index.specs.Index.{owner_in}
use Rattle.index.proofs.Placed.{table_short}
use Rattle.pending.proofs.Laws.{walk_starts, walk_goes_on, walk_ends, place_inside, group_inside, few, walk_falls}
use Rattle.pending.proofs.take.Goals as goal

pub loop-c-init : goal.loop-c-init
loop-c-init c =
    walk_starts _ _ c.requires.0 _ _ c.requires.4 c.requires.3 _ _ c.requires.5 _ c.last-c.ensures

pub owner-g-requires : goal.owner-g-requires
owner-g-requires c =
    place_inside _ _ c.requires.0 _ _ c.requires.4 _ _ _ _ (owner_in c.args.index.now c.loop-c.c) c.loop-c.invariant c.loop-c-test.true refl

pub count_place-requires : goal.count_place-requires
count_place-requires c = (
  group_inside _ _ c.requires.0 _ _ c.requires.4 _ _ _ _ _ c.loop-c.invariant c.loop-c-test.true c.owner-g.ensures,
  omega (
    arith,
    group_inside _ _ c.requires.0 _ _ c.requires.4 _ _ _ _ _ c.loop-c.invariant c.loop-c-test.true c.owner-g.ensures,
    table_short _ c.requires.0.table,
  ),
  c.loop-c.invariant.room,
  few _ _ c.requires.0 _ _ c.requires.4 _ _ _ _ _ c.loop-c.invariant c.loop-c-test.true c.owner-g.ensures,
)

pub earlier-c-requires : goal.earlier-c-requires
earlier-c-requires c =
    place_inside _ _ c.requires.0 _ _ c.requires.4 _ _ _ _ _ c.loop-c.invariant c.loop-c-test.true c.owner-g.ensures

pub loop-c-smaller : goal.loop-c-smaller
loop-c-smaller c =
    walk_falls _ _ c.requires.0 _ _ c.requires.4 _ _ _ _ _ c.loop-c.invariant c.loop-c-test.true c.owner-g.ensures _ c.earlier-c.ensures

pub loop-c-preserved : goal.loop-c-preserved
loop-c-preserved c =
    walk_goes_on _ _ c.requires.0 _ _ c.requires.4 _ _ _ _ _ c.loop-c.invariant c.loop-c-test.true c.owner-g.ensures _ _ _
    (c.loop-c.invariant.row ∙ c.requires.2) c.count_place.ensures.counts_after c.count_place.ensures.ready_after c.earlier-c.ensures

pub returns : goal.returns
returns c =
    record {
      taken_after = c.put.ensures;
      taken = walk_ends _ _ c.requires.0 _ _ c.requires.4 _ _ _ _ c.loop-c-test.false c.loop-c.invariant;
    }
