use Prim.Native.Nat.{ℕ, suc, ◌+◌, ◌-◌}
use native.Mathlib.Omega.{arith}
use mathlib.Core.Path.{◌≡◌, ap, ◌∙◌, subst}
use lib.ListN.{drop}
use Rattle.words.specs.Layout.{drop_groups}
use Rattle.index.specs.Placed.{Cursor}
use Rattle.index.proofs.Indexing.{group_next, group_dropped, done}
use Rattle.index.proofs.Index.add_groups.Goals as goal

pub add_group-at-requires : goal.add_group-at-requires
add_group-at-requires c = (
  c.requires.0,
  (c.args.m - (c.loop.counter + 1), subst (Cursor c.args.table.now c.loop.at c.args.head) (omega arith) c.loop.invariant.cursor),
  c.loop.invariant.indexed,
)

pub loop-preserved : goal.loop-preserved
loop-preserved c =
    let one : c.args.m - c.loop.counter ≡ suc (c.args.m - (c.loop.counter + 1)) = omega arith in
    let here = subst (Cursor c.args.table.now c.loop.at c.args.head) one c.loop.invariant.cursor in
    record {
      cursor = group_next _ c.requires.0 _ _ _ here _ c.add_group-at.ensures.value;
      indexed = c.add_group-at.ensures.indexed;
      dropped = group_dropped _ c.requires.0 _ _ _ here _ c.add_group-at.ensures.value
          ∙ ap (λ (n : ℕ). drop_groups n (drop c.loop.at c.args.table.now)) (omega arith) ∙ c.loop.invariant.dropped;
      on = omega (arith, c.add_group-at.ensures.value);
      facts_same = c.add_group-at.ensures.facts_same ∙ c.loop.invariant.facts_same;
    }

pub returns : goal.returns
returns c =
    record {
      cursor = subst (Cursor c.args.table.now c.loop.at c.args.head) (omega arith) c.loop.invariant.cursor;
      indexed = c.loop.invariant.indexed;
      table_value = done c.args.table.now (c.args.m - c.loop.counter) c.loop.at (omega arith) ∙ c.loop.invariant.dropped;
      lower_bound = c.loop.invariant.on;
      facts_same = c.loop.invariant.facts_same;
    }
