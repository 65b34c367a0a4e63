use Prim.Native.Nat.{◌≤◌, ◌-◌}
use mathlib.Core.Path.{◌≡◌}
use lib.ListN.{drop}
use Rattle.words.specs.Layout.{drop_groups}
use Rattle.index.specs.Placed.{Cursor, placed_of}
use Rattle.index.specs.Index.{Indexed}
use Rattle.index.proofs.Index.add_groups.Given as goal

abbrev pub invariant-loop : goal.invariant-loop
invariant-loop l =
    record {
      cursor : Cursor l.table l.at l.head (l.m - l.counter);
      indexed : Indexed (placed_of l.table) l.self l.at;
      dropped : drop_groups (l.m - l.counter) (drop l.at l.table) ≡ drop_groups l.m (drop l.first l.table);
      on : l.first ≤ l.at;
      facts_same : l.self.facts ≡ l.fn.self.facts;
    }
