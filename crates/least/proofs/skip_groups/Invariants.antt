use Prim.Native.Nat.{◌≤◌, ◌-◌}
use mathlib.Core.Path.{◌≡◌}
use lib.ListN.{length, drop}
use Rattle.words.specs.RecordAt.{WholeGroups}
use Rattle.words.specs.Layout.{drop_groups}
use Rattle.least.proofs.skip_groups.Given as goal

abbrev pub invariant-loop : goal.invariant-loop
invariant-loop l =
    (l.at ≤ length l.table) × (l.first ≤ l.at) × (WholeGroups (l.m - l.counter) (drop l.at l.table))
    × (drop_groups (l.m - l.counter) (drop l.at l.table) ≡ drop_groups l.m (drop l.first l.table))
