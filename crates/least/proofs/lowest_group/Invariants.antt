use Prim.Native.Nat.{◌≤◌, ◌-◌, ◌+◌}
use mathlib.Core.Path.{◌≡◌}
use lib.ListN.{length, drop}
use Rattle.bits.specs.Sets.{member}
use Rattle.words.specs.RecordAt.{WholeGroups}
use Rattle.words.specs.Layout.{take_groups, drop_groups}
use Rattle.least.specs.Walk.{which_from}
use Rattle.least.proofs.lowest_group.Given as goal

abbrev pub invariant-loop-g : goal.invariant-loop-g
invariant-loop-g l =
    (l.at ≤ length l.table) × (l.first ≤ l.at) × (WholeGroups (l.m - l.g) (drop l.at l.table))
    × (drop_groups (l.m - l.g) (drop l.at l.table) ≡ drop_groups l.m (drop l.first l.table))
    × (which_from (member l.set) (l.g + 1) (take_groups (l.m - l.g) (drop l.at l.table))
    ≡ which_from (member l.set) 1 (take_groups l.m (drop l.first l.table)))
