use Prim.Native.Nat.{◌+◌}
use mathlib.Core.Path.{◌≡◌}
use Rattle.words.specs.Layout.{literals_at}
use Rattle.index.specs.Placed.{placed_of}
use Rattle.index.specs.Index.{Indexed}
use Rattle.index.proofs.Index.add_group.Given as goal

abbrev pub invariant-loop-i : goal.invariant-loop-i
invariant-loop-i l =
    record { indexed : Indexed (placed_of l.table) l.self (literals_at l.g + l.i); facts_same : l.self.facts ≡ l.fn.self.facts }
