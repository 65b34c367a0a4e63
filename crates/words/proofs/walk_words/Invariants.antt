use mathlib.Core.Path.{◌≡◌}
use Prim.Native.Nat.{◌≤◌}
use lib.ListN.{length, drop}
use Rattle.bits.specs.Sets.{member}
use Rattle.words.specs.declared.Due.TheVariants.{Head}
use Rattle.words.specs.Check.{walk, no_heads}
use Rattle.words.proofs.walk_words.Given as goal

abbrev pub invariant-loop-i : goal.invariant-loop-i
invariant-loop-i l =
    (l.i ≤ length l.table) × (length l.seen ≡ 16) × (walk l.n (member l.seen) l.due l.i (drop l.i l.table) ≡ walk l.n no_heads Head 0 l.table)
