use mathlib.Core.Path.{◌≡◌}
use mathlib.Core.Bool.{false}
use Prim.Native.Nat.{ℕ, ◌*◌, ◌≤◌, ◌<◌}
use Rattle.bits.specs.Sets.{member}
use Rattle.bits.proofs.lowest_in_words.Given as goal

abbrev pub invariant-loop-w : goal.invariant-loop-w
invariant-loop-w l = (l.first ≤ l.w) × (l.w ≤ 16) × ((j : ℕ) → 64 * l.first ≤ j → j < 64 * l.w → member l.set j ≡ false)
