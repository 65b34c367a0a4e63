use mathlib.Core.Path.{ap₂}
use Prim.Native.Nat.{ℕ, ◌+◌, ◌*◌}
use Rattle.names.specs.Eights.{eight_at}
use Rattle.names.proofs.eight.Goals as goal

pub returns : goal.returns
unfolding eight_at
returns c =
    ap₂ (λ (x y : ℕ). x + 4294967296 * y) c.four.ensures.value c.four-2.ensures.value
