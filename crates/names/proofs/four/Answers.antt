use mathlib.Core.Path.{ap₂}
use Prim.Native.Nat.{ℕ, ◌+◌, ◌*◌}
use native.Mathlib.Omega.{arith}
use Rattle.names.specs.Eights.{four_at}
use Rattle.names.proofs.four.Goals as goal

pub returns : goal.returns
unfolding four_at
returns c =
    record {
      value = ap₂ (λ (x y : ℕ). x + 65536 * y) c.pair.ensures.value c.pair-2.ensures.value;
      upper_bound = omega (arith, c.pair.ensures.upper_bound, c.pair-2.ensures.upper_bound);
    }
