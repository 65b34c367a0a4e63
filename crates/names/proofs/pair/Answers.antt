use mathlib.Core.Path.{ap₂}
use Prim.Native.Nat.{ℕ, ◌+◌, ◌*◌}
use native.Mathlib.Omega.{arith}
use Rattle.names.specs.Eights.{pair_at}
use Rattle.names.proofs.pair.Goals as goal

pub returns : goal.returns
unfolding pair_at
returns c =
    record {
      value = ap₂ (λ (x y : ℕ). x + 256 * y) c.wide.ensures.0 c.wide-2.ensures.0;
      upper_bound = omega (arith, c.wide.ensures.1, c.wide-2.ensures.1);
    }
