-- A buffer cleared to its end.
use mathlib.Core.Path.{◌≡◌, ap}
use mathlib.Core.List.{[]}
use Prim.Native.Nat.{ℕ, ◌-◌}
use native.Mathlib.Omega.{arith}
use lib.ListN.{replicate}
use Rattle.buffers.specs.Padded.{padded}

pub cleared : (room : ℕ) → replicate room 0 ≡ padded room []
unfolding padded
cleared room = let all : room ≡ room - 0 = omega arith in ap (λ (x : ℕ). replicate {A = ℕ} x 0) all
