-- The numbers below n as a list, from the last to 0. Assumes nothing.
use mathlib.Core.List.Memᴰ
use mathlib.Core.List.{List, [], ◌∷◌}
use Prim.Native.Nat.{ℕ, zero, suc, ◌<◌}
use native.Mathlib.Omega.{arith}
use native.Mathlib.Decide.{ℕ_discrete}
use Rattle.sets.specs.Sets.{◌∈◌}

abbrev pub down_from : ℕ → List ℕ
down_from zero = []
down_from (suc n) = n ∷ down_from n

pub down_from_has : (n l : ℕ) → l < n → l ∈ down_from n
down_from_has zero l lt = absurd (omega arith)
down_from_has (suc n) l lt =
    elim (ℕ_discrete l n) [ yes e ↦ Memᴰ.head e | no e ↦ Memᴰ.tail (down_from_has n l (omega arith)) ]
