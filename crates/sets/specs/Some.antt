-- Stage: is one of the first N numbers in a set.
use Rattle.std.specs.Prelude.{Bool, ℕ}
use Rattle.std.specs.List.{list_any, range_with_len}

abbrev pub some_below : (ℕ → Bool) → ℕ → Bool
some_below S n = list_any S (range_with_len 0 n)
