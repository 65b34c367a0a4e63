-- Stage: bytes taken two, four and eight at a time, as one number, the first byte lowest.
use Rattle.std.specs.Prelude.{List, ℕ, ◌+◌, ◌*◌}
use Rattle.reader.specs.Sheet.{byte_at}

unfoldable pub pair_at : List ℕ → ℕ → ℕ
pair_at s p = byte_at s p + 256 * byte_at s (p + 1)

unfoldable pub four_at : List ℕ → ℕ → ℕ
four_at s p = pair_at s p + 65536 * pair_at s (p + 2)

unfoldable pub eight_at : List ℕ → ℕ → ℕ
eight_at s p = four_at s p + 4294967296 * four_at s (p + 4)
