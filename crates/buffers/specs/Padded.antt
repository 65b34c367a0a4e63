-- Believed: a buffer past what was written into it.
use Rattle.std.specs.Prelude.{List, ◌++◌, ℕ, ◌-◌, length, replicate}

-- a buffer of so many entries: a list, and all later entries zero
unfoldable pub padded : ℕ → List ℕ → List ℕ
padded room l = l ++ replicate (room - length l) 0
