-- Stage: the bytes that a value sheet needs, and what printing it leaves in a text room.
use Rattle.std.specs.Prelude.{List, [], ◌∷◌, ◌++◌, cond, ℕ, ◌+◌, leb, length, drop, Ok, Err, Result}
use Rattle.refusal.specs.Numbers.{text_room_too_small}
use Rattle.names.specs.Names.{length_of}
use Rattle.refusal.specs.declared.Refusal.{Refusal}

-- the bytes that it needs
abbrev pub line_bytes : ℕ → ℕ
line_bytes e = length_of e + 3

unfoldable pub bytes_for : List ℕ → ℕ
bytes_for [] = 0
bytes_for (e ∷ names) = line_bytes e + bytes_for names

-- the answer: its length, or that it does not fit
unfoldable pub printing : List ℕ → ℕ → Result ℕ Refusal
printing out room = cond (leb (length out) room) (Ok (length out)) (Err (text_room_too_small (length out)))

-- the text room afterwards: bytes past the value sheet are untouched, and all of them where it does not fit
unfoldable pub text_after : List ℕ → List ℕ → List ℕ
text_after out text = cond (leb (length out) (length text)) (out ++ drop (length out) text) text
