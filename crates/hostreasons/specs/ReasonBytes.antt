-- Believed: the host's writer of reason sheets, over bytes.
use Rattle.std.specs.Prelude.{List, ◌≡◌, ℕ, Ok, Err, Result}
use Rattle.refusal.specs.declared.Refusal.{Refusal}
use Rattle.host.specs.Bytes.{words_in, lone_byte}
use Rattle.host.specs.Evaluation.{packed}
use Rattle.host.specs.Conflict.{host_table_fault}
use Rattle.reasons.specs.Reasons.{ReasonsAllows}

-- a length, at most 18,432, is answered as it is, and a refusal is packed
abbrev pub packed_number : Result ℕ Refusal → ℕ
packed_number (Ok k) = k
packed_number (Err f) = packed f

-- 1, 2, the whole words, a lone last byte; then the length of the sheet that was written, or 15; a refusal leaves the room untouched
pub data HostReasons (N : ℕ) (bytes room : List ℕ) : ℕ → List ℕ → Type 0 where
  refused : {f : Refusal} → host_table_fault N (words_in bytes) (lone_byte bytes) ≡ Err f → HostReasons N bytes room (packed f) room
  answered : host_table_fault N (words_in bytes) (lone_byte bytes) ≡ Ok tt
      → {answer : Result ℕ Refusal} {room' : List ℕ} → ReasonsAllows N (words_in bytes) room answer room' → HostReasons N bytes room (packed_number answer) room'
