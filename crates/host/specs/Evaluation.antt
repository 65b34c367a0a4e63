-- Believed: the host's evaluation, over bytes.
use Rattle.std.specs.Prelude.{Bool, List, ◌≡◌, ℕ, ◌+◌, ◌*◌, length, Ok, Err}
use Rattle.refusal.specs.declared.Refusal.{Refusal}
use Rattle.refusal.specs.Checks.{Checked}
use Rattle.words.specs.Layout.{rules_of}
use Rattle.paper.specs.Rules.{positive}
use Rattle.paper.specs.Definitions.{Interpretation, value, Smallest}
use Rattle.values.specs.Values.{written}
use Rattle.evaluation.specs.Evaluation.{evaluation_fault}
use Rattle.host.specs.Bytes.{words_in, lone_byte, then_lone_byte}

-- 1, 2, 3, the whole words, then a lone last byte
unfoldable pub host_fault : ℕ → List ℕ → Bool → ℕ → Checked
host_fault N t lone room = then_lone_byte (evaluation_fault N t room) (length t) lone

-- 2^32 times the number, plus the place
abbrev pub packed : Refusal → ℕ
packed f = 4294967296 * f.number + f.place

-- the answer is 0, or the refusal packed; the room has the values, or is untouched
pub data HostEvaluation (N : ℕ) (bytes room : List ℕ) : ℕ → List ℕ → Type 0 where
  refused : {f : Refusal} → host_fault N (words_in bytes) (lone_byte bytes) (length room) ≡ Err f → HostEvaluation N bytes room (packed f) room
  evaluated : host_fault N (words_in bytes) (lone_byte bytes) (length room) ≡ Ok tt → (I : Interpretation) → Smallest (rules_of (words_in bytes)) I
      → HostEvaluation N bytes room 0 (written (λ a. value I (positive a)) N room)
