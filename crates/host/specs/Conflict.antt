-- Believed: the host's question of conflict, over bytes.
use Rattle.std.specs.Prelude.{Bool, List, ℕ, length, Ok, Err}
use Rattle.refusal.specs.Checks.{Checked, Decided}
use Rattle.refusal.specs.Questions.{QuestionAllows}
use Rattle.words.specs.Check.{table_check}
use Rattle.words.specs.Layout.{rules_of}
use Rattle.paper.specs.Marking.{Conflict}
use Rattle.host.specs.Bytes.{words_in, lone_byte, then_lone_byte}
use Rattle.host.specs.Evaluation.{packed}
use mathlib.Core.Bool.{true, false}

-- 1, 2, the whole words, then a lone last byte
unfoldable pub host_table_fault : ℕ → List ℕ → Bool → Checked
host_table_fault N t lone = then_lone_byte (table_check N t) (length t) lone

-- 0 is no, 1 is yes, and a refusal is packed
abbrev pub packed_decided : Decided → ℕ
packed_decided (Ok false) = 0
packed_decided (Ok true) = 1
packed_decided (Err f) = packed f

pub data HostConflict (N : ℕ) (bytes : List ℕ) : ℕ → Type 0 where
  answered : {answer : Decided} → QuestionAllows (host_table_fault N (words_in bytes) (lone_byte bytes)) (Conflict (rules_of (words_in bytes))) answer
      → HostConflict N bytes (packed_decided answer)
