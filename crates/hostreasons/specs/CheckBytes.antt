-- Believed: the host's check of a reason sheet, over bytes.
use Rattle.std.specs.Prelude.{cond, List, ◌≡◌, ℕ, leb, length, Ok, Err}
use Rattle.refusal.specs.declared.Refusal.{Refusal}
use Rattle.refusal.specs.Checks.{Checked}
use Rattle.refusal.specs.Numbers.{refusal}
use Rattle.host.specs.Bytes.{words_in, lone_byte}
use Rattle.host.specs.Evaluation.{host_fault, packed}
use Rattle.reasoncheck.specs.ReasonCheck.{CheckAllows}

-- a place above 4,294,967,295, which only 21 in a text of 4 GiB or more can have, is answered as that: the number stays readable
abbrev pub readable_place : ℕ → ℕ
readable_place place = cond (leb place 4294967295) place 4294967295

-- 0 is accepted, and a refusal is packed
abbrev pub packed_check : Checked → ℕ
packed_check (Ok tt) = 0
packed_check (Err f) = packed (refusal f.number (readable_place f.place))

-- 1, 2, 3, the whole words, a lone last byte; then what the checker finds: 20, 21, 34, 22, else accepted
pub data HostCheck (N : ℕ) (bytes values text : List ℕ) : ℕ → Type 0 where
  refused : {f : Refusal} → host_fault N (words_in bytes) (lone_byte bytes) (length values) ≡ Err f → HostCheck N bytes values text (packed f)
  answered : host_fault N (words_in bytes) (lone_byte bytes) (length values) ≡ Ok tt
      → {answer : Checked} → CheckAllows N (words_in bytes) values text answer → HostCheck N bytes values text (packed_check answer)
