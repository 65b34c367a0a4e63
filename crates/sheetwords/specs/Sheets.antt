-- Believed: what a sheet gives, or its one refusal.
use Rattle.std.specs.Prelude.{List, ◌&&◌, ℕ, zero, suc, ◌+◌, leb, length, Ok, Err}
use Rattle.limits.specs.Limits.{most_atoms, most_words, most_sheet_bytes}
use Rattle.literals.specs.Literals.{Sofar, nothing, literal_fault, after}
use Rattle.refusal.specs.declared.Refusal.{Refusal}
use Rattle.refusal.specs.Numbers.{sheet_too_long, buffer_too_small}
use Rattle.refusal.specs.Checks.{Checked, demanding}
use Rattle.reader.specs.declared.Reading.{Reading}
use Rattle.reader.specs.declared.Reading.TheVariants.{End, Refused as ReadRefused, Literal}
use Rattle.reader.specs.Readings.{reading_at, place_after}

-- a sheet gives what all its literals have given, or the one refusal
pub data Outcome : Type 0 where
  accepted : Sofar → Outcome
  refused : Refusal → Outcome

-- a fault decides; without one the sheet goes on
abbrev pub unless : Checked → Outcome → Outcome
unless (Ok tt) onward = onward
unless (Err r) onward = refused r

-- by what stands at p
abbrev pub by_reading : List ℕ → ℕ → Sofar → Reading → (Sofar → Outcome) → Outcome
by_reading s p sofar End onward = accepted sofar
by_reading s p sofar (ReadRefused r) onward = refused r
by_reading s p sofar (Literal l) onward = unless (literal_fault s p sofar l) (onward (after s sofar l))

-- literal after literal from p on, at most n; the first with a fault decides
unfoldable pub sheet_from : ℕ → List ℕ → ℕ → Sofar → Outcome
sheet_from zero s p sofar = accepted sofar
sheet_from (suc n) s p sofar = by_reading s p sofar (reading_at s p) (sheet_from n s (place_after (reading_at s p) p))

-- 8, 9, then the literals; a sheet has no more literals than bytes
unfoldable pub sheet_outcome : List ℕ → ℕ → ℕ → Outcome
sheet_outcome s wordRoom nameRoom =
    demanding refused (leb (length s) most_sheet_bytes) sheet_too_long
    (demanding refused (leb most_words wordRoom && leb most_atoms nameRoom) buffer_too_small (sheet_from (length s + 1) s 0 nothing))
