-- Stage: refusals whose number, or number and place, have room in the answer.
use Rattle.std.specs.Prelude.{◌≡◌, ◌<◌, Err, Result, ℕ}
use Rattle.refusal.specs.declared.Refusal.{Refusal}
use Rattle.refusal.specs.Checks.{Checked}
use Rattle.host.specs.WholeWords.{Packable}

abbrev pub NumberSmall : Checked → Type 0
NumberSmall c = (f : Refusal) → c ≡ Err f → f.number < 4294967296

abbrev pub NumberedPackable : Result ℕ Refusal → Type 0
NumberedPackable d = (f : Refusal) → d ≡ Err f → Packable f
