-- Believed: how tests follow one another: the first that fails refuses.
use Rattle.std.specs.Prelude.{Bool, true, false, ⊤, Result, Ok, Err}
use Rattle.refusal.specs.declared.Refusal.{Refusal}

-- what only does or refuses
abbrev pub Checked : Type 0
Checked = Result ⊤ Refusal

-- yes or no, or refused
abbrev pub Decided : Type 0
Decided = Result Bool Refusal

-- go on where the test passes, refuse where it fails
abbrev pub demanding : {A : Type 0} → (Refusal → A) → Bool → Refusal → A → A
demanding refuse true r rest = rest
demanding refuse false r rest = refuse r

-- the same for a check
abbrev pub asking : Bool → Refusal → Checked → Checked
asking = demanding Err

-- a fault decides; without one the rest does
abbrev pub or_else : Checked → Checked → Checked
or_else (Ok _) rest = rest
or_else (Err r) rest = Err r
