-- Believed: how a question is answered: by its first fault, and without one yes exactly if what is asked is so.
use Rattle.std.specs.Prelude.{◌≡◌, true, false, Ok, Err}
use Rattle.refusal.specs.declared.Refusal.{Refusal}
use Rattle.refusal.specs.Checks.{Checked, Decided}

pub data QuestionAllows (fault : Checked) (asked : Type 0) : Decided → Type 0 where
  refused : {f : Refusal} → fault ≡ Err f → QuestionAllows fault asked (Err f)
  answers_yes : fault ≡ Ok tt → asked → QuestionAllows fault asked (Ok true)
  answers_no : fault ≡ Ok tt → (asked → ⊥) → QuestionAllows fault asked (Ok false)
