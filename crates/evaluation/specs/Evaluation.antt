-- Believed: whole evaluation: every atom's value in the smallest well-supported model.
use Rattle.std.specs.Prelude.{List, ◌≡◌, ℕ, length, Ok, Err}
use Rattle.refusal.specs.declared.Refusal.{Refusal}
use Rattle.refusal.specs.Checks.{Checked, or_else}
use Rattle.words.specs.Check.{table_check, table_too_long_fault, too_many_atoms_fault}
use Rattle.words.specs.Layout.{rules_of}
use Rattle.paper.specs.Rules.{positive}
use Rattle.paper.specs.Definitions.{Interpretation, value, Smallest}
use Rattle.values.specs.Values.{room_too_small, written}

-- evaluation: 1, 2, 3, then the words
unfoldable pub evaluation_fault : ℕ → List ℕ → ℕ → Checked
evaluation_fault N t room = or_else (too_many_atoms_fault N) (or_else (table_too_long_fault t) (or_else (room_too_small N room) (table_check N t)))

-- the answer, and the value room afterwards: the first N bytes are the codes of the values in the smallest well-supported model
pub data EvaluationAllows (N : ℕ) (t room : List ℕ) : Checked → List ℕ → Type 0 where
  refused : {f : Refusal} → evaluation_fault N t (length room) ≡ Err f → EvaluationAllows N t room (Err f) room
  evaluated : evaluation_fault N t (length room) ≡ Ok tt → (I : Interpretation) → Smallest (rules_of t) I
      → EvaluationAllows N t room (Ok tt) (written (λ a. value I (positive a)) N room)
