-- Evaluation answers alike for tables that are alike. Assumes nothing.
use mathlib.Core.List.{List}
use mathlib.Core.Path.{◌≡◌, sym, ap₂, ◌∙◌, subst}
use Prim.Native.Nat.{ℕ}
use lib.Dec.{leb}
use lib.ListN.{length}
use Rattle.paper.specs.Rules.{Rule}
use Rattle.paper.specs.Definitions.{Smallest}
use Rattle.refusal.specs.Numbers.{table_too_long}
use Rattle.refusal.specs.Checks.{Checked, asking, or_else}
use Rattle.words.specs.Check.{too_many_atoms_fault}
use Rattle.words.proofs.OnlyLines.{Alike}
use Rattle.values.specs.Values.{room_too_small}
use Rattle.evaluation.specs.Evaluation.{evaluation_fault, EvaluationAllows, refused, evaluated}
use Rattle.evaluation.proofs.Laws.{evaluation_determined}
use Rattle.std.specs.Prelude.{Ok}

module _ (N : ℕ) (t u : List ℕ) (alike : Alike t u) where
  pub same_evaluation : (room : ℕ) → evaluation_fault N u room ≡ evaluation_fault N t room
  unfolding evaluation_fault
  same_evaluation room =
      ap₂ (λ (n : ℕ) (c : Checked). or_else (too_many_atoms_fault N)
      (or_else (asking (leb n 8192) table_too_long (Ok tt)) (or_else (room_too_small N room) c)))
      (sym alike.lengths) (sym (alike.checks N))

  -- what the promise allows for the one it allows for the other
  evaluation_of : (room : List ℕ) {x : Checked} {room' : List ℕ} → EvaluationAllows N t room x room' → EvaluationAllows N u room x room'
  evaluation_of room (refused e) = refused (same_evaluation (length room) ∙ e)
  evaluation_of room (evaluated e I s) = evaluated (same_evaluation (length room) ∙ e) I (subst (λ (R : List Rule). Smallest R I) alike.rules s)

  pub evaluation_alike : (room : List ℕ) {x y : Checked} {room' room'' : List ℕ}
      → EvaluationAllows N t room x room' → EvaluationAllows N u room y room'' → (x ≡ y) × (room' ≡ room'')
  evaluation_alike room o o' = evaluation_determined N u room (evaluation_of room o) o'
