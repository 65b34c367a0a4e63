-- The question of conflict is answered alike for tables that are alike. Assumes nothing.
use mathlib.Core.List.{List}
use mathlib.Core.Logic.{◌↔◌}
use mathlib.Core.Path.{◌≡◌, sym}
use Prim.Native.Nat.{ℕ}
use Rattle.paper.specs.Marking.{Conflict}
use Rattle.refusal.specs.Checks.{Decided}
use Rattle.refusal.proofs.Questions.{question_determined, question_same, asked_of}
use Rattle.words.specs.Layout.{rules_of}
use Rattle.words.proofs.OnlyLines.{Alike}
use Rattle.conflict.specs.Conflict.{ConflictAllows}

module _ (t u : List ℕ) (alike : Alike t u) where
  pub same_conflict : Conflict (rules_of t) ↔ Conflict (rules_of u)
  same_conflict = asked_of Conflict alike.rules

  pub conflict_alike : (N : ℕ) {x y : Decided} → ConflictAllows N t x → ConflictAllows N u y → x ≡ y
  conflict_alike N o o' = question_determined (question_same (sym (alike.checks N)) same_conflict o) o'
