-- Believed: the question of conflict: 1, 2, words; then yes exactly if some atom has both literals held before any mark.
use Rattle.std.specs.Prelude.{List, ℕ}
use Rattle.refusal.specs.Checks.{Decided}
use Rattle.refusal.specs.Questions.{QuestionAllows}
use Rattle.words.specs.Check.{table_check}
use Rattle.words.specs.Layout.{rules_of}
use Rattle.paper.specs.Marking.{Conflict}

abbrev pub ConflictAllows : ℕ → List ℕ → Decided → Type 0
ConflictAllows N t = QuestionAllows (table_check N t) (Conflict (rules_of t))
