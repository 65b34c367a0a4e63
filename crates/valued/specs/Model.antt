-- Believed: are the values a model; if not, the first rule that is not satisfied, at its head word.
use Rattle.std.specs.Prelude.{List, [], ◌∷◌, ℕ, length, take, Ok, Err}
use Rattle.sets.specs.First.{FirstNot}
use Rattle.refusal.specs.Checks.{Checked}
use Rattle.refusal.specs.Numbers.{not_a_model}
use Rattle.paper.specs.Definitions.{Interpretation, Model}
use Rattle.words.specs.Layout.{TableRecord, words_of, records_of, rules_of}

-- a record's rule is satisfied
abbrev pub Satisfied : Interpretation → TableRecord → Type 0
Satisfied I r = Model (r.rule ∷ []) I

-- 34 at the first rule that is not; n records stand before it
pub data ModelAllows (I : Interpretation) (t : List ℕ) : Checked → Type 0 where
  is_a_model : Model (rules_of t) I → ModelAllows I t (Ok tt)
  is_none : {n : ℕ} → FirstNot (Satisfied I) (records_of t) n → ModelAllows I t (Err (not_a_model (length (words_of (take n (records_of t))))))
