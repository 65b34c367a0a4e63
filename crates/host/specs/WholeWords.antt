-- Stage: the host's evaluation where there is no lone byte, and refusals that have room in the answer.
use Rattle.std.specs.Prelude.{cond, List, ◌≡◌, ℕ, ◌+◌, ◌*◌, ◌<◌, leb, length, get_or, Ok, Err}
use Rattle.limits.specs.Limits.{most_atoms}
use Rattle.refusal.specs.declared.Refusal.{Refusal}
use Rattle.refusal.specs.Numbers.{table_too_long, too_many_atoms}
use Rattle.refusal.specs.Checks.{Checked, Decided}
use Rattle.words.specs.Layout.{rules_of}
use Rattle.paper.specs.Rules.{positive}
use Rattle.paper.specs.Definitions.{Interpretation, value, Smallest}
use Rattle.values.specs.Values.{written}
use Rattle.evaluation.specs.Evaluation.{evaluation_fault}
use Rattle.host.specs.Evaluation.{packed}

-- number and place have room in the answer
pub record Packable (f : Refusal) : Type 0 where
  pub number_small : f.number < 4294967296
  pub place_small : f.place < 4294967296

-- so have those of a check, and of an answer to a question
abbrev pub CheckPackable : Checked → Type 0
CheckPackable c = (f : Refusal) → c ≡ Err f → Packable f

abbrev pub DecidedPackable : Decided → Type 0
DecidedPackable d = (f : Refusal) → d ≡ Err f → Packable f

-- the answer for whole words
pub data WordsEvaluation (N : ℕ) (t room : List ℕ) : ℕ → List ℕ → Type 0 where
  refused : {f : Refusal} → evaluation_fault N t (length room) ≡ Err f → WordsEvaluation N t room (packed f) room
  evaluated : evaluation_fault N t (length room) ≡ Ok tt → (I : Interpretation) → Smallest (rules_of t) I
      → WordsEvaluation N t room 0 (written (λ a. value I (positive a)) N room)

-- what a table above 8,192 words is answered: 1 before 2
abbrev pub too_long_answer : ℕ → ℕ
too_long_answer N = cond (leb N most_atoms) (packed table_too_long) (packed too_many_atoms)

-- the word at a place, read from the bytes
abbrev pub word_at : List ℕ → ℕ → ℕ
word_at bytes i = get_or bytes (2 * i) 0 + 256 * get_or bytes (2 * i + 1) 0
