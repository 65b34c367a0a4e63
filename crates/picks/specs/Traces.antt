-- Believed: lists of picks on one record, the table lent anew each time, and passes over all atoms.
use Rattle.std.specs.Prelude.{List, [], ◌∷◌, ℕ, suc, ◌<◌, Result}
use Rattle.sets.specs.Sets.{◌∈◌}
use Rattle.records.specs.declared.MarkRecord.{MarkRecord}
use Rattle.picks.specs.Entries.{PickAllows}
use Rattle.picks.specs.declared.PickAnswer.{PickAnswer}
use Rattle.refusal.specs.declared.Refusal.{Refusal}

-- picks of any atoms, in any order, with repeats and refusals: the record before and after
pub data Picks (t : List ℕ) : MarkRecord → List ℕ → MarkRecord → Type 0 where
  no_picks : {r : MarkRecord} → Picks t r [] r
  then_picks : {r r' r'' : MarkRecord} {a : ℕ} {answer : Result PickAnswer Refusal} {rest : List ℕ} → PickAllows r t a answer r' → Picks t r' rest r'' → Picks t r (a ∷ rest) r''

-- so many passes, each over all N atoms in an order of its own
pub data PickPasses (t : List ℕ) (N : ℕ) : ℕ → MarkRecord → MarkRecord → Type 0 where
  no_pass : {r : MarkRecord} → PickPasses t N 0 r r
  then_pass : {k : ℕ} {r r' r'' : MarkRecord} (l : List ℕ) → PickPasses t N k r r' → ((a : ℕ) → a < N → a ∈ l) → Picks t r' l r'' → PickPasses t N (suc k) r r''
