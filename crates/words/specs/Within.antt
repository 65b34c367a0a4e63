-- Stage: the limits said of records: those of an accepted table keep them, and records that keep them have accepted words.
use Rattle.std.specs.Prelude.{List, [], ◌∷◌, ◌≡◌, ℕ, ◌*◌, ◌≤◌, ◌<◌, length}
use Rattle.limits.specs.Limits.{most_atoms, most_words, most_in_body, most_line}
use Rattle.paper.specs.Rules.{Rule, HeadsBelow}
use Rattle.sets.specs.Sets.{◌∈◌}
use Rattle.words.specs.Layout.{TableRecord, words_of, rules_in}

-- no head twice
unfoldable pub DistinctHeads : List Rule → Type 0
DistinctHeads [] = Unit {0}
DistinctHeads (ρ ∷ R) = ((σ : Rule) → σ ∈ R → σ.head ≡ ρ.head → ⊥) × DistinctHeads R

-- a group: 1 to 64 literal codes, each below 2N
pub record GroupWithin (N : ℕ) (β : List ℕ) : Type 0 where
  pub not_empty : 1 ≤ length β
  pub at_most_64 : length β ≤ most_in_body
  pub literals_below_lem : (l : ℕ) → l ∈ β → l < 2 * N

-- a body: at most 64 groups
pub record BodyWithin (N : ℕ) (βs : List (List ℕ)) : Type 0 where
  pub at_most_64 : length βs ≤ most_in_body
  pub each_group : (β : List ℕ) → β ∈ βs → GroupWithin N β

-- the records of a table
pub record Within (N : ℕ) (Q : List TableRecord) : Type 0 where
  pub at_most_512 : N ≤ most_atoms
  pub at_most_8192 : length (words_of Q) ≤ most_words
  pub each_line : (r : TableRecord) → r ∈ Q → r.line ≤ most_line
  pub heads_below_lem : HeadsBelow N (rules_in Q)
  pub distinct_heads : DistinctHeads (rules_in Q)
  pub each_body : (ρ : Rule) → ρ ∈ rules_in Q → BodyWithin N ρ.groups
