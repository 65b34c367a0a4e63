-- Stage: the groups of a table, each with its rule's head and its place, and the places at which a literal stands in them.
use Rattle.std.specs.Prelude.{List, [], ◌∷◌, ◌++◌, ◌⊎◌, ◌≡◌, ℕ, ◌+◌, ◌≤◌, ◌<◌, length, get_or, drop}
use Rattle.limits.specs.Limits.{most_atoms}
use Rattle.sets.specs.Sets.{◌∈◌}
use Rattle.words.specs.Layout.{TableRecord, groups_words, words_of, records_of, body_at, literals_at}
use Rattle.words.specs.Within.{Within}

-- a group: the head of its rule, the place of its length, its literals
pub record Placed : Type 0 where
  pub head : ℕ
  pub at : ℕ
  pub literals : List ℕ

abbrev pub placed : ℕ → ℕ → List ℕ → Placed
placed h p β = record { head = h; at = p; literals = β }

-- the place after a group
abbrev pub end_of : Placed → ℕ
end_of γ = literals_at γ.at + length γ.literals

-- groups one after the other from place p on
unfoldable pub placed_groups : ℕ → ℕ → List (List ℕ) → List Placed
placed_groups h p [] = []
placed_groups h p (β ∷ βs) = placed h p β ∷ placed_groups h (literals_at p + length β) βs

-- the groups of records from place p on
unfoldable pub placed_in : ℕ → List TableRecord → List Placed
placed_in p [] = []
placed_in p (r ∷ Q) =
    placed_groups r.rule.head (body_at p) r.rule.groups ++ placed_in (body_at p + length (groups_words r.rule.groups)) Q

-- the groups of a table
abbrev pub placed_of : List ℕ → List Placed
placed_of t = placed_in 0 (records_of t)

-- the words of records that keep the limits
pub record Table (t : List ℕ) : Type 0 where
  pub words : t ≡ words_of (records_of t)
  pub within : Within most_atoms (records_of t)

-- literal l stands at place c in one of the groups
pub record LiteralAt (G : List Placed) (l c : ℕ) : Type 0 where
  pub group : Placed
  pub one : group ∈ G
  pub number : ℕ
  pub inside : number < length group.literals
  pub place : c ≡ literals_at group.at + number
  pub literal : get_or group.literals number 0 ≡ l

-- from place p on stand m groups of a rule with head h, and then records; every group of the table ends before p or is one of them
pub record Cursor (t : List ℕ) (p h m : ℕ) : Type 0 where
  pub groups : List (List ℕ)
  pub records : List TableRecord
  pub words : drop p t ≡ groups_words groups ++ words_of records
  pub many : length groups ≡ m
  pub past : (γ : Placed) → γ ∈ placed_of t → (end_of γ ≤ p) ⊎ (γ ∈ placed_groups h p groups ++ placed_in (p + length (groups_words groups)) records)
  pub come : (γ : Placed) → γ ∈ placed_groups h p groups ++ placed_in (p + length (groups_words groups)) records → γ ∈ placed_of t
