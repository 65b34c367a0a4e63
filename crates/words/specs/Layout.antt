-- Believed: how records lie in the words, and the records and rules of a table; code names the same places by LINE, GROUPS, BODY, LITERALS and ONE_LITERAL.
use Rattle.std.specs.Prelude.{List, [], ◌∷◌, ◌++◌, map, ℕ, zero, suc, ◌+◌, length, take, drop}
use Rattle.paper.specs.Rules.{Rule}

-- a group: its length k and k literal codes
abbrev pub group_words : List ℕ → List ℕ
group_words β = length β ∷ β

-- groups one after the other
unfoldable pub groups_words : List (List ℕ) → List ℕ
groups_words [] = []
groups_words (β ∷ βs) = group_words β ++ groups_words βs

-- a record of a table: its line in the sheet, or 0 in a table made by hand, and its rule
pub record TableRecord : Type 0 where
  pub line : ℕ
  pub rule : Rule

-- its words: head code, line number, number of groups m, the groups
abbrev pub record_words : TableRecord → List ℕ
record_words r = r.rule.head ∷ r.line ∷ length r.rule.groups ∷ groups_words r.rule.groups

-- records back to back
unfoldable pub words_of : List TableRecord → List ℕ
words_of [] = []
words_of (r ∷ Q) = record_words r ++ words_of Q

-- of the record at place i: the place of its line number, of m, and of its first group
abbrev pub line_number_at : ℕ → ℕ
line_number_at i = i + 1

abbrev pub groups_at : ℕ → ℕ
groups_at i = i + 2

abbrev pub body_at : ℕ → ℕ
body_at i = i + 3

-- of the group at place i: the place of its first literal, and the place after that one
abbrev pub literals_at : ℕ → ℕ
literals_at i = i + 1

abbrev pub after_one : ℕ → ℕ
after_one i = i + 2

-- m groups at the front of the words
unfoldable pub take_groups : ℕ → List ℕ → List (List ℕ)
take_groups zero t = []
take_groups (suc m) [] = []
take_groups (suc m) (k ∷ t) = take k t ∷ take_groups m (drop k t)

-- the words after m groups
unfoldable pub drop_groups : ℕ → List ℕ → List ℕ
drop_groups zero t = t
drop_groups (suc m) [] = []
drop_groups (suc m) (k ∷ t) = drop_groups m (drop k t)

-- at most n records at the front of the words
unfoldable pub records_within : ℕ → List ℕ → List TableRecord
records_within zero t = []
records_within (suc n) [] = []
records_within (suc n) (h ∷ []) = []
records_within (suc n) (h ∷ x ∷ []) = []
records_within (suc n) (h ∷ x ∷ m ∷ t) =
    record { line = x; rule = record { head = h; groups = take_groups m t } } ∷ records_within n (drop_groups m t)

-- the records of a table; a table has no more records than words
unfoldable pub records_of : List ℕ → List TableRecord
records_of t = records_within (length t) t

-- the rules of records, and of a table
abbrev pub rules_in : List TableRecord → List Rule
rules_in Q = map (λ (r : TableRecord). r.rule) Q

abbrev pub rules_of : List ℕ → List Rule
rules_of t = rules_in (records_of t)
