-- Stage: what stands at a place of a table.
use Rattle.std.specs.Prelude.{List, [], ◌∷◌, ℕ, zero, suc, ◌≤◌, length, get_or, drop}
use Rattle.words.specs.Layout.{groups_at, body_at, take_groups, drop_groups}
use Rattle.paper.specs.Rules.{Rule}

-- m whole groups stand at the front of the words
unfoldable pub WholeGroups : ℕ → List ℕ → Type 0
WholeGroups zero t = Unit {0}
WholeGroups (suc m) [] = ⊥
WholeGroups (suc m) (k ∷ t) = (k ≤ length t) × WholeGroups m (drop k t)

-- of the record at place i: its number of groups, and the words from its first group on
abbrev pub groups_in : List ℕ → ℕ → ℕ
groups_in t i = get_or t (groups_at i) 0

abbrev pub body_from : List ℕ → ℕ → List ℕ
body_from t i = drop (body_at i) t

-- the rule of the record at place i
abbrev pub rule_at : List ℕ → ℕ → Rule
rule_at t i = record { head = get_or t i 0; groups = take_groups (groups_in t i) (body_from t i) }

-- the words after the record at place i
abbrev pub after_record : List ℕ → ℕ → List ℕ
after_record t i = drop_groups (groups_in t i) (body_from t i)
