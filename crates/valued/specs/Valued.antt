-- Stage: value codes that can be read, and literals that they are of.
use Rattle.std.specs.Prelude.{Bool, true, false, cond, List, [], ◌∷◌, ◌≡◌, ℕ, zero, suc, ◌*◌, ◌≤◌, ◌<◌, leb, eqb, length, get_or, drop, Option, Some, None}
use Rattle.std.specs.Coded.{×_prop, Unit-prop, le_prop}
use Rattle.sets.specs.Sets.{◌∈◌}
use Rattle.paper.specs.Table1.{code}
use Rattle.paper.specs.Definitions.{Interpretation, value, body_value}
use Rattle.words.specs.Layout.{body_at}
use Rattle.words.specs.RecordAt.{groups_in, rule_at, WholeGroups}
use Rattle.least.specs.Walk.{GroupsSkipped}

-- N codes of values
pub record Codes (N : ℕ) (values : List ℕ) : Type 0 where
  pub enough : N ≤ length values
  pub at_most_3 : (a : ℕ) → a < N → get_or values a 0 ≤ 3

-- NOT of a code
abbrev pub negated_code : ℕ → ℕ
negated_code c = cond (eqb c 0) 3 (cond (eqb c 3) 0 c)

-- a group's literals are of N atoms, and so are those of all groups
abbrev pub LiteralsBelow : ℕ → List ℕ → Type 0
LiteralsBelow N β = (l : ℕ) → l ∈ β → l < 2 * N

abbrev pub GroupsBelow : ℕ → List (List ℕ) → Type 0
GroupsBelow N βs = (β : List ℕ) → β ∈ βs → LiteralsBelow N β

-- the implication is t, told from the codes of body and head
abbrev pub follows_code : ℕ → ℕ → Bool
follows_code body head = cond (leb body 1) true (cond (eqb body 2) (eqb head 2) (leb 2 head))

-- the rule of the record at a place is satisfied, and there the next begins; or it is not
abbrev pub satisfied_at : Interpretation → List ℕ → ℕ → Bool
satisfied_at I t at = follows_code (code (body_value I (rule_at t at).groups)) (code (value I (rule_at t at).head))

pub data FollowedBy (I : Interpretation) (t : List ℕ) (at : ℕ) : Option ℕ → Type 0 where
  is_satisfied : {next : ℕ} → satisfied_at I t at ≡ true → GroupsSkipped t (body_at at) (groups_in t at) next → FollowedBy I t at (Some next)
  is_not : satisfied_at I t at ≡ false → FollowedBy I t at None

-- that groups are whole has one proof at most
pub whole_groups_one_proof : (m : ℕ) (ws : List ℕ) → IsProp (WholeGroups m ws)
unfolding WholeGroups
whole_groups_one_proof zero ws = Unit-prop
whole_groups_one_proof (suc m) [] = λ a b. absurd a
whole_groups_one_proof (suc m) (k ∷ ws) = ×_prop le_prop (whole_groups_one_proof m (drop k ws))
