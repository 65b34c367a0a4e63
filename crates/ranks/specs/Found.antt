-- Stage: the lines of a reason sheet as passes over the rules find them: first for the literals with unmarked atoms, then for the others.
use Rattle.std.specs.Prelude.{List, [], ◌∷◌, ◌≡◌, Bool, true, false, not, cond, ◌||◌, ℕ, zero, suc, ◌+◌, ◌≤◌, ◌<◌, T, length, get_or, replicate, Some, None, Option}
use Rattle.limits.specs.Limits.{most_codes}
use Rattle.sets.specs.Sets.{count}
use Rattle.paper.specs.Rules.{Rule, atom, negation}
use Rattle.paper.specs.Marking.{Marks}
use Rattle.paper.specs.Fires.{no_groups}
use Rattle.bits.specs.Sets.{member, put_in}
use Rattle.words.specs.Layout.{body_at}
use Rattle.justified.specs.ByLiteral.{no_line, rank_in, head_in, group_in, with_line_of}
use Rattle.words.specs.RecordAt.{groups_in, body_from, WholeGroups}
use Rattle.least.specs.Walk.{which_from}
use Rattle.ranks.specs.declared.Found.{Found}
use Rattle.ranks.specs.declared.Adds.{Adds}
use Rattle.ranks.specs.declared.Adds.TheVariants.{Nothing, OneLine, TwoLines}

-- a row for 1,024 literals, a line for each, and as many lines as literals in the row
pub record Fit (st : Found) : Type 0 where
  pub row : length st.ranked ≡ 16
  pub room : length st.lines ≡ 1024
  pub counted : st.next_rank ≡ count most_codes (member st.ranked)

-- of the line of l: its rank, the head of the rule that it names, its group's number
abbrev pub rank_of : Found → ℕ → ℕ
rank_of st l = rank_in st.lines l

abbrev pub head_of : Found → ℕ → ℕ
head_of st l = head_in st.lines l

abbrev pub group_of : Found → ℕ → ℕ
group_of st l = group_in st.lines l

-- with a line for l, which has the next rank
abbrev pub with_line : Found → ℕ → ℕ → ℕ → Found
with_line st l head group =
    record { ranked = put_in st.ranked l; lines = with_line_of st.lines l st.next_rank head group; next_rank = st.next_rank + 1 }

-- with a line for the head's negation besides, unless it has one
unfoldable pub with_negation : Found → ℕ → ℕ → Found
with_negation st head group = cond (member st.ranked (negation head)) st (with_line st (negation head) head group)

-- which group of a rule is wholly in a set, 0 for a fact
abbrev pub answer_for : (ℕ → Bool) → List (List ℕ) → Option ℕ
answer_for S βs = cond (no_groups βs) (Some 0) (which_from S 1 βs)

-- a line by a group that is wholly in a row
abbrev pub line_by_group : Option ℕ → Adds
line_by_group (Some g) = OneLine g
line_by_group None = Nothing

unfoldable pub line_by : List ℕ → List (List ℕ) → Adds
line_by s βs = line_by_group (answer_for (member s) βs)

abbrev pub as_pair : Adds → Adds
as_pair Nothing = Nothing
as_pair (OneLine g) = TwoLines g
as_pair (TwoLines g) = TwoLines g

abbrev pub or_else_adds : Adds → Adds → Adds
or_else_adds Nothing other = other
or_else_adds (OneLine g) other = OneLine g
or_else_adds (TwoLines g) other = TwoLines g

-- by a group of clean literals a line, or else by one of literals that have lines a pair
unfoldable pub by_clean : List ℕ → List ℕ → List (List ℕ) → Adds
by_clean clean s βs = or_else_adds (line_by clean βs) (as_pair (line_by s βs))

-- it is not the turn of a head that has a line, or whose atom is not of the kind looked for
abbrev pub not_its_turn : Bool → Marks → List ℕ → ℕ → Bool
not_its_turn marked A s l = member s l || cond marked (not (A (atom l))) (A (atom l))

-- what a rule adds
unfoldable pub adds_at : Bool → List ℕ → Marks → List ℕ → Rule → Adds
adds_at marked clean A s ρ =
    cond (not_its_turn marked A s ρ.head) Nothing (cond marked (by_clean clean s ρ.groups) (line_by s ρ.groups))

unfoldable pub adding : Found → ℕ → Adds → Found
adding st head Nothing = st
adding st head (OneLine g) = with_line st head head g
adding st head (TwoLines g) = with_negation (with_line st head head g) head g

abbrev pub at_rule : Bool → List ℕ → Marks → Found → Rule → Found
at_rule marked clean A st ρ = adding st ρ.head (adds_at marked clean A st.ranked ρ)

-- one pass over rules
unfoldable pub over_rules : Bool → List ℕ → Marks → List Rule → Found → Found
over_rules marked clean A [] st = st
over_rules marked clean A (ρ ∷ R) st = over_rules marked clean A R (at_rule marked clean A st ρ)

-- so many passes
unfoldable pub passes_of : ℕ → (Found → Found) → Found → Found
passes_of zero pass st = st
passes_of (suc n) pass st = passes_of n pass (pass st)

-- one pass more than there can be lines: the last adds none
unfoldable pub found_at_rest : Bool → List ℕ → Marks → List Rule → Found → Found
found_at_rest marked clean A R st = passes_of (suc most_codes) (over_rules marked clean A R) st

unfoldable pub no_lines_yet : Found
no_lines_yet = record { ranked = replicate 16 0; lines = replicate 1024 no_line; next_rank = 0 }

-- the lines of the literals with unmarked atoms: the clean literals
unfoldable pub clean_found : List Rule → Marks → Found
clean_found R A = found_at_rest false no_lines_yet.ranked A R no_lines_yet

-- the lines of all literals
unfoldable pub reasons_found : List Rule → Marks → Found
reasons_found R A = found_at_rest true (clean_found R A).ranked A R (clean_found R A)

-- a line for l can be added: l has none, and its numbers fit
pub record Addable (st : Found) (l head group : ℕ) : Type 0 where
  pub fit : Fit st
  pub new : T (not (member st.ranked l))
  pub literal : l < most_codes
  pub head_literal : head < most_codes
  pub group_fits : group < 65536

-- what a rule adds can be added
abbrev pub CanAdd : Found → ℕ → Adds → Type 0
CanAdd st head Nothing = Unit {0}
CanAdd st head (OneLine g) = Addable st head head g
CanAdd st head (TwoLines g) = Addable st head head g

-- at a place of a table stands a record
pub record RecordStands (t : List ℕ) (at : ℕ) : Type 0 where
  pub inside : body_at at ≤ length t
  pub whole : WholeGroups (groups_in t at) (body_from t at)
  pub head_literal : get_or t at 0 < most_codes
