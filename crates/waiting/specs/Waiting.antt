-- Stage: the records that wait to be looked at, by their numbers: all that may have something to add are among them.
use Rattle.std.specs.Prelude.{List, ◌∷◌, Bool, not, ◌⊎◌, ◌≡◌, ℕ, suc, ◌+◌, ◌≤◌, ◌<◌, T, length, get_or, set, drop}
use Rattle.sets.specs.Sets.{◌∈◌, ◌⊆◌}
use Rattle.paper.specs.Rules.{Rule}
use Rattle.paper.specs.Marking.{Marks}
use Rattle.paper.specs.Fires.{fires}
use Rattle.bits.specs.Sets.{member}
use Rattle.words.specs.Layout.{rules_of}
use Rattle.words.specs.RecordAt.{rule_at}
use Rattle.index.specs.Placed.{Placed, placed_of}
use Rattle.index.specs.Index.{IndexOf}
use Rattle.pending.specs.Pending.{Whole, CountsAre}
use Rattle.ranks.specs.declared.Found.{Found}
use Rattle.waiting.specs.declared.Order.{Order}
use Rattle.ranks.specs.Found.{Fit, RecordStands, not_its_turn}
use Rattle.index.specs.declared.Index.{Index}

-- the number of the record with head h, and the place of record j
abbrev pub number_for : Order → ℕ → ℕ
number_for o h = get_or o.numbers h 0

abbrev pub place_for : Order → ℕ → ℕ
place_for o j = get_or o.places j 0

-- with the next record, which has head h and stands at a place
abbrev pub with_record : Order → ℕ → ℕ → Order
with_record o h at = record { numbers = set o.numbers h o.count; places = set o.places o.count at; count = o.count + 1 }

-- record j has its number and its place
pub record NumberedRecord (t : List ℕ) (o : Order) (j : ℕ) : Type 0 where
  pub stands : RecordStands t (place_for o j)
  pub rule : drop j (rules_of t) ≡ rule_at t (place_for o j) ∷ drop (suc j) (rules_of t)
  pub number : number_for o (get_or t (place_for o j) 0) ≡ j

-- all records have
pub record Numbered (t : List ℕ) (o : Order) : Type 0 where
  pub count : o.count ≡ length (rules_of t)
  pub each : (j : ℕ) → j < length (rules_of t) → NumberedRecord t o j

-- a row for 1,024 numbers that has those below n
pub record AllBelow (n : ℕ) (w : List ℕ) : Type 0 where
  pub row : length w ≡ 16
  pub each : (j : ℕ) → j < n → T (member w j)
  pub only : (j : ℕ) → T (member w j) → j < n

-- the records whose heads are in a row, from head h on and before head k, wait now, and no other record was put there
pub record Woke (o : Order) (woken : List ℕ) (h k : ℕ) (w w' : List ℕ) : Type 0 where
  pub row : length w' ≡ 16
  pub more : member w ⊆ member w'
  pub heads : (x : ℕ) → h ≤ x → x < k → T (member woken x) → T (member w' (number_for o x))
  pub only : (j : ℕ) → T (member w' j) → T (member w j) ⊎ ((x : ℕ) × T (member woken x) × (number_for o x ≡ j))

-- literals got lines: their places are counted, and the record of each group that became whole waits
pub record Stirred (t : List ℕ) (o : Order) (s s' w w' counts' : List ℕ) : Type 0 where
  pub counts : CountsAre t (member s') counts'
  pub row : length w' ≡ 16
  pub more : member w ⊆ member w'
  pub whole : (γ : Placed) → γ ∈ placed_of t → Whole (member s') γ → Whole (member s) γ ⊎ T (member w' (number_for o γ.head))
  pub only : (j : ℕ) → T (member w' j) → T (member w j) ⊎ (j < length (rules_of t))

-- the literals that have lines, the clean ones among them, are counted
pub record Ranking (clean t : List ℕ) (x : Index) (o : Order) (st : Found) (counts : List ℕ) : Type 0 where
  pub index : IndexOf t x
  pub numbered : Numbered t o
  pub fit : Fit st
  pub counted : CountsAre t (member st.ranked) counts
  pub clean_ranked : member clean ⊆ member st.ranked

-- it is the turn of a rule's head, and the rule fires for the literals that have lines
abbrev pub MayAdd : Bool → Marks → List ℕ → Rule → Type 0
MayAdd marked A s ρ = T (not (not_its_turn marked A s ρ.head)) × T (fires (member s) ρ)

-- and each record that may have something to add waits
pub record Awake (marked : Bool) (clean : List ℕ) (A : Marks) (t : List ℕ) (x : Index) (o : Order) (st : Found) (counts w : List ℕ) : Type 0 where
  pub ranking : Ranking clean t x o st counts
  pub row : length w ≡ 16
  pub only : (j : ℕ) → T (member w j) → j < length (rules_of t)
  pub due : (ρ : Rule) → ρ ∈ rules_of t → MayAdd marked A st.ranked ρ → T (member w (number_for o ρ.head))
