-- Stage: a round of marking: every atom that can be marked is marked, as if one at a time.
use Rattle.std.specs.Prelude.{Bool, true, false, List, ◌⊎◌, ◌≡◌, ℕ, zero, suc, T, length, replicate}
use Rattle.paper.specs.Rules.{Rule, atom}
use Rattle.paper.specs.Definitions.{Interpretation}
use Rattle.paper.specs.Marking.{Marked, Held, Settled, Marking, IsHeld, IsClean}
use Rattle.sets.specs.Some.{some_below}
use Rattle.bits.specs.Sets.{member, put_in}
use Rattle.words.specs.Layout.{rules_of}
use Rattle.pending.specs.Pending.{PairsOf, with_pair, Working}
use Rattle.marking.specs.Markable.{markable}
use Rattle.evaluation.specs.declared.Unsettled.{Unsettled}

-- the marks after one atom was looked at
abbrev pub marked_one : List ℕ → ℕ → Bool → List ℕ
marked_one s a true = put_in s a
marked_one s a false = s

-- the marks s after the atoms below n were looked at, all by the held H and the clean C of s
unfoldable pub marked_below : List ℕ → (ℕ → Bool) → (ℕ → Bool) → ℕ → List ℕ
marked_below s H C zero = s
marked_below s H C (suc a) = marked_one (marked_below s H C a) a (markable (member s) H C a)

-- a row with both literals of each atom below n that was marked then
unfoldable pub paired_below : List ℕ → List ℕ → (ℕ → Bool) → (ℕ → Bool) → ℕ → List ℕ
paired_below u s H C zero = u
paired_below u s H C (suc a) = with_pair (paired_below u s H C a) a (markable (member s) H C a)

-- an unsettled marking after one atom was looked at
abbrev pub with_one : Unsettled → ℕ → Bool → Unsettled
with_one m a b =
    record {
      marks = marked_one m.marks a b;
      shut = with_pair m.shut a b;
      held = record { taken = m.held.taken; ready = with_pair m.held.ready a b; counts = m.held.counts };
    }

-- the marks s became s' by looking at the atoms below n, and any says whether one was marked
pub record RoundOver (s : List ℕ) (H C : ℕ → Bool) (n : ℕ) (any : Bool) (s' : List ℕ) : Type 0 where
  pub marks_are : s' ≡ marked_below s H C n
  pub any_is : any ≡ some_below (markable (member s) H C) n

-- the atoms below n were looked at, and any says whether one was marked
pub record MarkedAll (m : Unsettled) (C : ℕ → Bool) (n : ℕ) (any : Bool) (m' : Unsettled) : Type 0 where
  pub over : RoundOver m.marks (member m.held.taken) C n any m'.marks
  pub shut : m'.shut ≡ paired_below m.shut m.marks (member m.held.taken) C n
  pub ready : m'.held.ready ≡ paired_below m.held.ready m.marks (member m.held.taken) C n
  pub taken : m'.held.taken ≡ m.held.taken
  pub counts : m'.held.counts ≡ m.held.counts

-- marks made from none, and literals that are held with them
pub record Begun (R : List Rule) (s h : List ℕ) : Type 0 where
  pub marks_length : length s ≡ 8
  pub held_length : length h ≡ 16
  pub made : ℕ
  pub marking : Marking R made (member s)
  pub held : (l : ℕ) → T (member h l) → Held R (member s) l

-- the same, and settled with all held literals at hand once nothing was marked
pub record Settling (R : List Rule) (s h : List ℕ) (again : Bool) : Type 0 where
  pub begun : Begun R s h
  pub settled : again ≡ false → IsHeld R (member s) (member h) × Settled R (member s)

-- one round from the marks s: the literals held with them, and every atom marked that can be marked by these and the clean ones
pub record Round (R : List Rule) (n : ℕ) (s s' h' : List ℕ) (any : Bool) : Type 0 where
  pub held_length : length h' ≡ 16
  pub held : IsHeld R (member s) (member h')
  pub clean : Interpretation
  pub clean_is : IsClean R (member s) clean
  pub over : RoundOver s (member h') clean n any s'

-- between rounds: the literals of the marks are in their row; what is held and pending is held, the marked literals among it
pub record Standing (t : List ℕ) (m : Unsettled) : Type 0 where
  pub shut_row : length m.shut ≡ 16
  pub pairs : PairsOf m.shut (member m.marks)
  pub working : Working t m.held (replicate 16 0)
  pub pending : (l : ℕ) → T (member m.held.ready l) → Held (rules_of t) (member m.marks) l
  pub marked : (l : ℕ) → Marked (member m.marks) (atom l) → T (member m.held.taken l) ⊎ T (member m.held.ready l)
