-- Stage: taking one pending literal after the other: how much of each group is taken, and what is due.
use Rattle.std.specs.Prelude.{Bool, true, false, not, cond, ◌||◌, List, ◌⊎◌, ◌↔◌, ◌≡◌, ℕ, ◌+◌, ◌*◌, ◌-◌, ◌<◌, T, eqb, length, get_or, set, replicate}
use Rattle.limits.specs.Limits.{most_codes}
use Rattle.paper.specs.Marking.{Marks, Least, IsClean}
use Rattle.paper.specs.Rules.{atom, positive, negative}
use Rattle.sets.specs.Sets.{◌∈◌, ◌with◌, count}
use Rattle.bits.specs.Sets.{member, put_in}
use Rattle.words.specs.Layout.{rules_of, literals_at}
use Rattle.index.specs.Placed.{Placed, placed_of}
use Rattle.index.specs.declared.Index.{Index}
use Rattle.index.specs.Index.{owner_in, FactIn}
use Rattle.pending.specs.declared.Taking.{Taking}

-- all literals of a group are in the set
abbrev pub Whole : (ℕ → Bool) → Placed → Type 0
Whole S γ = (ι : ℕ) → ι ∈ γ.literals → T (S ι)

-- at the place of each group stands how many of its places hold a literal of the set
pub record CountsAre (t : List ℕ) (S : ℕ → Bool) (counts : List ℕ) : Type 0 where
  pub room : length counts ≡ 8192
  pub each : (γ : Placed) → γ ∈ placed_of t
      → get_or counts γ.at 0 ≡ count (length γ.literals) (λ i. S (get_or t (literals_at γ.at + i) 0))

-- literal l was taken into the set S: each group that became whole by it has its head in the row, and no other head was put there
pub record Taken (t : List ℕ) (S : ℕ → Bool) (l : ℕ) (ready ready' counts' : List ℕ) : Type 0 where
  pub counts : CountsAre t (S with l) counts'
  pub row : length ready' ≡ length ready
  pub more : (h : ℕ) → T (member ready h) → T (member ready' h)
  pub whole : (γ : Placed) → γ ∈ placed_of t → Whole (S with l) γ → Whole S γ ⊎ T (member ready' γ.head)
  pub sound : (h : ℕ) → T (member ready' h) → T (member ready h) ⊎ ((γ : Placed) × (γ ∈ placed_of t) × (γ.head ≡ h) × Whole (S with l) γ)

-- a group has one more of its places counted
abbrev pub with_one_more : List ℕ → ℕ → List ℕ
with_one_more counts g = set counts g (get_or counts g 0 + 1)

-- the head of a group goes into the row if all its places are counted
unfoldable pub with_whole : List ℕ → Index → List ℕ → ℕ → List ℕ → List ℕ
with_whole t x counts g ready = cond (eqb (get_or counts g 0) (get_or t g 0)) (put_in ready (owner_in x g)) ready

-- nothing is taken, and nothing counted
abbrev pub begun : List ℕ → Taking
begun ready = record { taken = replicate 16 0; ready = ready; counts = replicate 8192 0 }

-- a literal that is pending, taken or shut out
abbrev pub due : Taking → List ℕ → ℕ → Bool
due p shut h = member p.ready h || (member p.taken h || member shut h)

-- taken literals are counted, and the head of each fact and of each group that is wholly taken is due
pub record Working (t : List ℕ) (p : Taking) (shut : List ℕ) : Type 0 where
  pub taken_row : length p.taken ≡ 16
  pub ready_row : length p.ready ≡ 16
  pub counted : CountsAre t (member p.taken) p.counts
  pub facts : (h : ℕ) → FactIn (rules_of t) h → T (due p shut h)
  pub groups : (γ : Placed) → γ ∈ placed_of t → Whole (member p.taken) γ → T (due p shut γ.head)

-- the least set with the taken literals and the pending ones that are not shut out, and with the heads that are not shut out
abbrev pub LeastOf : List ℕ → Taking → List ℕ → ℕ → Type 0
LeastOf t p shut =
    Least (rules_of t) (λ x. T (member p.taken x) ⊎ (T (member p.ready x) × T (not (member shut x)))) (λ x. T (not (member shut x)))

-- on the way from p to that set: nothing is lost, and nothing is outside
pub record Closing (t : List ℕ) (p : Taking) (shut : List ℕ) (p' : Taking) : Type 0 where
  pub kept : (l : ℕ) → T (member p.taken l) → T (member p'.taken l)
  pub still_due : (l : ℕ) → T (member p.ready l) → T (due p' shut l)
  pub inside : (l : ℕ) → T (member p'.taken l) → LeastOf t p shut l
  pub inside_ready : (l : ℕ) → T (member p'.ready l) → T (not (member shut l)) → LeastOf t p shut l

-- how much is left to take, and to look at
abbrev pub left : Taking → ℕ
left p = 1025 * (1024 - count most_codes (member p.taken)) + count most_codes (member p.ready)

-- a literal was looked at: it is taken or shut out and is left alone, or it is taken up
pub data LookedAt (t : List ℕ) (p : Taking) (shut : List ℕ) (l : ℕ) : Taking → Type 0 where
  left_alone : T (member p.taken l || member shut l) → LookedAt t p shut l p
  taken_up : {p' : Taking} → T (not (member p.taken l || member shut l)) → p'.taken ≡ put_in p.taken l
      → Taken t (member p.taken) l p.ready p'.ready p'.counts → LookedAt t p shut l p'

-- one pending literal was looked at
pub record Stepped (t : List ℕ) (p : Taking) (shut : List ℕ) (p' : Taking) : Type 0 where
  pub working : Working t p' shut
  pub closing : (p₀ : Taking) → Closing t p₀ shut p → Closing t p₀ shut p'
  pub less : left p' < left p

-- the set was closed, and nothing is pending
pub record Closed (t : List ℕ) (p : Taking) (shut : List ℕ) (p' : Taking) : Type 0 where
  pub working : Working t p' shut
  pub none_ready : (l : ℕ) → member p'.ready l ≡ false
  pub least : (l : ℕ) → T (member p'.taken l) ↔ LeastOf t p shut l

-- the row has the literals of the marked atoms
abbrev pub PairsOf : List ℕ → Marks → Type 0
PairsOf s A = (l : ℕ) → member s l ≡ A (atom l)

-- the set with both literals of atom a besides, if it is marked
abbrev pub with_pair : List ℕ → ℕ → Bool → List ℕ
with_pair s a true = put_in (put_in s (positive a)) (negative a)
with_pair s a false = s

-- the set with both literals of each marked atom besides
pub record WithMarked (A : Marks) (s s' : List ℕ) : Type 0 where
  pub length_same : length s' ≡ length s
  pub members : (l : ℕ) → member s' l ≡ (member s l || A (atom l))

-- the clean literals for any marks whose literals the row has
abbrev pub CleanFor : List ℕ → List ℕ → List ℕ → Type 0
CleanFor t shut s = (A : Marks) → PairsOf shut A → IsClean (rules_of t) A (member s)
