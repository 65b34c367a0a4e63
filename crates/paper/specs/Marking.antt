-- Believed: Held, Clean, can be marked, settled, conflict, and the values of a settled marking.
use Rattle.std.specs.Prelude.{List, [], ◌∷◌, Bool, true, false, not, ◌⊎◌, ◌↔◌, ◌≡◌, ℕ, suc, ◌<◌, T}
use Rattle.sets.specs.Sets.{◌∈◌, ◌with◌}
use Rattle.paper.specs.Table1.{Value, 𝐟, 𝐮, 𝐢, 𝐭}
use Rattle.paper.specs.Rules.{Rule, atom, positive, negative}
use Rattle.paper.specs.Definitions.{Interpretation, value}

-- a set of marked atoms
abbrev pub Marks : Type 0
Marks = ℕ → Bool

abbrev pub Marked : Marks → ℕ → Type 0
Marked A a = T (A a)

abbrev pub Unmarked : Marks → ℕ → Type 0
Unmarked A a = T (not (A a))

-- the least set that has base and the allowed head of each rule that is a fact or has a group wholly in the set
pub data Least (R : List Rule) (base allowed : ℕ → Type 0) : ℕ → Type 0 where
  from_base : {l : ℕ} → base l → Least R base allowed l
  by_fact : {l : ℕ} (ρ : Rule) → ρ ∈ R → ρ.head ≡ l → allowed l → ρ.groups ≡ [] → Least R base allowed l
  by_group : {l : ℕ} (ρ : Rule) (β : List ℕ) → ρ ∈ R → ρ.head ≡ l → allowed l → β ∈ ρ.groups
      → ((ι : ℕ) → ι ∈ β → Least R base allowed ι) → Least R base allowed l

-- Held: both literals of each marked atom, and the head of each rule that is a fact or has a group wholly held
abbrev pub Held : List Rule → Marks → ℕ → Type 0
Held R A = Least R (λ l. Marked A (atom l)) (λ l. Unit {0})

-- Clean: the head of each rule whose head atom is unmarked and that is a fact or has a group wholly clean
abbrev pub Clean : List Rule → Marks → ℕ → Type 0
Clean R A = Least R (λ l. ⊥) (λ l. Unmarked A (atom l))

abbrev pub HeldNotClean : List Rule → Marks → ℕ → Type 0
HeldNotClean R A l = Held R A l × (Clean R A l → ⊥)

-- an unmarked atom can be marked if both its literals are held, or one of them is held and not clean
pub record CanBeMarked (R : List Rule) (A : Marks) (a : ℕ) : Type 0 where
  pub unmarked : Unmarked A a
  pub because : (Held R A (positive a) × Held R A (negative a)) ⊎ (HeldNotClean R A (positive a) ⊎ HeldNotClean R A (negative a))

-- settled: no atom can be marked
abbrev pub Settled : List Rule → Marks → Type 0
Settled R A = (a : ℕ) → CanBeMarked R A a → ⊥

abbrev pub no_marks : Marks
no_marks a = false

-- conflict: some atom has both literals held before any mark
abbrev pub Conflict : List Rule → Type 0
Conflict R = (a : ℕ) × Held R no_marks (positive a) × Held R no_marks (negative a)

-- n marks made from none, one at a time, each of an atom that could be marked then
pub data Marking (R : List Rule) : ℕ → Marks → Type 0 where
  none : Marking R 0 no_marks
  one_more : {n : ℕ} {A : Marks} (a : ℕ) → Marking R n A → CanBeMarked R A a → Marking R (suc n) (A with a)

-- I is the set of the held literals
abbrev pub IsHeld : List Rule → Marks → Interpretation → Type 0
IsHeld R A I = (l : ℕ) → T (I l) ↔ Held R A l

-- I is the set of the clean literals
abbrev pub IsClean : List Rule → Marks → Interpretation → Type 0
IsClean R A I = (l : ℕ) → T (I l) ↔ Clean R A l

-- i if marked; otherwise t if the positive literal is held, f if the negative one is, u if neither
abbrev pub by_mark_and_held : Bool → Bool → Bool → Value
by_mark_and_held true p n = 𝐢
by_mark_and_held false true n = 𝐭
by_mark_and_held false false true = 𝐟
by_mark_and_held false false false = 𝐮

-- the value of an atom, for marks and the held literals
abbrev pub settled_value : Marks → Interpretation → ℕ → Value
settled_value A I a = by_mark_and_held (A a) (I (positive a)) (I (negative a))

-- going through atoms in any order: each is marked if it can be marked then, and left alone otherwise
pub data Pass (R : List Rule) : Marks → List ℕ → Marks → Type 0 where
  end : {A : Marks} → Pass R A [] A
  marks : {A B : Marks} {a : ℕ} {rest : List ℕ} → CanBeMarked R A a → Pass R (A with a) rest B → Pass R A (a ∷ rest) B
  leaves : {A B : Marks} {a : ℕ} {rest : List ℕ} → (CanBeMarked R A a → ⊥) → Pass R A rest B → Pass R A (a ∷ rest) B

-- k passes, each over all N atoms in an order of its own (with repeats, if it likes)
pub data Passes (R : List Rule) (N : ℕ) : ℕ → Marks → Marks → Type 0 where
  no_pass : {A : Marks} → Passes R N 0 A A
  then_pass : {k : ℕ} {A B C : Marks} (l : List ℕ) → Passes R N k A B → ((a : ℕ) → a < N → a ∈ l) → Pass R B l C → Passes R N (suc k) A C

abbrev pub is_inconsistent : Value → Bool
is_inconsistent 𝐟 = false
is_inconsistent 𝐮 = false
is_inconsistent 𝐢 = true
is_inconsistent 𝐭 = false

-- the inconsistent atoms of an interpretation
abbrev pub inconsistent : Interpretation → ℕ → Bool
inconsistent I a = is_inconsistent (value I (positive a))
