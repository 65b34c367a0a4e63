-- The public theorems about rules, for any number of atoms and any finite list of rules with at most one rule per head.
-- Each is proved by citing the room where the work is. Assumes nothing.
use mathlib.Core.List.{List}
use mathlib.Core.Logic.{◌↔◌}
use mathlib.Core.Path.{◌≡◌}
use Prim.Native.Nat.{ℕ, ◌<◌}
use Rattle.paper.specs.Table1.{𝐢, not'}
use Rattle.paper.specs.Rules.{Rule, OneRulePerHead, HeadsBelow, positive, negation}
use Rattle.sets.specs.Sets.{◌∈◌, ◌⊆◌, count}
use Rattle.paper.specs.Definitions.{Interpretation, value, body_value, Model, SmallestWellSupported, Smallest}
use Rattle.paper.specs.Marking.{Marks, Marked, Unmarked, CanBeMarked, Settled, no_marks, Conflict, Marking, Pass, Passes, IsHeld, inconsistent, settled_value}
use Rattle.paper.specs.Examples.{Example, Says, examples}
use Rattle.paper.proofs.Values.{𝐢_implies, value_negation}
use Rattle.paper.proofs.Leasts.{can_be_marked_mono}
use Rattle.paper.proofs.Settled as rooms-settled
use Rattle.paper.proofs.Order as rooms-order
use Rattle.paper.proofs.Existence as rooms-existence
use Rattle.paper.proofs.Smallest as rooms-smallest
use Rattle.paper.proofs.Conflict as rooms-conflict
use Rattle.paper.proofs.Examples as rooms-examples

-- 1. From no marks, marking one at a time an atom that can be marked, until settled: the held literals are a model, ..
pub settled_is_a_model : (R : List Rule) → OneRulePerHead R → (A : Marks) → Settled R A → (I : Interpretation) → IsHeld R A I → Model R I
settled_is_a_model R one A s I h = rooms-settled.settled_model R A I h s one

-- .. well-supported, and contained in every well-supported model, for orders of any kind
pub settled_is_smallest : (R : List Rule) → OneRulePerHead R → {n : ℕ} {A : Marks} → Marking R n A
    → Settled R A → (I : Interpretation) → IsHeld R A I → SmallestWellSupported R I
settled_is_smallest R one k s I h = rooms-smallest.settled_smallest_any R one k s I h

-- the form that contracts cite, where the order is a test, singles out the same model
pub smallest_by_test : (R : List Rule) → OneRulePerHead R → (I : Interpretation) → Smallest R I ↔ SmallestWellSupported R I
smallest_by_test R one I = rooms-smallest.smallest↔any R one I

-- such a marking exists, and is found by computation
pub settled_marking_exists : (R : List Rule) (N : ℕ) → HeadsBelow N R
    → (n : ℕ) × Marking R n (rooms-existence.settled_marks R N) × Settled R (rooms-existence.settled_marks R N)
settled_marking_exists R N below = rooms-existence.settled_marks_is R N below

-- the smallest well-supported model exists ..
pub smallest_exists : (R : List Rule) → OneRulePerHead R → (I : Interpretation) × Smallest R I
smallest_exists R one = (rooms-smallest.smallest_set R one, rooms-smallest.smallest_set_is R one)

-- .. and is one
pub smallest_is_unique : (R : List Rule) (I J : Interpretation) → SmallestWellSupported R I → SmallestWellSupported R J → I ≡ J
smallest_is_unique R I J i j = rooms-smallest.smallest_any_unique R I J i j

-- 2. Any two settled markings so reached are equal
pub order_never_matters : (R : List Rule) {n m : ℕ} (A B : Marks) → Marking R n A
    → Settled R A → Marking R m B → Settled R B → (a : ℕ) → A a ≡ B a
order_never_matters R A B k s k' s' = rooms-order.settled_equal R A B k s k' s'

-- the marks made are as many as the inconsistent atoms of the smallest model
pub marks_made : (R : List Rule) → OneRulePerHead R → {n : ℕ} {A : Marks} → Marking R n A → Settled R A → (I : Interpretation) → Smallest R I
    → (N : ℕ) → HeadsBelow N R → n ≡ count N (inconsistent I)
marks_made R one k s I i N below = rooms-smallest.marks_made_are_inconsistent R one k s I i N below

-- and each is one of them
pub marks_are_the_inconsistent_atoms : (R : List Rule) → OneRulePerHead R
    → {n : ℕ} {A : Marks} → Marking R n A → Settled R A → (I : Interpretation) → Smallest R I
    → (a : ℕ) → A a ≡ inconsistent I a
marks_are_the_inconsistent_atoms R one k s I i a = rooms-smallest.marks_are_inconsistent R one k s I i a

-- so some atom is inconsistent in the smallest model, for orders of any kind, exactly if some atom has both literals held before any mark ..
pub conflict_exactly_if_inconsistent : (R : List Rule) → OneRulePerHead R → (I : Interpretation) → SmallestWellSupported R I
    → Conflict R ↔ ((a : ℕ) × (value I (positive a) ≡ 𝐢))
conflict_exactly_if_inconsistent R one I i =
    let test = (rooms-smallest.smallest↔any R one I).1 i in
    ((λ c. (c.0, rooms-conflict.conflict→inconsistent R one I test c)), λ x. rooms-conflict.inconsistent→conflict R one I test x.0 x.1)

-- .. and there is nothing to mark exactly if none has
pub settled_exactly_without_conflict : (R : List Rule) → Settled R no_marks ↔ (Conflict R → ⊥)
settled_exactly_without_conflict R = rooms-conflict.settled↔no_conflict R

-- can-be-marked is monotone in the marks
pub can_be_marked_is_monotone : (R : List Rule) (A B : Marks) → A ⊆ B → (a : ℕ) → Unmarked B a → CanBeMarked R A a → CanBeMarked R B a
can_be_marked_is_monotone R A B s a u c = can_be_marked_mono A B s a u c

-- until settled, a pass over all atoms in any order marks at least one ..
pub pass_marks_at_least_one : (R : List Rule) (N : ℕ) → HeadsBelow N R
    → (A B : Marks) (l : List ℕ) → ((a : ℕ) → a < N → a ∈ l) → (Settled R A → ⊥) → Pass R A l B
    → (a : ℕ) × CanBeMarked R A a × Marked B a
pass_marks_at_least_one R N below A B l all n p = rooms-existence.pass_marks_one R N below A B l all n p

-- .. so N passes settle
pub n_passes_settle : (R : List Rule) (N : ℕ) → HeadsBelow N R → {A B : Marks} → Passes R N N A B → Settled R B
n_passes_settle R N below p = rooms-existence.passes_settle R N below p

-- with all N atoms marked nothing can be marked
pub all_marked_is_settled : (R : List Rule) (N : ℕ) → HeadsBelow N R → (A : Marks) → ((a : ℕ) → a < N → Marked A a) → Settled R A
all_marked_is_settled R N below A all = rooms-order.all_marked→settled R N below A all

-- 3. The i, t, f, u rule gives Definition 5's value in the smallest model
pub settled_values : (R : List Rule) → OneRulePerHead R → {n : ℕ} {A : Marks} → Marking R n A → Settled R A → (I : Interpretation) → Smallest R I
    → (H : Interpretation) → IsHeld R A H → (a : ℕ) → settled_value A H a ≡ value I (positive a)
settled_values R one k s I i H h a = rooms-smallest.settled_value_is_smallest R one k s I i H h a

-- for a settled marking that no picks could have made it is the value in the held literals, and demand 2 is not claimed
pub settled_values_of_any_marks : (R : List Rule) (A : Marks) → Settled R A
    → (H : Interpretation) → IsHeld R A H → (a : ℕ) → settled_value A H a ≡ value H (positive a)
settled_values_of_any_marks R A s H h a = rooms-settled.settled_value_is R A H h s a

-- 4. P1 to P12
pub examples_say : (e : Example) → e ∈ examples → Says e
examples_say = rooms-examples.all_say

-- "p: a" with a i makes p i, not t: in a model the head of an i body is i
pub inconsistent_body_makes_head_inconsistent : (R : List Rule) (I : Interpretation)
    → Model R I → (ρ : Rule) → ρ ∈ R → body_value I ρ.groups ≡ 𝐢 → value I ρ.head ≡ 𝐢
inconsistent_body_makes_head_inconsistent R I m ρ k e = 𝐢_implies (value I ρ.head) (rw e at (m ρ k))

-- the value of a negation is Table 1's NOT
pub value_of_the_negation : (I : Interpretation) (l : ℕ) → value I (negation l) ≡ not' (value I l)
value_of_the_negation I l = value_negation I l
