-- An evaluation is settled with N marks made; what an outcome of it tells, and that two allowed outcomes are equal. Assumes nothing.
use mathlib.Core.List.{List}
use mathlib.Core.Path.{◌≡◌, refl, sym, ap, ◌∙◌}
use Prim.Native.Nat.{ℕ}
use native.Mathlib.Omega.{arith}
use lib.Dec.{leb}
use lib.ListN.{length}
use Rattle.refusal.specs.declared.Refusal.{Refusal}
use Rattle.refusal.specs.Numbers.{too_many_atoms, table_too_long, value_room_too_small}
use Rattle.refusal.specs.Checks.{Checked, or_else}
use Rattle.words.specs.Check.{table_check, AcceptedTable, table_too_long_fault, too_many_atoms_fault}
use Rattle.words.specs.Layout.{rules_of}
use Rattle.refusal.proofs.Laws.{refused≢accepted}
use Rattle.words.proofs.Laws.{accepted_heads}
use Rattle.refusal.proofs.Places.{PlacesTo, asking_to, or_else_to}
use Rattle.words.proofs.Bounds.{check_within}
use Rattle.paper.specs.Rules.{positive}
use Rattle.paper.specs.Definitions.{Interpretation, value, Smallest}
use Rattle.paper.specs.Marking.{Marks, Marking, Settled}
use Rattle.paper.proofs.Order.{marking_count, all_marked→settled}
use Rattle.sets.proofs.Counting.{count_full}
use Rattle.paper.proofs.Smallest.{smallest_unique}
use Rattle.values.specs.Values.{room_too_small, written}
use Rattle.evaluation.specs.Evaluation.{evaluation_fault, EvaluationAllows, refused, evaluated}
use Rattle.std.specs.Prelude.{Ok, Err}

-- with N marks made an evaluation is settled
pub always_settles : (N : ℕ) (t : List ℕ) → AcceptedTable N t → (A : Marks) → Marking (rules_of t) N A → Settled (rules_of t) A
always_settles N t accepted A m =
    let below = accepted_heads N t accepted in
    all_marked→settled (rules_of t) N below A (count_full N A (let c = marking_count (rules_of t) N below m in omega arith))

pub refused_is : (N : ℕ) (t room room' : List ℕ) (ans : Checked) (r : Refusal) → EvaluationAllows N t room ans room' → ans ≡ Err r
    → (evaluation_fault N t (length room) ≡ Err r) × (room' ≡ room)
refused_is N t room room' ans r (refused {f} e) p = let q : f ≡ r = cc in (e ∙ ap Err q, refl)
refused_is N t room room' ans r (evaluated e I s) p = let z : ◌≡◌ {A = ℕ} 0 1 = cc in absurd (omega arith)

pub evaluated_is : (N : ℕ) (t room room' : List ℕ) (ans : Checked) → EvaluationAllows N t room ans room' → ans ≡ Ok tt
    → (evaluation_fault N t (length room) ≡ Ok tt)
    × ((I : Interpretation) × Smallest (rules_of t) I × (room' ≡ written (λ a. value I (positive a)) N room))
evaluated_is N t room room' ans (refused {f} e) p = let z : ◌≡◌ {A = ℕ} 0 1 = cc in absurd (omega arith)
evaluated_is N t room room' ans (evaluated e I s) p = (e, (I, s, refl))

-- two outcomes that the promise allows are equal
pub evaluation_determined : (N : ℕ) (t room : List ℕ) {a b : Checked} {x y : List ℕ}
    → EvaluationAllows N t room a x → EvaluationAllows N t room b y → (a ≡ b) × (x ≡ y)
evaluation_determined N t room (refused {f} e) (refused {f = g} e') = let q : f ≡ g = cc in (ap Err q, refl)
evaluation_determined N t room (refused {f} e) (evaluated e' I s) = absurd (refused≢accepted f (sym e ∙ e'))
evaluation_determined N t room (evaluated e I s) (refused {f} e') = absurd (refused≢accepted f (sym e' ∙ e))
evaluation_determined N t room (evaluated e I s) (evaluated e' J s') =
    (refl, ap (λ (K : Interpretation). written (λ a. value K (positive a)) N room) (smallest_unique (rules_of t) I J s s'))

-- a refusal's number and place have bounds
pub evaluation_within : (N : ℕ) (t : List ℕ) (room : ℕ) → PlacesTo 8192 (evaluation_fault N t room)
unfolding evaluation_fault
evaluation_within N t room =
    or_else_to 8192 (too_many_atoms_fault N) (or_else (table_too_long_fault t) (or_else (room_too_small N room) (table_check N t)))
    (asking_to 8192 (leb N 512) too_many_atoms (Ok tt) (omega arith, omega arith, omega arith) tt)
    (or_else_to 8192 (table_too_long_fault t) (or_else (room_too_small N room) (table_check N t))
    (asking_to 8192 (leb (length t) 8192) table_too_long (Ok tt) (omega arith, omega arith, omega arith) tt)
    (or_else_to 8192 (room_too_small N room) (table_check N t)
    (asking_to 8192 (leb N room) value_room_too_small (Ok tt) (omega arith, omega arith, omega arith) tt) (check_within N t)))
