-- The settled marking's values are those of the smallest well-supported model. Assumes nothing.
use mathlib.Core.Bool.{Bool, false}
use mathlib.Core.List.{List}
use mathlib.Core.Path.{◌≡◌, refl, ap, ◌∙◌, sym, subst, subst⁻¹, fun_ext}
use Prim.Native.Nat.{ℕ, ◌≤◌}
use lib.Dec.{T, leb}
use lib.ListN.{length, replicate, length-replicate}
use borrow.Author.Tests.{leb-true, le-leb}
use Rattle.refusal.specs.Numbers.{too_many_atoms, value_room_too_small}
use Rattle.refusal.specs.Checks.{or_else}
use Rattle.words.specs.Check.{table_check, AcceptedTable, table_too_long_fault, too_many_atoms_fault}
use Rattle.words.specs.Layout.{rules_of}
use Rattle.refusal.proofs.Laws.{asking_accepted, or_else_accepted}
use Rattle.words.proofs.Laws.{accepted_one_rule, accepted_atoms, accepted_length}
use Rattle.paper.specs.Rules.{Rule, HeadsBelow, atom, positive}
use Rattle.paper.specs.Definitions.{value}
use Rattle.paper.specs.Marking.{IsHeld, IsClean, Marking, none, settled_value}
use Rattle.paper.proofs.Leasts.{clean→held, held→clean}
use Rattle.paper.proofs.Settled.{settled_value_is}
use Rattle.paper.proofs.Smallest.{settled_smallest}
use Rattle.bits.specs.Sets.{member}
use Rattle.bits.proofs.Laws.{member_of_zeros}
use Rattle.index.specs.Index.{FactsOf}
use Rattle.pending.specs.declared.Taking.{Taking}
use Rattle.pending.specs.Pending.{PairsOf, begun, Closed}
use Rattle.pending.proofs.Marked.{clean_there}
use Rattle.values.specs.Values.{room_too_small, written}
use Rattle.evaluation.specs.Evaluation.{evaluation_fault, EvaluationAllows}
use Rattle.evaluation.specs.declared.Unsettled.{Unsettled}
use Rattle.evaluation.specs.Rounds.{RoundOver, MarkedAll, Begun, Settling, Standing}
use Rattle.evaluation.proofs.Rounds.{round_settles, standing_on}
use Rattle.std.specs.Prelude.{Ok}

-- no marks, nothing held yet
begins : (R : List Rule) → Begun R (replicate 8 0) (replicate 16 0)
begins R =
    record {
      marks_length = refl;
      held_length = refl;
      made = 0;
      marking = subst⁻¹ (λ (A : ℕ → Bool). Marking R 0 A) (fun_ext (member_of_zeros 8)) none;
      held = λ l t. absurd (subst T (member_of_zeros 16 l) t);
    }

-- the literals of no marks
pub no_pairs : PairsOf (replicate 16 0) (member (replicate 8 0))
no_pairs l = member_of_zeros 16 l ∙ sym (member_of_zeros 8 (atom l))

-- closed from the facts with nothing shut out: the clean literals of no marks, and the held ones
pub first_clean : (t f : List ℕ) (p : Taking) → FactsOf t f → Closed t (begun f) (replicate 16 0) p
    → IsClean (rules_of t) (member (replicate 8 0)) (member p.taken)
first_clean t f p facts c = clean_there (member (replicate 8 0)) t f (replicate 16 0) p facts no_pairs c

pub clean_held : (R : List Rule) (h : List ℕ) → IsClean R (member (replicate 8 0)) (member h) → IsHeld R (member (replicate 8 0)) (member h)
clean_held R h clean l =
    ((λ t. clean→held (member (replicate 8 0)) ((clean l).0 t)), λ d. (clean l).1 (held→clean (member (replicate 8 0)) (member_of_zeros 8) d))

-- the first round: with no marks the clean literals are the held ones
pub first_round : (R : List Rule) (n : ℕ) → HeadsBelow n R → n ≤ 512
    → (h s' : List ℕ) (any : Bool) → length h ≡ 16 → IsClean R (member (replicate 8 0)) (member h)
    → RoundOver (replicate 8 0) (member h) (member h) n any s' → Settling R s' h any
first_round R n below le h s' any len clean o =
    round_settles R n below le (replicate 8 0) s' (replicate 16 0) h any (begins R)
    (record {
      held_length = len;
      held = clean_held R h clean;
      clean = member h;
      clean_is = clean;
      over = o;
    })

-- .. and all stands for the marks that it made
module _ (t f : List ℕ) (n : ℕ) (below : HeadsBelow n (rules_of t)) (le : n ≤ 512) (facts : FactsOf t f) (p : Taking)
    (closed : Closed t (begun f) (replicate 16 0) p) (m : Unsettled) (any : Bool)
    (all : MarkedAll (record { marks = replicate 8 0; shut = replicate 16 0; held = p }) (member p.taken) n any m) where
  pub first_settles : Settling (rules_of t) m.marks m.held.taken any
  first_settles =
      subst⁻¹ (λ (h : List ℕ). Settling (rules_of t) m.marks h any) all.taken
      (first_round (rules_of t) n below le p.taken m.marks any closed.working.taken_row (first_clean t f p facts closed) all.over)

  pub first_stands : Standing t m
  first_stands =
      standing_on t n le (record { marks = replicate 8 0; shut = replicate 16 0; held = p }) m (member p.taken) any
      (length-replicate {A = ℕ} 8 0) (length-replicate {A = ℕ} 16 0) no_pairs closed.working closed.none_ready
      (clean_held (rules_of t) p.taken (first_clean t f p facts closed)) all

pub evaluation_accepted : (N : ℕ) (t : List ℕ) (room : ℕ) → evaluation_fault N t room ≡ Ok tt → (N ≤ 512) × AcceptedTable N t × (N ≤ room)
unfolding evaluation_fault
evaluation_accepted N t room e =
    let p = or_else_accepted (too_many_atoms_fault N) (or_else (table_too_long_fault t) (or_else (room_too_small N room) (table_check N t))) e in
    let q = or_else_accepted (table_too_long_fault t) (or_else (room_too_small N room) (table_check N t)) p.1 in
    let r = or_else_accepted (room_too_small N room) (table_check N t) q.1 in
    let a = asking_accepted (leb N 512) too_many_atoms (Ok tt) p.0 in
    let s = asking_accepted (leb N room) value_room_too_small (Ok tt) r.0 in
    (leb-true N 512 a.0, r.1, leb-true N room s.0)

pub settled_evaluates : (N : ℕ) (t room m h room' : List ℕ) → evaluation_fault N t (length room) ≡ Ok tt → Settling (rules_of t) m h false
    → room' ≡ written (settled_value (member m) (member h)) N room → EvaluationAllows N t room (Ok tt) room'
settled_evaluates N t room m h room' e s w =
    let a = evaluation_accepted N t (length room) e in
    let q = s.settled refl in
    let v : settled_value (member m) (member h) ≡ (λ x. value (member h) (positive x)) =
    fun_ext (settled_value_is (rules_of t) (member m) (member h) q.0 q.1) in
    subst⁻¹ (EvaluationAllows N t room (Ok tt)) (w ∙ ap (λ f. written f N room) v)
    (EvaluationAllows.evaluated e (member h) (settled_smallest (rules_of t) (accepted_one_rule N t a.1) s.begun.marking q.1 (member h) q.0))

-- and an accepted table with room for N values has no fault
pub accepted_evaluation : (N : ℕ) (t : List ℕ) (room : ℕ) → AcceptedTable N t → N ≤ room → evaluation_fault N t room ≡ Ok tt
unfolding evaluation_fault
accepted_evaluation N t room a le =
    rw (le-leb N 512 (accepted_atoms N t a), le-leb (length t) 8192 (accepted_length N t a), le-leb N room le) a
