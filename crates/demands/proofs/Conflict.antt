-- The question of conflict beside evaluation and the settled question.
use mathlib.Core.Bool.{Bool, true, false}
use mathlib.Core.List.{List}
use mathlib.Core.Logic.Iff
use mathlib.Core.Logic.{◌↔◌}
use mathlib.Core.Path.{◌≡◌, refl, sym, ap, ◌∙◌, fun_ext}
use Prim.Native.Nat.{ℕ, ◌<◌}
use lib.Dec.{leb}
use lib.ListN.{length, get_or}
use borrow.Author.Tests.{leb-true}
use Rattle.refusal.specs.declared.Refusal.{Refusal}
use Rattle.refusal.specs.Checks.{Checked, Decided, or_else}
use Rattle.refusal.proofs.Laws.{or_else_accepted, refused≢accepted}
use Rattle.refusal.proofs.Questions.{question_determined, question_same, asked_of, question_opposite, opposite, opposite_twice, yes_exactly_if}
use Rattle.words.specs.Check.{table_check, AcceptedTable}
use Rattle.words.specs.Layout.{rules_of}
use Rattle.words.proofs.Laws.{accepted_one_rule, accepted_heads}
use Rattle.paper.specs.Table1.{code}
use Rattle.paper.specs.Rules.{positive}
use Rattle.paper.specs.Definitions.{Interpretation, value, Smallest}
use Rattle.paper.specs.Marking.{Settled, no_marks, Conflict}
use Rattle.paper.proofs.Values.{code2→𝐢}
use Rattle.paper.proofs.Order.{can_be_marked_below}
use Rattle.paper.proofs.Conflict.{conflict→can, settled↔no_conflict, conflict→inconsistent, inconsistent→conflict}
use Rattle.bits.proofs.Laws.{member_of_zeros}
use Rattle.records.specs.Records.{record_fault, marks_of, no_marks_for}
use Rattle.records.proofs.Laws.{fresh_good}
use Rattle.values.specs.Values.{written}
use Rattle.values.proofs.Written.{written_at}
use Rattle.picks.specs.Faults.{settled_fault}
use Rattle.picks.specs.Entries.{SettledAllows}
use Rattle.conflict.specs.Conflict.{ConflictAllows}
use Rattle.evaluation.specs.Evaluation.{evaluation_fault, EvaluationAllows}
use Rattle.evaluation.proofs.Evaluated.{evaluation_accepted}
use Rattle.evaluation.proofs.Laws.{evaluated_is}
use Rattle.host.specs.Bytes.{words_in, lone_byte, then_lone_byte}
use Rattle.host.specs.Evaluation.{host_fault, HostEvaluation}
use Rattle.host.specs.Conflict.{host_table_fault, HostConflict}
use Rattle.host.proofs.Determined.{host_accepted, zero_exactly_if_accepted}
use Rattle.host.proofs.Conflict.{one_exactly_if_conflict}
use Rattle.std.specs.Prelude.{Ok, Err}

-- the values written tell whether there is a conflict
pub codes_tell : (N : ℕ) (t room : List ℕ) → AcceptedTable N t → (I : Interpretation) → Smallest (rules_of t) I
    → Conflict (rules_of t) ↔ ((a : ℕ) × (a < N) × (get_or (written (λ a. value I (positive a)) N room) a 0 ≡ 2))
codes_tell N t room accepted I smallest =
    let one = accepted_one_rule N t accepted in
    let below = accepted_heads N t accepted in
    let codes = written_at (λ a. value I (positive a)) N room in (
      (λ c.
          let lt = can_be_marked_below (rules_of t) N below no_marks c.0 (conflict→can (rules_of t) c) in
          (c.0, lt, codes c.0 lt ∙ ap code (conflict→inconsistent (rules_of t) one I smallest c))),
      λ x. inconsistent→conflict (rules_of t) one I smallest x.0 (code2→𝐢 (value I (positive x.0)) (sym (codes x.0 x.1) ∙ x.2)),
    )

pub evaluation_codes_tell : (N : ℕ) (t room : List ℕ) {answer : Decided} {room' : List ℕ} → ConflictAllows N t answer
    → EvaluationAllows N t room (Ok tt) room' → (answer ≡ Ok true) ↔ ((a : ℕ) × (a < N) × (get_or room' a 0 ≡ 2))
evaluation_codes_tell N t room {room' = room'} o e =
    let q = evaluated_is N t room room' (Ok tt) e refl in
    let accepted = (evaluation_accepted N t (length room) q.0).1 in
    Iff.trans (yes_exactly_if accepted o) (rw q.1.2 (codes_tell N t room accepted q.1.0 q.1.1))

-- the host's evaluation of bytes that it accepts
module _ (N : ℕ) (bytes room : List ℕ) (accepted : host_fault N (words_in bytes) (lone_byte bytes) (length room) ≡ Ok tt) where
  host_evaluated : {answer : ℕ} {room' : List ℕ} → HostEvaluation N bytes room answer room'
      → (I : Interpretation) × Smallest (rules_of (words_in bytes)) I × (room' ≡ written (λ a. value I (positive a)) N room)
  host_evaluated (HostEvaluation.refused {f} e) = absurd (refused≢accepted f (sym e ∙ accepted))
  host_evaluated (HostEvaluation.evaluated e I s) = (I, s, refl)

  table_accepted : host_table_fault N (words_in bytes) (lone_byte bytes) ≡ Ok tt
  unfolding host_fault host_table_fault
  table_accepted =
      rw (host_accepted N (words_in bytes) (lone_byte bytes) (length room) accepted)
      (or_else_accepted (evaluation_fault N (words_in bytes) (length room)) (then_lone_byte (Ok tt) (length (words_in bytes)) (lone_byte bytes)) accepted).1

pub host_codes_tell : (N : ℕ) (bytes room : List ℕ) {answer : ℕ} {room' : List ℕ} → HostConflict N bytes answer
    → HostEvaluation N bytes room 0 room' → (answer ≡ 1) ↔ ((a : ℕ) × (a < N) × (get_or room' a 0 ≡ 2))
host_codes_tell N bytes room o e =
    let accepted = (zero_exactly_if_accepted N bytes room e).0 refl in
    let q = host_evaluated N bytes room accepted e in
    let table = host_accepted N (words_in bytes) (lone_byte bytes) (length room) accepted in
    Iff.trans (one_exactly_if_conflict N bytes (table_accepted N bytes room accepted) o)
    (rw q.2 (codes_tell N (words_in bytes) room table q.0 q.1))

-- a fresh record is refused as the table is
fresh_above : (N : ℕ) (t : List ℕ) → leb N 512 ≡ false → or_else (record_fault (no_marks_for N)) (table_check N t) ≡ table_check N t
unfolding record_fault table_check
fresh_above N t p = rw p refl

fresh_fault : (N : ℕ) (t : List ℕ) → settled_fault (no_marks_for N) t ≡ table_check N t
unfolding settled_fault
fresh_fault N t = go (leb N 512) refl
  where
    go : (b : Bool) → leb N 512 ≡ b → or_else (record_fault (no_marks_for N)) (table_check N t) ≡ table_check N t
    go true e =
        ap (λ (c : Checked). or_else c (table_check N t)) (fresh_good N (leb-true N 512 e))
    go false e = fresh_above N t e

-- and is settled exactly if there is no conflict, so that each answer tells the other
module _ (N : ℕ) (t : List ℕ) {x y : Decided} (o : ConflictAllows N t x) (o' : SettledAllows (no_marks_for N) t y) where
  settled_is_opposite : y ≡ opposite x
  settled_is_opposite =
      let none : marks_of (no_marks_for N) ≡ no_marks = fun_ext (member_of_zeros 8) in
      question_determined (question_same (sym (fresh_fault N t)) (asked_of (Settled (rules_of t)) none) o')
      (question_opposite (settled↔no_conflict (rules_of t)) o)

  conflict_is_opposite : x ≡ opposite y
  conflict_is_opposite = sym (ap opposite settled_is_opposite ∙ opposite_twice x)

  pub answers_tell : ((x ≡ Ok true) ↔ (y ≡ Ok false)) × ((x ≡ Ok false) ↔ (y ≡ Ok true))
      × ((f : Refusal) → (x ≡ Err f) ↔ (y ≡ Err f))
  answers_tell = (
    ((λ p. settled_is_opposite ∙ ap opposite p), λ p. conflict_is_opposite ∙ ap opposite p),
    ((λ p. settled_is_opposite ∙ ap opposite p), λ p. conflict_is_opposite ∙ ap opposite p),
    λ f. ((λ p. settled_is_opposite ∙ ap opposite p), λ p. conflict_is_opposite ∙ ap opposite p),
  )
