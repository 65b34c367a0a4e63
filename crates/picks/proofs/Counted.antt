-- The stored count is the number of marks after every pick, whatever the table; with N marks counted nothing can be marked. Assumes nothing.
use mathlib.Core.List.{List}
use mathlib.Core.Logic.{◌⊎◌, inl, inr}
use mathlib.Core.Path.{◌≡◌, refl, sym, ap, ◌∙◌}
use Prim.Native.Nat.{ℕ, ◌+◌}
use native.Mathlib.Omega.{arith}
use lib.ListN.{length}
use Rattle.words.specs.Check.{AcceptedTable}
use Rattle.words.specs.Layout.{rules_of}
use Rattle.words.proofs.Laws.{accepted_heads}
use Rattle.paper.specs.Marking.{Settled}
use Rattle.paper.proofs.Order.{all_marked→settled}
use Rattle.bits.proofs.Laws.{length_put_in}
use Rattle.records.specs.declared.MarkRecord.{MarkRecord}
use Rattle.records.specs.Records.{record_fault, marks_of, marks_counted, no_marks_for}
use Rattle.records.proofs.Laws.{record_good, none_counted, all_marked, one_more_counted}
use Rattle.picks.specs.Entries.{PickAllows}
use Rattle.picks.specs.Traces.{Picks, no_picks, then_picks}
use Rattle.picks.proofs.Accepted.{pick_accepted}
use Rattle.std.specs.Prelude.{Ok, Result}
use Rattle.picks.specs.declared.PickAnswer.{PickAnswer}
use Rattle.refusal.specs.declared.Refusal.{Refusal}

-- eight words of marks, and their number as the count
pub record Counted (r : MarkRecord) : Type 0 where
  pub eight : length r.marks ≡ 8
  pub true_count : r.count ≡ marks_counted r

pub fresh_counted : (N : ℕ) → Counted (no_marks_for N)
fresh_counted N = record { eight = refl; true_count = none_counted N }

-- one more counted exactly where the answer is `marked`; else the record is as it was
pub answer_tells_count : {r : MarkRecord} {t : List ℕ} {a : ℕ} {r' : MarkRecord} {answer : Result PickAnswer Refusal} → PickAllows r t a answer r'
    → ((answer ≡ (Ok PickAnswer.Marked)) × (r'.count ≡ r.count + 1)) ⊎ ((answer ≡ (Ok PickAnswer.Marked) → ⊥) × (r' ≡ r))
answer_tells_count (PickAllows.refused e) = inr ((λ p. let z : ◌≡◌ {A = ℕ} 0 1 = cc in absurd (omega arith)), refl)
answer_tells_count (PickAllows.already_marked e m) = inr ((λ p. let z : ◌≡◌ {A = ℕ} 0 1 = cc in absurd (omega arith)), refl)
answer_tells_count (PickAllows.marked e c) = inl (refl, refl)
answer_tells_count (PickAllows.cannot_be_marked_now e u n) = inr ((λ p. let z : ◌≡◌ {A = ℕ} 0 1 = cc in absurd (omega arith)), refl)

-- a count that was true before a pick is true after it
pub pick_counted : {r : MarkRecord} {t : List ℕ} {a : ℕ} {r' : MarkRecord} {answer : Result PickAnswer Refusal}
    → Counted r → PickAllows r t a answer r' → Counted r'
pick_counted c (PickAllows.refused e) = c
pick_counted c (PickAllows.already_marked e m) = c
pick_counted c (PickAllows.cannot_be_marked_now e u n) = c
pick_counted {r} {t = t} {a = a} c (PickAllows.marked e m) =
    let p = pick_accepted r t a e in
    let le = (record_good r p.0).at_most_512 in
    let lt = p.2 in
    record {
      eight = length_put_in r.marks a ∙ c.eight;
      true_count = ap (λ (x : ℕ). x + 1) c.true_count ∙ sym (one_more_counted r c.eight a (omega arith) m.unmarked);
    }

pub picks_counted : {t : List ℕ} {r r' : MarkRecord} {l : List ℕ} → Counted r → Picks t r l r' → Counted r'
picks_counted c no_picks = c
picks_counted c (then_picks p ps) = picks_counted (pick_counted c p) ps

-- a record without fault whose count is N is settled, for every accepted table for N
pub all_counted_settled : (r : MarkRecord) → record_fault r ≡ Ok tt → r.count ≡ r.n → (t : List ℕ) → AcceptedTable r.n t
    → Settled (rules_of t) (marks_of r)
all_counted_settled r e full t accepted =
    all_marked→settled (rules_of t) r.n (accepted_heads r.n t accepted) (marks_of r) (all_marked r e full)
