-- Pick, settled question and report answer alike for tables that are alike. Assumes nothing.
use mathlib.Core.List.{List}
use mathlib.Core.Path.{◌≡◌, sym, ap, ap₂, ◌∙◌, subst}
use Prim.Native.Nat.{ℕ}
use lib.Dec.{leb}
use lib.ListN.{length}
use Rattle.paper.specs.Rules.{Rule}
use Rattle.paper.specs.Marking.{CanBeMarked, Settled, IsHeld}
use Rattle.refusal.specs.Numbers.{table_too_long}
use Rattle.refusal.specs.Checks.{Checked, Decided, asking, or_else}
use Rattle.refusal.proofs.Questions.{question_same, asked_of}
use Rattle.words.proofs.OnlyLines.{Alike}
use Rattle.records.specs.declared.MarkRecord.{MarkRecord}
use Rattle.records.specs.Records.{record_fault, marks_of}
use Rattle.values.specs.Values.{room_too_small}
use Rattle.picks.specs.Faults.{atom_fault, pick_fault, settled_fault, report_fault}
use Rattle.picks.specs.Entries.{PickAllows, SettledAllows, ReportAllows}
use Rattle.picks.proofs.Determined.{pick_determined, settled_determined, report_determined}
use Rattle.std.specs.Prelude.{Ok, Result}
use Rattle.picks.specs.declared.PickAnswer.{PickAnswer}
use Rattle.refusal.specs.declared.Refusal.{Refusal}

module _ (r : MarkRecord) (t u : List ℕ) (alike : Alike t u) where
  same_pick : (a : ℕ) → pick_fault r u a ≡ pick_fault r t a
  unfolding pick_fault
  same_pick a = ap (λ (c : Checked). or_else (record_fault r) (or_else c (atom_fault r.n a))) (sym (alike.checks r.n))

  same_settled : settled_fault r u ≡ settled_fault r t
  unfolding settled_fault
  same_settled = ap (or_else (record_fault r)) (sym (alike.checks r.n))

  same_report : (room : ℕ) → report_fault r u room ≡ report_fault r t room
  unfolding report_fault
  same_report room =
      ap₂ (λ (n : ℕ) (c : Checked). or_else (record_fault r) (or_else (asking (leb n 8192) table_too_long (Ok tt)) (or_else (room_too_small r.n room) c)))
      (sym alike.lengths) (sym (alike.checks r.n))

  -- what a promise allows for the one it allows for the other
  pick_of : (a : ℕ) {x : Result PickAnswer Refusal} {r' : MarkRecord} → PickAllows r t a x r' → PickAllows r u a x r'
  pick_of a (PickAllows.refused e) = PickAllows.refused (same_pick a ∙ e)
  pick_of a (PickAllows.already_marked e m) = PickAllows.already_marked (same_pick a ∙ e) m
  pick_of a (PickAllows.marked e c) = PickAllows.marked (same_pick a ∙ e) (subst (λ (R : List Rule). CanBeMarked R (marks_of r) a) alike.rules c)
  pick_of a (PickAllows.cannot_be_marked_now e m n) =
      PickAllows.cannot_be_marked_now (same_pick a ∙ e) m (λ c. n (subst (λ (R : List Rule). CanBeMarked R (marks_of r) a) (sym alike.rules) c))

  settled_of : {x : Decided} → SettledAllows r t x → SettledAllows r u x
  settled_of o = question_same same_settled (asked_of (λ (R : List Rule). Settled R (marks_of r)) alike.rules) o

  report_of : (room : List ℕ) {x : Checked} {room' : List ℕ} → ReportAllows r t room x room' → ReportAllows r u room x room'
  report_of room (ReportAllows.refused e) = ReportAllows.refused (same_report (length room) ∙ e)
  report_of room (ReportAllows.before_settled e n) =
      ReportAllows.before_settled (same_report (length room) ∙ e) (λ s. n (subst (λ (R : List Rule). Settled R (marks_of r)) (sym alike.rules) s))
  report_of room (ReportAllows.reported e s H h) =
      ReportAllows.reported (same_report (length room) ∙ e) (subst (λ (R : List Rule). Settled R (marks_of r)) alike.rules s) H
      (subst (λ (R : List Rule). IsHeld R (marks_of r) H) alike.rules h)

  pub pick_alike : (a : ℕ) {x y : Result PickAnswer Refusal} {r' r'' : MarkRecord}
      → PickAllows r t a x r' → PickAllows r u a y r'' → (x ≡ y) × (r' ≡ r'')
  pick_alike a o o' = pick_determined r u a (pick_of a o) o'

  pub settled_alike : {x y : Decided} → SettledAllows r t x → SettledAllows r u y → x ≡ y
  settled_alike o o' = settled_determined r u (settled_of o) o'

  pub report_alike : (room : List ℕ) {x y : Checked} {room' room'' : List ℕ}
      → ReportAllows r t room x room' → ReportAllows r u room y room'' → (x ≡ y) × (room' ≡ room'')
  report_alike room o o' = report_determined r u room (report_of room o) o'
