-- Two outcomes that an entry's promise allows are equal. Assumes nothing.
use mathlib.Core.List.{List}
use mathlib.Core.Path.{◌≡◌, refl, sym, ap, ◌∙◌, fun_ext}
use Prim.Native.Nat.{ℕ}
use lib.Dec.{T_not}
use Rattle.refusal.proofs.Laws.{refused≢accepted}
use Rattle.refusal.proofs.Questions.{question_determined}
use Rattle.paper.specs.Definitions.{Interpretation}
use Rattle.paper.specs.Marking.{settled_value}
use Rattle.sets.proofs.Tests.{same_tests→≡}
use Rattle.records.specs.declared.MarkRecord.{MarkRecord}
use Rattle.refusal.specs.Checks.{Checked, Decided}
use Rattle.records.specs.Records.{marks_of}
use Rattle.picks.specs.Entries.{PickAllows, SettledAllows, ReportAllows}
use Rattle.values.specs.Values.{written}
use Rattle.std.specs.Prelude.{Err, Result}
use Rattle.picks.specs.declared.PickAnswer.{PickAnswer}
use Rattle.refusal.specs.declared.Refusal.{Refusal}

module _ (r : MarkRecord) (t : List ℕ) where
  pub pick_determined : (n : ℕ) {a b : Result PickAnswer Refusal} {x y : MarkRecord}
      → PickAllows r t n a x → PickAllows r t n b y → (a ≡ b) × (x ≡ y)
  pick_determined n (PickAllows.refused {f} e) (PickAllows.refused {f = g} e') = let q : f ≡ g = cc in (ap Err q, refl)
  pick_determined n (PickAllows.refused {f} e) (PickAllows.already_marked e' m) = absurd (refused≢accepted f (sym e ∙ e'))
  pick_determined n (PickAllows.refused {f} e) (PickAllows.marked e' c) = absurd (refused≢accepted f (sym e ∙ e'))
  pick_determined n (PickAllows.refused {f} e) (PickAllows.cannot_be_marked_now e' u c) = absurd (refused≢accepted f (sym e ∙ e'))
  pick_determined n (PickAllows.already_marked e m) (PickAllows.refused {f} e') = absurd (refused≢accepted f (sym e' ∙ e))
  pick_determined n (PickAllows.already_marked e m) (PickAllows.already_marked e' m') = (refl, refl)
  pick_determined n (PickAllows.already_marked e m) (PickAllows.marked e' c) = absurd (T_not (marks_of r n) c.unmarked m)
  pick_determined n (PickAllows.already_marked e m) (PickAllows.cannot_be_marked_now e' u c) = absurd (T_not (marks_of r n) u m)
  pick_determined n (PickAllows.marked e c) (PickAllows.refused {f} e') = absurd (refused≢accepted f (sym e' ∙ e))
  pick_determined n (PickAllows.marked e c) (PickAllows.already_marked e' m) = absurd (T_not (marks_of r n) c.unmarked m)
  pick_determined n (PickAllows.marked e c) (PickAllows.marked e' c') = (refl, refl)
  pick_determined n (PickAllows.marked e c) (PickAllows.cannot_be_marked_now e' u c') = absurd (c' c)
  pick_determined n (PickAllows.cannot_be_marked_now e u c) (PickAllows.refused {f} e') = absurd (refused≢accepted f (sym e' ∙ e))
  pick_determined n (PickAllows.cannot_be_marked_now e u c) (PickAllows.already_marked e' m) = absurd (T_not (marks_of r n) u m)
  pick_determined n (PickAllows.cannot_be_marked_now e u c) (PickAllows.marked e' c') = absurd (c c')
  pick_determined n (PickAllows.cannot_be_marked_now e u c) (PickAllows.cannot_be_marked_now e' u' c') = (refl, refl)

  pub settled_determined : {a b : Decided} → SettledAllows r t a → SettledAllows r t b → a ≡ b
  settled_determined o o' = question_determined o o'

  pub report_determined : (room : List ℕ) {a b : Checked} {x y : List ℕ}
      → ReportAllows r t room a x → ReportAllows r t room b y → (a ≡ b) × (x ≡ y)
  report_determined room (ReportAllows.refused {f} e) (ReportAllows.refused {f = g} e') = let q : f ≡ g = cc in (ap Err q, refl)
  report_determined room (ReportAllows.refused {f} e) (ReportAllows.before_settled e' n) = absurd (refused≢accepted f (sym e ∙ e'))
  report_determined room (ReportAllows.refused {f} e) (ReportAllows.reported e' s H h) = absurd (refused≢accepted f (sym e ∙ e'))
  report_determined room (ReportAllows.before_settled e n) (ReportAllows.refused {f} e') = absurd (refused≢accepted f (sym e' ∙ e))
  report_determined room (ReportAllows.before_settled e n) (ReportAllows.before_settled e' n') = (refl, refl)
  report_determined room (ReportAllows.before_settled e n) (ReportAllows.reported e' s H h) = absurd (n s)
  report_determined room (ReportAllows.reported e s H h) (ReportAllows.refused {f} e') = absurd (refused≢accepted f (sym e' ∙ e))
  report_determined room (ReportAllows.reported e s H h) (ReportAllows.before_settled e' n) = absurd (n s)
  report_determined room (ReportAllows.reported e s H h) (ReportAllows.reported e' s' K k) =
      let same : H ≡ K = fun_ext (λ l. same_tests→≡ (H l) (K l) (λ m. (k l).1 ((h l).0 m)) (λ m. (h l).1 ((k l).0 m))) in
      (refl, ap (λ (J : Interpretation). written (settled_value (marks_of r) J) r.n room) same)
