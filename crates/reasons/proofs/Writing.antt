-- The sheet of a settled marking is what the writer may answer. Assumes nothing.
use mathlib.Core.Bool.{false}
use mathlib.Core.List.{List}
use mathlib.Core.Path.{◌≡◌, refl, ap, subst}
use Prim.Native.Nat.{ℕ, ◌*◌, ◌≤◌, ◌<◌}
use lib.ListN.{length}
use lib.Seq.{sets}
use Rattle.refusal.specs.Numbers.{text_room_too_small}
use Rattle.bits.specs.Sets.{member}
use Rattle.words.specs.Check.{AcceptedTable}
use Rattle.words.specs.Layout.{rules_of}
use Rattle.evaluation.specs.Rounds.{Settling}
use Rattle.reasontext.specs.ReasonSheet.{reason_text}
use Rattle.ranks.specs.declared.Found.{Found}
use Rattle.ranks.specs.Found.{reasons_found}
use Rattle.reasons.specs.Sheet.{lines_found, sheet_by, Printed, does_not_fit, fits}
use Rattle.reasons.specs.Reasons.{ReasonsAllows, no_room, writes}
use Rattle.std.specs.Prelude.{Ok, Err, Result}
use Rattle.refusal.specs.declared.Refusal.{Refusal}

pub printed_none : (sheet room : List ℕ) (needed : ℕ) {r : Result ℕ Refusal} → needed ≡ length sheet → length room < needed
    → r ≡ Err (text_room_too_small needed) → Printed sheet room r room
printed_none sheet room needed e lt er = rw (er, e) (does_not_fit (subst (λ (x : ℕ). length room < x) e lt))

pub printed_fits : (sheet room : List ℕ) (needed : ℕ) {room' : List ℕ} → needed ≡ length sheet → needed ≤ length room
    → room' ≡ sets room 0 sheet
    → Printed sheet room (Ok needed) room'
printed_fits sheet room needed e le er = rw (er, e) (fits (subst (λ (x : ℕ). x ≤ length room) e le))

module _ (N : ℕ) (t room : List ℕ) (a : AcceptedTable N t) (m h : List ℕ) (s : Settling (rules_of t) m h false) where
  by_sheet : {r : Result ℕ Refusal} {room' : List ℕ} → Printed (sheet_by N (rules_of t) (member m)) room r room' → ReasonsAllows N t room r room'
  by_sheet (does_not_fit lt) = no_room a (member m) s.begun.marking (s.settled refl).1 lt
  by_sheet (fits le) = writes a (member m) s.begun.marking (s.settled refl).1 le

  pub printed_allowed : {found : Found} {r : Result ℕ Refusal} {room' : List ℕ} → found ≡ reasons_found (rules_of t) (member m)
      → Printed (reason_text (lines_found found (2 * N))) room r room'
      → ReasonsAllows N t room r room'
  unfolding sheet_by
  printed_allowed {r = r} {room' = room'} e p =
      by_sheet (subst (λ (x : List ℕ). Printed x room r room') (ap (λ (x : Found). reason_text (lines_found x (2 * N))) e) p)
