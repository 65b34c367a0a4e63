-- Two outcomes that the writer's promise allows are equal, also for tables that are alike. Assumes nothing.
use mathlib.Core.List.{List}
use mathlib.Core.Path.{◌≡◌, refl, sym, ap, ◌∙◌, subst, fun_ext}
use Prim.Native.Nat.{ℕ, ◌≤◌, ◌<◌}
use native.Mathlib.Omega.{arith}
use lib.ListN.{length}
use lib.Seq.{sets}
use Rattle.refusal.specs.declared.Refusal.{Refusal}
use Rattle.refusal.specs.Numbers.{text_room_too_small}
use Rattle.refusal.proofs.Laws.{refused≢accepted}
use Rattle.paper.specs.Rules.{Rule}
use Rattle.paper.specs.Marking.{Marks, Marking, Settled}
use Rattle.paper.proofs.Theorems.{order_never_matters}
use Rattle.words.specs.Check.{AcceptedTable}
use Rattle.words.specs.Layout.{rules_of}
use Rattle.words.proofs.OnlyLines.{Alike}
use Rattle.reasons.specs.Sheet.{sheet_by}
use Rattle.reasons.specs.Reasons.{ReasonsAllows, refused, no_room, writes}
use Rattle.std.specs.Prelude.{Ok, Err, Result}

-- one settled marking, and so one sheet
same_sheet : (N : ℕ) (R : List Rule) {n m : ℕ} (A B : Marks) → Marking R n A → Settled R A → Marking R m B → Settled R B
    → sheet_by N R A ≡ sheet_by N R B
same_sheet N R A B k s k' s' = ap (sheet_by N R) (fun_ext (order_never_matters R A B k s k' s'))

module _ (N : ℕ) (t room : List ℕ) where
  pub reasons_determined : {x y : Result ℕ Refusal} {room' room'' : List ℕ} → ReasonsAllows N t room x room' → ReasonsAllows N t room y room''
      → (x ≡ y) × (room' ≡ room'')
  reasons_determined (refused {f} e) (refused {f = g} e') = let q : f ≡ g = cc in (ap Err q, refl)
  reasons_determined (refused {f} e) (no_room e' A m s lt) = absurd (refused≢accepted f (sym e ∙ e'))
  reasons_determined (refused {f} e) (writes e' A m s le) = absurd (refused≢accepted f (sym e ∙ e'))
  reasons_determined (no_room e A m s lt) (refused {f} e') = absurd (refused≢accepted f (sym e' ∙ e))
  reasons_determined (no_room e A m s lt) (no_room e' B m' s' lt') =
      (ap (λ (z : List ℕ). Err (text_room_too_small (length z))) (same_sheet N (rules_of t) A B m s m' s'), refl)
  reasons_determined (no_room e A m s lt) (writes e' B m' s' le) =
      let q = ap length (same_sheet N (rules_of t) A B m s m' s') in absurd (omega arith)
  reasons_determined (writes e A m s le) (refused {f} e') = absurd (refused≢accepted f (sym e' ∙ e))
  reasons_determined (writes e A m s le) (no_room e' B m' s' lt) =
      let q = ap length (same_sheet N (rules_of t) A B m s m' s') in absurd (omega arith)
  reasons_determined (writes e A m s le) (writes e' B m' s' le') =
      let q = same_sheet N (rules_of t) A B m s m' s' in
      (ap (λ (z : List ℕ). Ok (length z)) q, ap (sets room 0) q)

module _ (N : ℕ) (t u room : List ℕ) (alike : Alike t u) where
  marking : {n : ℕ} (A : Marks) → Marking (rules_of t) n A → Marking (rules_of u) n A
  marking {n} A m = subst (λ (R : List Rule). Marking R n A) alike.rules m

  settled : (A : Marks) → Settled (rules_of t) A → Settled (rules_of u) A
  settled A s = subst (λ (R : List Rule). Settled R A) alike.rules s

  -- what the promise allows for the one it allows for the other
  pub reasons_of : {x : Result ℕ Refusal} {room' : List ℕ} → ReasonsAllows N t room x room' → ReasonsAllows N u room x room'
  reasons_of (refused e) = refused (sym (alike.checks N) ∙ e)
  reasons_of (no_room e A m s lt) =
      subst (λ (z : List ℕ). ReasonsAllows N u room (Err (text_room_too_small (length z))) room)
      (ap (λ (S : List Rule). sheet_by N S A) (sym alike.rules))
      (no_room (sym (alike.checks N) ∙ e) A (marking A m) (settled A s)
      (subst (λ (S : List Rule). length room < length (sheet_by N S A)) alike.rules lt))
  reasons_of (writes e A m s le) =
      subst (λ (z : List ℕ). ReasonsAllows N u room (Ok (length z)) (sets room 0 z))
      (ap (λ (S : List Rule). sheet_by N S A) (sym alike.rules))
      (writes (sym (alike.checks N) ∙ e) A (marking A m) (settled A s)
      (subst (λ (S : List Rule). length (sheet_by N S A) ≤ length room) alike.rules le))

  pub reasons_alike : {x y : Result ℕ Refusal} {room' room'' : List ℕ} → ReasonsAllows N t room x room' → ReasonsAllows N u room y room''
      → (x ≡ y) × (room' ≡ room'')
  reasons_alike o o' = reasons_determined N u room (reasons_of o) o'

-- a length that the writer asks for by 15 serves it
pub learnt_length_serves : (N : ℕ) (t none room : List ℕ) {x y : Result ℕ Refusal} {k : ℕ} {none' room' : List ℕ} → ReasonsAllows N t none x none'
    → x ≡ Err (text_room_too_small k) → k ≤ length room → ReasonsAllows N t room y room' → AcceptedTable N t
    → y ≡ Ok k
learnt_length_serves N t none room {k = k} (refused {f} e) q le o a = absurd (refused≢accepted f (sym e ∙ a))
learnt_length_serves N t none room {k = k} (no_room e A m s lt) q le o a = served o
  where
    same : length (sheet_by N (rules_of t) A) ≡ k
    same = let w : text_room_too_small (length (sheet_by N (rules_of t) A)) ≡ text_room_too_small k = cc in ap (λ (r : Refusal). r.place) w

    served : {y : Result ℕ Refusal} {room' : List ℕ} → ReasonsAllows N t room y room' → y ≡ Ok k
    served (refused {f} e') = absurd (refused≢accepted f (sym e' ∙ a))
    served (no_room e' B m' s' lt') = let z = ap length (same_sheet N (rules_of t) A B m s m' s') in absurd (omega (arith, same))
    served (writes e' B m' s' le') = ap Ok (ap length (sym (same_sheet N (rules_of t) A B m s m' s')) ∙ same)
learnt_length_serves N t none room {k = k} (writes e A m s le') q le o a = let z : ◌≡◌ {A = ℕ} 0 1 = cc in absurd (omega arith)
