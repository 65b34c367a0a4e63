-- The host's answers from what the writer of reason sheets does. Assumes nothing.
use mathlib.Core.Bool.{Bool, true, false, cond}
use mathlib.Core.List.{List}
use mathlib.Core.Logic.{⊎_elim}
use mathlib.Core.Path.{◌≡◌, refl, sym, ap, ◌∙◌, subst, subst⁻¹}
use Prim.Native.Nat.{ℕ, ◌/◌, ◌%◌, ◌≤◌, ◌<◌}
use native.Mathlib.Omega.{arith}
use lib.Dec.{leb}
use lib.ListN.{length}
use borrow.Author.Tests.{eq-eqb, ne_eqb}
use Rattle.refusal.specs.declared.Refusal.{Refusal}
use Rattle.refusal.specs.Checks.{Checked}
use Rattle.refusal.proofs.Laws.{or_else_nothing}
use Rattle.words.specs.Check.{table_check}
use Rattle.host.specs.Bytes.{words_in, lone_byte, then_lone_byte}
use Rattle.host.specs.Evaluation.{packed}
use Rattle.host.specs.Conflict.{host_table_fault}
use Rattle.host.specs.WholeWords.{Packable, too_long_answer}
use Rattle.host.proofs.Bytes.{length_words_in}
use Rattle.host.proofs.Conflict.{check_packable, conflict_too_long, conflict_answer_tells}
use Rattle.reasons.specs.Reasons.{ReasonsAllows, no_room, writes}
use Rattle.reasons.proofs.Accepted.{sheet_within}
use Rattle.hostreasons.specs.ReasonBytes.{packed_number, HostReasons}
use Rattle.hostreasons.specs.Readable.{NumberedPackable}
use Rattle.std.specs.Prelude.{Ok, Err, Result}

-- a refusal has room in the answer
abbrev Fits : Result ℕ Refusal → Type 0
Fits (Ok k) = Unit {0}
Fits (Err f) = Packable f

module _ (N : ℕ) (t room : List ℕ) where
  reasons_fit : {r : Result ℕ Refusal} {room' : List ℕ} → ReasonsAllows N t room r room' → Fits r
  reasons_fit (ReasonsAllows.refused {f} e) = check_packable N t (table_check N t) refl f e
  reasons_fit (no_room e A m s lt) = let w = sheet_within N t e A m s in record { number_small = omega arith; place_small = omega arith }
  reasons_fit (writes e A m s le) = tt

  pub reasons_packable : (r : Result ℕ Refusal) {room' : List ℕ} → ReasonsAllows N t room r room' → NumberedPackable r
  reasons_packable r o f e = subst Fits e (reasons_fit o)

module _ (N : ℕ) (bs room : List ℕ) where
  pub reasons_too_long : (a : ℕ) → 8192 < length bs / 2 → a ≡ too_long_answer N → HostReasons N bs room a room
  reasons_too_long a h e =
      ⊎_elim (λ q. absurd (not_small (leb N 512) (omega (arith, sym e ∙ q.2))))
      (⊎_elim (λ q. absurd (not_small (leb N 512) (omega (arith, sym e ∙ q.2))))
      (λ q. subst⁻¹ (λ (x : ℕ). HostReasons N bs room x room) q.2 (HostReasons.refused q.1)))
      (conflict_answer_tells N bs (conflict_too_long N bs a h e))
    where
      not_small : (b : Bool) → cond b 8589934592 4294967296 ≤ 1 → ⊥
      not_small true z = omega (arith, z)
      not_small false z = omega (arith, z)

  pub reasons_cut : (t : List ℕ) (fault : Checked) (r : Refusal) (a : ℕ) → length bs % 2 ≡ 1 → t ≡ words_in bs
      → fault ≡ table_check N t → then_lone_byte fault (length bs / 2) true ≡ Err r → a ≡ packed r → HostReasons N bs room a room
  unfolding host_table_fault
  reasons_cut t fault r a odd et ef e p =
      rw p (HostReasons.refused {f = r} (rw (eq-eqb (length bs % 2) 1 odd, ← et, ← ef, ap length et ∙ length_words_in bs) e))

  pub reasons_whole : (t : List ℕ) (r : Result ℕ Refusal) (a : ℕ) (room' : List ℕ) → (length bs % 2 ≡ 1 → ⊥) → t ≡ words_in bs
      → ReasonsAllows N t room r room' → a ≡ packed_number r → HostReasons N bs room a room'
  unfolding host_table_fault
  reasons_whole t r a room' even et o p = rw p (go (subst (λ (x : List ℕ). ReasonsAllows N x room r room') et o))
    where
      same : host_table_fault N (words_in bs) (lone_byte bs) ≡ table_check N (words_in bs)
      same = rw (ne_eqb (length bs % 2) 1 even) (or_else_nothing (table_check N (words_in bs)))

      go : {x : Result ℕ Refusal} {y : List ℕ} → ReasonsAllows N (words_in bs) room x y → HostReasons N bs room (packed_number x) y
      go (ReasonsAllows.refused e) = HostReasons.refused (same ∙ e)
      go (no_room e A m s lt) = HostReasons.answered (same ∙ e) (no_room e A m s lt)
      go (writes e A m s le) = HostReasons.answered (same ∙ e) (writes e A m s le)
