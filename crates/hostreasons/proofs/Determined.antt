-- Two answers that the host's check allows are equal, and what an answer tells. Assumes nothing.
use mathlib.Core.Bool.{Bool, true, false, cond}
use mathlib.Core.List.{List}
use mathlib.Core.Logic.{◌⊎◌, inl, inr, ⊎_elim}
use mathlib.Core.Path.{◌≡◌, refl, sym, ap, ◌∙◌, subst}
use Prim.Native.Nat.{ℕ, ◌+◌, ◌*◌, ◌/◌, ◌%◌, ◌≤◌, ◌<◌}
use native.Mathlib.Omega.{arith}
use lib.Dec.{leb}
use lib.ListN.{length}
use borrow.Author.Tests.{leb-true, le-leb}
use Rattle.refusal.specs.declared.Refusal.{Refusal}
use Rattle.refusal.proofs.Laws.{refused≢accepted}
use Rattle.refusal.proofs.Reasons.{HasReason}
use Rattle.host.specs.Bytes.{words_in, lone_byte}
use Rattle.host.specs.Evaluation.{host_fault, packed, HostEvaluation}
use Rattle.host.proofs.Determined.{host_answer_tells}
use Rattle.reasoncheck.specs.ReasonCheck.{CheckAllows}
use Rattle.reasoncheck.proofs.Determined.{check_determined}
use Rattle.hostreasons.specs.CheckBytes.{readable_place, packed_check, HostCheck}
use Rattle.hostreasons.proofs.Checking.{KnownNumber, check_known}
use Rattle.std.specs.Prelude.{Ok, Err}

readable_small : (p : ℕ) → readable_place p < 4294967296
readable_small p = go (leb p 4294967295) refl
  where
    go : (b : Bool) → leb p 4294967295 ≡ b → cond b p 4294967295 < 4294967296
    go true e = let h = leb-true p 4294967295 e in omega arith
    go false e = omega arith

-- number and place of a refusal, read from an answer
pub record ReadsAs (a : ℕ) (f : Refusal) : Type 0 where
  pub known : 1 ≤ f.number
  pub number_is : a / 4294967296 ≡ f.number
  pub place_is : a % 4294967296 ≡ readable_place f.place

reads : (f : Refusal) → 1 ≤ f.number → ReadsAs (packed_check (Err f)) f
reads f h = let k = readable_small f.place in record { known = h; number_is = omega arith; place_is = omega arith }

-- a fault of the table or its room has a reason's number and a small place
small_place : (N : ℕ) (bs values : List ℕ) (f : Refusal) → host_fault N (words_in bs) (lone_byte bs) (length values) ≡ Err f
    → (1 ≤ f.number) × (f.place < 4294967296) × HasReason f
small_place N bs values f e =
    ⊎_elim (λ q. absurd (refused≢accepted f (sym e ∙ q.0)))
    (λ q. let same : q.0 ≡ f = cc in subst (λ (x : Refusal). (1 ≤ x.number) × (x.place < 4294967296) × HasReason x) same (q.3, q.4, q.5))
    (host_answer_tells N bs values (HostEvaluation.refused e))

module _ (N : ℕ) (bs values text : List ℕ) where
  pub host_check_determined : {a b : ℕ} → HostCheck N bs values text a → HostCheck N bs values text b → a ≡ b
  host_check_determined (HostCheck.refused {f} e) (HostCheck.refused {f = g} e') = let q : f ≡ g = cc in ap packed q
  host_check_determined (HostCheck.refused {f} e) (HostCheck.answered e' c) = absurd (refused≢accepted f (sym e ∙ e'))
  host_check_determined (HostCheck.answered e c) (HostCheck.refused {f} e') = absurd (refused≢accepted f (sym e' ∙ e))
  host_check_determined (HostCheck.answered e c) (HostCheck.answered e' c') = ap packed_check (check_determined N (words_in bs) values text c c')

  -- an answer tells its cause: 0 that the checker accepts, else the fault that the written order finds
  pub check_answer_tells : {a : ℕ} → HostCheck N bs values text a
      → ((host_fault N (words_in bs) (lone_byte bs) (length values) ≡ Ok tt) × CheckAllows N (words_in bs) values text (Ok tt) × (a ≡ 0))
      ⊎ ((f : Refusal) × ReadsAs a f
      × ((host_fault N (words_in bs) (lone_byte bs) (length values) ≡ Err f)
      ⊎ ((host_fault N (words_in bs) (lone_byte bs) (length values) ≡ Ok tt) × CheckAllows N (words_in bs) values text (Err f)))
      × HasReason f)
  check_answer_tells (HostCheck.refused {f} e) =
      let q = small_place N bs values f e in
      let same : readable_place f.place ≡ f.place = rw (le-leb f.place 4294967295 (omega (arith, q.1))) refl in
      inr (f, subst (λ (p : ℕ). ReadsAs (4294967296 * f.number + p) f) same (reads f q.0), inl e, q.2)
  check_answer_tells (HostCheck.answered e {answer = (Ok tt)} c) = inl (e, c, refl)
  check_answer_tells (HostCheck.answered e {answer = Err f} c) =
      let k : KnownNumber (Err f) = check_known N (words_in bs) values text c in inr (f, reads f k.0, inr (e, c), k.2)
