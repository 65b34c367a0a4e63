-- The host's answers to the question of conflict, and what they tell. Assumes nothing.
use mathlib.Core.Bool.{Bool, true, false, cond}
use mathlib.Core.List.{List}
use mathlib.Core.Logic.{◌⊎◌, inl, inr, ◌↔◌}
use mathlib.Core.Path.{◌≡◌, refl, sym, ap, ◌∙◌, subst}
use Prim.Native.Nat.{ℕ, ◌/◌, ◌%◌, ◌≤◌, ◌<◌}
use native.Mathlib.Omega.{arith}
use lib.Dec.{leb}
use lib.ListN.{length}
use borrow.Author.Tests.{eq-eqb, ne_eqb, lt-leb}
use Rattle.refusal.specs.declared.Refusal.{Refusal}
use Rattle.refusal.specs.Numbers.{table_too_long, too_many_atoms}
use Rattle.refusal.specs.Checks.{Checked, Decided}
use Rattle.refusal.specs.Questions.{refused, answers_yes, answers_no}
use Rattle.refusal.proofs.Laws.{or_else_nothing, refused≢accepted}
use Rattle.refusal.proofs.Places.{PlacesTo}
use Rattle.refusal.proofs.Reasons.{HasReason, small_has_reason}
use Rattle.refusal.proofs.Questions.{question_determined, question_same, question_refused}
use Rattle.words.specs.Check.{table_check}
use Rattle.words.specs.Layout.{rules_of}
use Rattle.words.proofs.Bounds.{check_within}
use Rattle.words.proofs.Laws.{accepted_length}
use Rattle.paper.specs.Marking.{Conflict}
use Rattle.conflict.specs.Conflict.{ConflictAllows}
use Rattle.host.specs.Bytes.{words_in, lone_byte, then_lone_byte}
use Rattle.host.specs.Evaluation.{packed}
use Rattle.host.specs.Conflict.{host_table_fault, packed_decided, HostConflict}
use Rattle.host.specs.WholeWords.{CheckPackable, DecidedPackable, too_long_answer}
use Rattle.host.proofs.Bytes.{length_words_in}
use Rattle.host.proofs.Evaluating.{within_packable, lone_within}
use Rattle.std.specs.Prelude.{Ok, Err}

pub check_packable : (N : ℕ) (t : List ℕ) (x : Checked) → x ≡ table_check N t → CheckPackable x
check_packable N t x e f p = within_packable (table_check N t) f (check_within N t) (sym e ∙ p)

pub conflict_packable : (N : ℕ) (t : List ℕ) (d : Decided) → ConflictAllows N t d → DecidedPackable d
conflict_packable N t d o f p = check_packable N t (table_check N t) refl f (question_refused o p)

pub conflict_too_long : (N : ℕ) (bs : List ℕ) (a : ℕ) → 8192 < length bs / 2 → a ≡ too_long_answer N → HostConflict N bs a
unfolding host_table_fault table_check
conflict_too_long N bs a h e = rw e (go (leb N 512) refl)
  where
    long : leb (length (words_in bs)) 8192 ≡ false
    long = lt-leb (length (words_in bs)) 8192 (let n = length_words_in bs in omega arith)

    go : (b : Bool) → leb N 512 ≡ b → HostConflict N bs (cond b (packed table_too_long) (packed too_many_atoms))
    go true p = HostConflict.answered (refused {f = table_too_long} (rw (p, long) refl))
    go false p = HostConflict.answered (refused {f = too_many_atoms} (rw p refl))

pub conflict_cut : (N : ℕ) (bs t : List ℕ) (fault : Checked) (r : Refusal) (a : ℕ) → length bs % 2 ≡ 1 → t ≡ words_in bs
    → fault ≡ table_check N t → then_lone_byte fault (length bs / 2) true ≡ Err r → a ≡ packed r → HostConflict N bs a
unfolding host_table_fault
conflict_cut N bs t fault r a odd et ef e p =
    rw p (HostConflict.answered (refused {f = r} (rw (eq-eqb (length bs % 2) 1 odd, ← et, ← ef, ap length et ∙ length_words_in bs) e)))

pub conflict_whole : (N : ℕ) (bs t : List ℕ) (d : Decided) (a : ℕ) → (length bs % 2 ≡ 1 → ⊥)
    → t ≡ words_in bs → ConflictAllows N t d → a ≡ packed_decided d → HostConflict N bs a
unfolding host_table_fault
conflict_whole N bs t d a even et o p =
    rw p (HostConflict.answered (question_same same ((λ c. c), λ c. c) (subst (λ (x : List ℕ). ConflictAllows N x d) et o)))
  where
    same : host_table_fault N (words_in bs) (lone_byte bs) ≡ table_check N (words_in bs)
    same = rw (ne_eqb (length bs % 2) 1 even) (or_else_nothing (table_check N (words_in bs)))

-- a refusal's number is not 0, and its place has room in the answer
table_within : (N : ℕ) (t : List ℕ) (lone : Bool) → PlacesTo 8192 (host_table_fault N t lone)
unfolding host_table_fault
table_within N t lone = lone_within (table_check N t) t lone (check_within N t) (accepted_length N t)

module _ (N : ℕ) (bytes : List ℕ) where
  pub host_conflict_determined : {x y : ℕ} → HostConflict N bytes x → HostConflict N bytes y → x ≡ y
  host_conflict_determined (HostConflict.answered o) (HostConflict.answered o') = ap packed_decided (question_determined o o')

  -- an answer tells its cause: 0 that there is no conflict, 1 that there is one, else the fault that the written order finds
  pub conflict_answer_tells : {answer : ℕ} → HostConflict N bytes answer
      → ((host_table_fault N (words_in bytes) (lone_byte bytes) ≡ Ok tt) × (Conflict (rules_of (words_in bytes)) → ⊥) × (answer ≡ 0))
      ⊎ (((host_table_fault N (words_in bytes) (lone_byte bytes) ≡ Ok tt) × Conflict (rules_of (words_in bytes)) × (answer ≡ 1))
      ⊎ ((f : Refusal) × (host_table_fault N (words_in bytes) (lone_byte bytes) ≡ Err f)
      × (answer ≡ packed f) × (1 ≤ f.number) × (f.place < 4294967296) × HasReason f))
  conflict_answer_tells (HostConflict.answered (answers_no e n)) = inl (e, n, refl)
  conflict_answer_tells (HostConflict.answered (answers_yes e c)) = inr (inl (e, c, refl))
  conflict_answer_tells (HostConflict.answered (refused {f} e)) =
      let k : PlacesTo 8192 (Err f) = subst (PlacesTo 8192) e (table_within N (words_in bytes) (lone_byte bytes)) in
      inr (inr (f, e, refl, k.2, omega (arith, k.1), small_has_reason 8192 f k))

  pub one_exactly_if_conflict : host_table_fault N (words_in bytes) (lone_byte bytes) ≡ Ok tt → {answer : ℕ} → HostConflict N bytes answer
      → (answer ≡ 1) ↔ Conflict (rules_of (words_in bytes))
  one_exactly_if_conflict accepted o =
      (told o, λ c. host_conflict_determined o (HostConflict.answered (answers_yes accepted c)))
    where
      told : {answer : ℕ} → HostConflict N bytes answer → answer ≡ 1 → Conflict (rules_of (words_in bytes))
      told (HostConflict.answered (answers_no e n)) p = absurd (omega (arith, p))
      told (HostConflict.answered (answers_yes e c)) p = c
      told (HostConflict.answered (refused {f} e)) p = absurd (refused≢accepted f (sym e ∙ accepted))
