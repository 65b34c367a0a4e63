-- What a record without fault is, what its count tells, and that two allowed outcomes of the entries that need no table are equal.
use mathlib.Core.Bool.{Bool, true, false, not, true≢false}
use mathlib.Core.Path.{◌≡◌, refl, sym, ap, ◌∙◌, subst, subst⁻¹}
use Prim.Native.Nat.{ℕ, zero, suc, ◌+◌, ◌-◌, ◌≤◌, ◌<◌}
use native.Mathlib.Omega.{arith}
use native.Mathlib.Numerals.{add-one}
use native.Mathlib.Decide.{dec_lt, ℕ_discrete}
use lib.Dec.{T, T_not, leb, eqb}
use lib.ListN.{length}
use borrow.Author.Tests.{leb-true, le-leb, eqb-true, eq-eqb, ne_eqb}
use Rattle.sets.specs.Sets.{count}
use Rattle.sets.proofs.Tests.{or_left, or_right, true→T, false→not, refuted→false}
use Rattle.sets.proofs.Counting.{count≤, count_none, count_add, count_full, count_with}
use Rattle.bits.proofs.Laws.{member_put_in, member_of_zeros}
use Rattle.refusal.specs.Numbers.{too_many_atoms, broken_record}
use Rattle.refusal.specs.Checks.{asking, Checked}
use Rattle.refusal.proofs.Laws.{asking_accepted, refused≢accepted}
use Rattle.records.specs.declared.MarkRecord.{MarkRecord}
use Rattle.records.specs.Records.{marks_of, marks_counted, marks_from, no_marks_for, with_mark, record_fault, FreshAllows, CountAllows}
use Rattle.std.specs.Prelude.{Ok, Err, Result}
use Rattle.refusal.specs.declared.Refusal.{Refusal}

-- a mark among the k atoms from a on is found
marks_from_finds : (A : ℕ → Bool) (a k b : ℕ) → a ≤ b → b < a + k → T (A b) → T (marks_from A a k)
marks_from_finds A a zero b le lt t = absurd (omega arith)
marks_from_finds A a (suc k) b le lt t =
    elim (ℕ_discrete a b) [
      | yes e ↦ or_left (A a) (marks_from A (a + 1) k) (rw e t)
      | no e ↦ or_right (A a) (marks_from A (a + 1) k) (marks_from_finds A (a + 1) k b (omega arith) (omega arith) t)
    ]

-- a record without fault: N at most 512, no mark at N or above, and the marks counted
pub record RecordIsGood (r : MarkRecord) : Type 0 where
  pub at_most_512 : r.n ≤ 512
  pub below : (a : ℕ) → a < 512 → T (marks_of r a) → a < r.n
  pub counted : r.count ≡ marks_counted r

pub record_good : (r : MarkRecord) → record_fault r ≡ Ok tt → RecordIsGood r
unfolding record_fault
record_good r e =
    let marked = marks_from (marks_of r) r.n (512 - r.n) in
    let same = eqb r.count (marks_counted r) in
    let p = asking_accepted (leb r.n 512) too_many_atoms (asking (not marked) broken_record (asking same broken_record (Ok tt))) e in
    let q = asking_accepted (not marked) broken_record (asking same broken_record (Ok tt)) p.1 in
    let s = asking_accepted same broken_record (Ok tt) q.1 in
    let le = leb-true r.n 512 p.0 in
    record {
      at_most_512 = le;
      below = λ a lt t.
          elim (dec_lt a r.n) [
            | yes h ↦ h
            | no h ↦ absurd (T_not marked (true→T (not marked) q.0) (marks_from_finds (marks_of r) r.n (512 - r.n) a (omega arith) (omega arith) t))
          ];
      counted = eqb-true r.count (marks_counted r) s.0;
    }

-- and the other way round
pub no_fault : (r : MarkRecord) → r.n ≤ 512 → marks_from (marks_of r) r.n (512 - r.n) ≡ false → r.count ≡ marks_counted r
    → record_fault r ≡ Ok tt
unfolding record_fault
no_fault r le none is = rw (le-leb r.n 512 le, none, eq-eqb _ _ is)

pub good_record : (r : MarkRecord) → RecordIsGood r → record_fault r ≡ Ok tt
good_record r g =
    let le = g.at_most_512 in
    no_fault r le (nowhere (512 - r.n) r.n (omega arith) (omega arith)) g.counted
  where
    nowhere : (k a : ℕ) → r.n ≤ a → a + k ≤ 512 → marks_from (marks_of r) a k ≡ false
    nowhere zero a h h' = refl
    nowhere (suc k) a h h' =
        rw (refuted→false (marks_of r a) (λ t. let b = g.below a (omega arith) t in omega arith)) (nowhere k (a + 1) (omega arith) (omega arith))

-- a fresh record for at most 512 atoms is without fault: no marks, and none counted
pub none_counted : (N : ℕ) → 0 ≡ marks_counted (no_marks_for N)
none_counted N = sym (count_none 512 (marks_of (no_marks_for N)) (λ a lt. false→not _ (member_of_zeros 8 a)))

pub fresh_good : (N : ℕ) → N ≤ 512 → record_fault (no_marks_for N) ≡ Ok tt
fresh_good N le =
    good_record (no_marks_for N)
    (record { at_most_512 = le; below = λ a lt m. absurd (subst T (member_of_zeros 8 a) m); counted = none_counted N })

-- a count that is not the number of marks is a fault
pub wrong_count : (r : MarkRecord) → r.n ≤ 512 → (r.count ≡ marks_counted r → ⊥) → record_fault r ≡ Err broken_record
unfolding record_fault
wrong_count r le ne = rw (le-leb r.n 512 le, ne_eqb _ _ ne) (go (marks_from (marks_of r) r.n (512 - r.n)))
  where
    go : (marked : Bool) → asking (not marked) broken_record (Err broken_record) ≡ Err broken_record
    go true = refl
    go false = refl

-- a record without fault has room for one more in its count
pub counted_at_most_512 : (r : MarkRecord) → record_fault r ≡ Ok tt → r.count ≤ 512
counted_at_most_512 r e = subst⁻¹ (λ (k : ℕ). k ≤ 512) (record_good r e).counted (count≤ 512 (marks_of r))

-- with N marks counted all atoms below N are marked
pub all_marked : (r : MarkRecord) → record_fault r ≡ Ok tt → r.count ≡ r.n → (a : ℕ) → a < r.n → T (marks_of r a)
all_marked r e full =
    let g = record_good r e in
    let le = g.at_most_512 in
    let up : r.n + (512 - r.n) ≡ 512 = omega arith in
    let parts = count_add r.n (512 - r.n) (marks_of r) in
    let above : count (512 - r.n) (λ a. marks_of r (r.n + a)) ≡ 0 =
    count_none (512 - r.n) (λ a. marks_of r (r.n + a))
    (λ a lt. false→not _ (refuted→false (marks_of r (r.n + a)) (λ t. let b = g.below (r.n + a) (omega arith) t in omega arith)))
    in
    count_full r.n (marks_of r) (omega (arith, parts, above, g.counted, full, ap (λ (x : ℕ). count x (marks_of r)) up))

-- a mark more is one more counted
pub one_more_counted : (r : MarkRecord) → length r.marks ≡ 8 → (a : ℕ) → a < 512 → T (not (marks_of r a))
    → marks_counted (with_mark r a) ≡ marks_counted r + 1
one_more_counted r eight a lt u =
    ap (count 512) (member_put_in r.marks a (omega arith)) ∙ count_with 512 (marks_of r) a lt u ∙ sym (add-one (marks_counted r))

pub fresh_determined : (N : ℕ) {a b : Checked} {x y : MarkRecord} → FreshAllows N a x → FreshAllows N b y → (a ≡ b) × (x ≡ y)
fresh_determined N (FreshAllows.fresh e) (FreshAllows.fresh e') = (refl, refl)
fresh_determined N (FreshAllows.fresh e) (FreshAllows.refused e') = absurd (true≢false (sym e ∙ e'))
fresh_determined N (FreshAllows.refused e) (FreshAllows.fresh e') = absurd (true≢false (sym e' ∙ e))
fresh_determined N (FreshAllows.refused e) (FreshAllows.refused e') = (refl, refl)

pub count_determined : (r : MarkRecord) {a b : Result ℕ Refusal} → CountAllows r a → CountAllows r b → a ≡ b
count_determined r (CountAllows.refused {f} e) (CountAllows.refused {f = g} e') = let q : f ≡ g = cc in ap Err q
count_determined r (CountAllows.refused {f} e) (CountAllows.counted e') = absurd (refused≢accepted f (sym e ∙ e'))
count_determined r (CountAllows.counted e) (CountAllows.refused {f} e') = absurd (refused≢accepted f (sym e' ∙ e))
count_determined r (CountAllows.counted e) (CountAllows.counted e') = refl
