-- Believed: the mark record, its faults, a fresh one, one with a mark more, and the mark count.
use Rattle.std.specs.Prelude.{Bool, true, false, not, ◌≡◌, ℕ, ◌+◌, ◌-◌, leb, eqb, replicate, Ok, Err, Result}
use Rattle.std.specs.List.{list_any, range_with_len}
use Rattle.limits.specs.Limits.{most_atoms}
use Rattle.sets.specs.Sets.{count}
use Rattle.refusal.specs.declared.Refusal.{Refusal}
use Rattle.refusal.specs.Checks.{Checked, asking}
use Rattle.refusal.specs.Numbers.{too_many_atoms, broken_record}
use Rattle.bits.specs.Sets.{member, put_in}
use Rattle.records.specs.declared.MarkRecord.{MarkRecord}

-- the record's marks as a set of atoms
abbrev pub marks_of : MarkRecord → ℕ → Bool
marks_of r = member r.marks

-- the number of marks, which the record's count should be
abbrev pub marks_counted : MarkRecord → ℕ
marks_counted r = count most_atoms (marks_of r)

-- the record with a mark at a besides, and one more counted
abbrev pub with_mark : MarkRecord → ℕ → MarkRecord
with_mark r a = record { n = r.n; marks = put_in r.marks a; count = r.count + 1 }

-- a record for N with no marks, and none counted
abbrev pub no_marks_for : ℕ → MarkRecord
no_marks_for N = record { n = N; marks = replicate 8 0; count = 0 }

-- fresh record: 1; a refused one has N 0, no marks and count 0
pub data FreshAllows (N : ℕ) : Checked → MarkRecord → Type 0 where
  fresh : leb N most_atoms ≡ true → FreshAllows N (Ok tt) (no_marks_for N)
  refused : leb N most_atoms ≡ false → FreshAllows N (Err too_many_atoms) (no_marks_for 0)

-- is one of the k atoms from a on marked
abbrev pub marks_from : (ℕ → Bool) → ℕ → ℕ → Bool
marks_from A a k = list_any A (range_with_len a k)

-- 1: N above 512; 17: the record has a mark at N or above, or its stored count is not the number of marks
unfoldable pub record_fault : MarkRecord → Checked
record_fault r =
    asking (leb r.n most_atoms) too_many_atoms
    (asking (not (marks_from (marks_of r) r.n (most_atoms - r.n))) broken_record
    (asking (eqb r.count (marks_counted r)) broken_record (Ok tt)))

-- the mark count: the stored number
pub data CountAllows (r : MarkRecord) : Result ℕ Refusal → Type 0 where
  refused : {f : Refusal} → record_fault r ≡ Err f → CountAllows r (Err f)
  counted : record_fault r ≡ Ok tt → CountAllows r (Ok r.count)
