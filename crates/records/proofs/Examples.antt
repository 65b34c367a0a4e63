-- Small records, by the definition: which are taken, and what refuses the others.
use mathlib.Core.List.{◌∷◌}
use mathlib.Core.Path.{◌≡◌, refl}
use Prim.Native.Nat.{ℕ}
use lib.ListN.{replicate}
use Rattle.sets.specs.Sets.{count}
use Rattle.bits.specs.Sets.{member}
use Rattle.refusal.specs.Numbers.{too_many_atoms, broken_record}
use Rattle.records.specs.declared.MarkRecord.{MarkRecord}
use Rattle.records.specs.Records.{record_fault}
use Rattle.std.specs.Prelude.{Ok, Err}

-- a record for N whose first word of marks is w, with k counted
abbrev small : ℕ → ℕ → ℕ → MarkRecord
small N w k = record { n = N; marks = w ∷ replicate 7 0; count = k }

-- no marks, and 5 counted
none_and_count_5 : record_fault (small 1 0 5) ≡ Err broken_record
unfolding record_fault member count
none_and_count_5 = refl

-- atoms 0 and 2 of 3 marked, and 2 counted; one more; one less
two_of_three : record_fault (small 3 5 2) ≡ Ok tt
unfolding record_fault member count
two_of_three = refl

one_too_many : record_fault (small 3 5 3) ≡ Err broken_record
unfolding record_fault member count
one_too_many = refl

one_too_few : record_fault (small 3 5 1) ≡ Err broken_record
unfolding record_fault member count
one_too_few = refl

-- a mark at N, and rightly counted
at_n_and_counted : record_fault (small 1 2 1) ≡ Err broken_record
unfolding record_fault member count
at_n_and_counted = refl

-- N above 512, and a wrong count
above_512_and_count_5 : record_fault (small 513 0 5) ≡ Err too_many_atoms
unfolding record_fault member count
above_512_and_count_5 = refl
