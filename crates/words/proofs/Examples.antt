-- Tables at the edges of the check, computed from the definitions.
use mathlib.Core.Path.{◌≡◌, refl}
use mathlib.Core.List.{[], ◌∷◌}
use Prim.Native.Nat.{ℕ}
use native.Mathlib.Omega.{arith}
use Rattle.refusal.specs.Numbers.{too_many_atoms, cut_short, not_a_literal, out_of_range, second_rule}
use Rattle.words.specs.Layout.{records_of, records_within, take_groups, drop_groups}
use Rattle.words.specs.Check.{walk, table_check}
use Rattle.words.specs.OnlyLines.{SameFrom, OnlyLinesDiffer}
use Rattle.std.specs.Prelude.{Ok, Err}

-- "p" made by hand, "-p: p" in line 9, for one atom
two_rules : table_check 1 (0 ∷ 0 ∷ 0 ∷ 1 ∷ 9 ∷ 1 ∷ 1 ∷ 0 ∷ []) ≡ Ok tt
unfolding table_check walk
two_rules = refl

their_meaning : records_of (0 ∷ 0 ∷ 0 ∷ 1 ∷ 9 ∷ 1 ∷ 1 ∷ 0 ∷ [])
    ≡ record { line = 0; rule = record { head = 0; groups = [] } } ∷ record { line = 9; rule = record { head = 1; groups = (0 ∷ []) ∷ [] } } ∷ []
unfolding records_of records_within take_groups drop_groups
their_meaning = refl

513_atoms : table_check 513 [] ≡ Err too_many_atoms
unfolding table_check walk
513_atoms = refl

-- the faulty literal is met before the end of the words, though the group is cut short
faulty_before_cut_short : table_check 2 (0 ∷ 1 ∷ 1 ∷ 5 ∷ 2 ∷ 4 ∷ []) ≡ Err (not_a_literal 5)
unfolding table_check walk
faulty_before_cut_short = refl

-- numbers may fall
lines_may_fall : table_check 1 (0 ∷ 9 ∷ 0 ∷ 1 ∷ 0 ∷ 0 ∷ []) ≡ Ok tt
unfolding table_check walk
lines_may_fall = refl

line_32768 : table_check 1 (0 ∷ 32768 ∷ 0 ∷ []) ≡ Ok tt
unfolding table_check walk
line_32768 = refl

line_32769 : table_check 1 (0 ∷ 32769 ∷ 0 ∷ []) ≡ Err (out_of_range 1)
unfolding table_check walk
line_32769 = refl

-- the repeated head is met before its line
head_before_line : table_check 1 (0 ∷ 0 ∷ 0 ∷ 0 ∷ 40000 ∷ 0 ∷ []) ≡ Err (second_rule 3)
unfolding table_check walk
head_before_line = refl

-- and the line before m
line_before_m : table_check 1 (0 ∷ 40000 ∷ 65 ∷ []) ≡ Err (out_of_range 1)
unfolding table_check walk
line_before_m = refl

-- a wrong m in the last word
m_65_at_the_end : table_check 1 (0 ∷ 1 ∷ 65 ∷ []) ≡ Err (out_of_range 2)
unfolding table_check walk
m_65_at_the_end = refl

k_0 : table_check 1 (0 ∷ 1 ∷ 1 ∷ 0 ∷ []) ≡ Err (out_of_range 3)
unfolding table_check walk
k_0 = refl

cut_after_the_head : table_check 1 (0 ∷ []) ≡ Err (cut_short 1)
unfolding table_check walk
cut_after_the_head = refl

cut_after_the_line : table_check 1 (0 ∷ 1 ∷ []) ≡ Err (cut_short 2)
unfolding table_check walk
cut_after_the_line = refl

cut_in_a_group : table_check 1 (0 ∷ 1 ∷ 1 ∷ 2 ∷ 1 ∷ []) ≡ Err (cut_short 5)
unfolding table_check walk
cut_in_a_group = refl

same_head_twice : table_check 1 (1 ∷ 1 ∷ 0 ∷ 1 ∷ 2 ∷ 0 ∷ []) ≡ Err (second_rule 3)
unfolding table_check walk
same_head_twice = refl

-- the two rules from other lines
other_lines : OnlyLinesDiffer (0 ∷ 0 ∷ 0 ∷ 1 ∷ 9 ∷ 1 ∷ 1 ∷ 0 ∷ []) (0 ∷ 7 ∷ 0 ∷ 1 ∷ 8 ∷ 1 ∷ 1 ∷ 0 ∷ [])
unfolding SameFrom
other_lines = (refl, (tt, (refl, (refl, (tt, (refl, (refl, (refl, tt))))))))

-- another m is no other line
another_m : OnlyLinesDiffer (0 ∷ 1 ∷ 0 ∷ []) (0 ∷ 0 ∷ 1 ∷ []) → ⊥
unfolding SameFrom
another_m same = let z : ◌≡◌ {A = ℕ} 0 1 = same.1.1.0 in omega arith
