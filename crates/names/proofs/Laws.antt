-- What the numbering means: equal bytes, and the first entry that has them.
use mathlib.Core.Path.{◌≡◌, refl, sym, ap, ap₂, ◌∙◌}
use mathlib.Core.List.{List, [], ◌∷◌}
use mathlib.Core.Bool.{Bool, true, false, ◌&&◌, cond, true≢false}
use Prim.Native.Nat.{ℕ, zero, suc, ◌+◌, ◌<◌, ◌≤◌}
use native.Mathlib.Omega.{arith}
use lib.Dec.{eqb}
use lib.ListN.{length, get_or, take, drop}
use lib.Seq.{drop-cons}
use borrow.Author.Tests.{eqb-true, eq-eqb}
use Rattle.sets.proofs.Tests.{and_both}
use Rattle.reader.specs.Sheet.{byte_at}
use Rattle.names.specs.Names.{bytes_at, entry_for, start_of, length_of, name_of, same_bytes, number_in}

-- names that count as equal have the same bytes, and the other way round
pub same_bytes_equal : (u v : List ℕ) → same_bytes u v ≡ true → u ≡ v
unfolding same_bytes
same_bytes_equal [] [] e = refl
same_bytes_equal [] (b ∷ v) e = absurd (true≢false (sym e))
same_bytes_equal (a ∷ u) [] e = absurd (true≢false (sym e))
same_bytes_equal (a ∷ u) (b ∷ v) e =
    ap₂ (λ (x : ℕ) (l : List ℕ). x ∷ l) (eqb-true a b (and_both (eqb a b) (same_bytes u v) e).0)
    (same_bytes_equal u v (and_both (eqb a b) (same_bytes u v) e).1)

pub equal_same_bytes : (u : List ℕ) → same_bytes u u ≡ true
unfolding same_bytes
equal_same_bytes [] = refl
equal_same_bytes (a ∷ u) = ap (λ (b : Bool). b && same_bytes u u) (eq-eqb a a refl) ∙ equal_same_bytes u

-- a number below the number of entries is that of an entry with this name
pub number_names : (s es name : List ℕ) → number_in s es name < length es → name_of s (get_or es (number_in s es name) 0) ≡ name
unfolding number_in
number_names s [] name h = absurd (omega arith)
number_names s (e ∷ es) name h = by (same_bytes (name_of s e) name) refl h (number_names s es name)
  where
    by : (b : Bool) → same_bytes (name_of s e) name ≡ b → cond b 0 (suc (number_in s es name)) < suc (length es)
        → (number_in s es name < length es → name_of s (get_or es (number_in s es name) 0) ≡ name)
        → name_of s (get_or (e ∷ es) (cond b 0 (suc (number_in s es name))) 0) ≡ name
    by true q g onward = same_bytes_equal (name_of s e) name q
    by false q g onward = onward (omega arith)

-- a name that an entry has is not new
pub number_new : (s es name : List ℕ) (a : ℕ) → a < length es → name_of s (get_or es a 0) ≡ name → number_in s es name < length es
unfolding number_in
number_new s [] name a h q = absurd (omega arith)
number_new s (e ∷ es) name a h q = by a h q (same_bytes (name_of s e) name) refl (number_new s es name)
  where
    by : (a : ℕ) → a < suc (length es) → name_of s (get_or (e ∷ es) a 0) ≡ name → (b : Bool) → same_bytes (name_of s e) name ≡ b
        → ((c : ℕ) → c < length es → name_of s (get_or es c 0) ≡ name → number_in s es name < length es)
        → cond b 0 (suc (number_in s es name)) < suc (length es)
    by a h q true r onward = omega arith
    by zero h q false r onward =
        absurd (true≢false (sym (ap (same_bytes (name_of s e)) (sym q) ∙ equal_same_bytes (name_of s e)) ∙ r))
    by (suc c) h q false r onward = omega (arith, onward c (omega arith) q)

-- a name's bytes are those of the sheet, where it lies in the sheet
pub bytes_of_sheet : (s : List ℕ) (q n : ℕ) → q + n ≤ length s → bytes_at s q n ≡ take n (drop q s)
unfolding bytes_at
bytes_of_sheet s q zero h = refl
bytes_of_sheet s q (suc n) h =
    ap (λ (l : List ℕ). byte_at s q ∷ l) (bytes_of_sheet s (suc q) n (omega arith)) ∙ sym (ap (take (suc n)) (drop-cons s q 0 (omega arith)))

-- an entry keeps the start and the length of its name
pub entry_start : (q n : ℕ) → n < 32 → start_of (entry_for q n) ≡ q
entry_start q n h = omega arith

pub entry_length : (q n : ℕ) → n < 32 → length_of (entry_for q n) ≡ n
entry_length q n h = omega arith
