-- The numbers of a text in a row of 4,096: those of its first 1,024 lines. Assumes nothing.
use mathlib.Core.List.{List, [], ◌∷◌, ◌++◌}
use mathlib.Core.Path.{◌≡◌, refl, ap, ◌∙◌}
use Prim.Native.Nat.{ℕ, zero, suc, ◌+◌, ◌*◌, ◌/◌, ◌<◌}
use native.Mathlib.Omega.{arith}
use lib.ListN.{length, get_or, set, replicate, length-set, length-append}
use lib.Seq.{sets, get_or-set_same, get_or-set_other, get_or-append-add}
use Rattle.reasontext.specs.ReasonSheet.{ReasonLine}
use Rattle.reasontext.proofs.Flat.{numbers_of}
use Rattle.reasoncheck.specs.Matching.{NumbersHold}

sets_before : (u t : List ℕ) (i j : ℕ) → j < i → get_or (sets t i u) j 0 ≡ get_or t j 0
sets_before [] t i j h = refl
sets_before (b ∷ u) t i j h = sets_before u (set t i b) (suc i) j (omega arith) ∙ get_or-set_other t i j b 0 (λ e. omega arith)

get_d_sets : (u t : List ℕ) (i j : ℕ) → j < length u → i + j < length t → get_or (sets t i u) (i + j) 0 ≡ get_or u j 0
get_d_sets [] t i j h k = absurd (omega arith)
get_d_sets (b ∷ u) t i zero h k =
    let e : i + zero ≡ i = omega arith in
    rw e (sets_before u (set t i b) (suc i) i (omega arith) ∙ get_or-set_same t i b 0 (omega arith))
get_d_sets (b ∷ u) t i (suc j) h k =
    let e : i + suc j ≡ suc i + j = omega arith in
    rw e (get_d_sets u (set t i b) (suc i) j (omega arith) (let q = length-set t i b in omega arith))

length_numbers_of : (ls : List ReasonLine) → length (numbers_of ls) ≡ 4 * length ls
unfolding numbers_of
length_numbers_of [] = refl
length_numbers_of (x ∷ ls) = let e = length_numbers_of ls in omega arith

numbers_of_append : (ms ls : List ReasonLine) → numbers_of (ms ++ ls) ≡ numbers_of ms ++ numbers_of ls
unfolding numbers_of
numbers_of_append [] ls = refl
numbers_of_append (x ∷ ms) ls = ap (λ (z : List ℕ). x.literal ∷ x.rank ∷ x.rule_head ∷ x.group ∷ z) (numbers_of_append ms ls)

pub room_holds : (room : List ℕ) (count : ℕ) (ls : List ReasonLine) → count ≡ length (numbers_of ls)
    → room ≡ sets (replicate 4096 0) 0 (numbers_of ls) → NumbersHold room (count / 4) ls
unfolding numbers_of
room_holds room count ls ec er =
    record {
      count_is = let e = length_numbers_of ls in omega arith;
      line_is = λ ms x rest s small. (
        (let z : 4 * length ms ≡ 4 * length ms + 0 = omega arith in ap (λ (i : ℕ). get_or room i 0) z ∙ at ms x rest s small 0 (omega arith)),
        at ms x rest s small 1 (omega arith),
        at ms x rest s small 2 (omega arith),
        at ms x rest s small 3 (omega arith),
      );
    }
  where
    at : (ms : List ReasonLine) (x : ReasonLine) (rest : List ReasonLine) → ls ≡ ms ++ x ∷ rest → length ms < 1024 → (j : ℕ) → j < 4
        → get_or room (4 * length ms + j) 0 ≡ get_or (numbers_of (x ∷ rest)) j 0
    at ms x rest s small j h =
        let whole : numbers_of ls ≡ numbers_of ms ++ numbers_of (x ∷ rest) = ap numbers_of s ∙ numbers_of_append ms (x ∷ rest) in
        let a = length_numbers_of ms in
        let b = length-append (numbers_of ms) (numbers_of (x ∷ rest)) in
        let c : length (numbers_of ls) ≡ length (numbers_of ms ++ numbers_of (x ∷ rest)) = ap length whole in
        let d : 4 * length ms + j ≡ 0 + (length (numbers_of ms) + j) = omega arith in
        rw (er, d)
        (get_d_sets (numbers_of ls) (replicate 4096 0) 0 (length (numbers_of ms) + j) (omega arith) (omega arith)
        ∙ ap (λ (z : List ℕ). get_or z (length (numbers_of ms) + j) 0) whole ∙ get_or-append-add (numbers_of ms) (numbers_of (x ∷ rest)) j 0)
