-- Bytes taken two by two. Assumes nothing.
use mathlib.Core.List.{List, [], ◌∷◌, ◌++◌}
use mathlib.Core.Path.{◌≡◌, refl, sym, ap, ap₂, ◌∙◌}
use Prim.Native.Nat.{ℕ, zero, suc, ◌+◌, ◌*◌, ◌/◌, ◌≤◌, ◌<◌}
use native.Mathlib.Numerals.{add-one}
use native.Mathlib.Omega.{arith}
use lib.ListN.{length, get_or, drop, take, set}
use lib.Seq.{drop-cons, set_at, append_snoc, take-suc, length-take-le, take-length}
use Rattle.host.specs.Bytes.{words_in}
use Rattle.host.specs.WholeWords.{word_at}

pub length_words_in : (bs : List ℕ) → length (words_in bs) ≡ length bs / 2
unfolding words_in
length_words_in [] = refl
length_words_in (a ∷ []) = refl
length_words_in (a ∷ b ∷ bs) = let h = length_words_in bs in omega arith

pub words_in_at : (bs : List ℕ) (i : ℕ) → i < length bs / 2 → get_or (words_in bs) i 0 ≡ word_at bs i
unfolding words_in
words_in_at [] i h = absurd (omega arith)
words_in_at (a ∷ []) i h = absurd (omega arith)
words_in_at (a ∷ b ∷ bs) zero h = refl
words_in_at (a ∷ b ∷ bs) (suc i) h =
    let e : 2 * suc i ≡ suc (suc (2 * i)) = omega arith in
    let e' : 2 * suc i + 1 ≡ suc (suc (2 * i + 1)) = omega arith in
    rw (e', e) (words_in_at bs i (omega arith))

-- i words are in, the others still to come
abbrev pub filled : List ℕ → List ℕ → ℕ → List ℕ
filled bs old i = take i (words_in bs) ++ drop i old

pub fills_nothing : (bs old : List ℕ) → old ≡ filled bs old 0
fills_nothing bs old = refl

pub fills_one : (bs old now : List ℕ) (i w : ℕ) → i < length bs / 2 → length bs / 2 ≤ length old
    → w ≡ word_at bs i → now ≡ filled bs old i → set now i w ≡ filled bs old (i + 1)
fills_one bs old now i w h k ew e =
    let n = length_words_in bs in
    ap (λ (l : List ℕ). set l i w) (e ∙ ap (λ (l : List ℕ). take i (words_in bs) ++ l) (drop-cons old i 0 (omega arith)))
    ∙ set_at (take i (words_in bs)) (get_or old i 0) (drop (suc i) old) w i (length-take-le i (words_in bs) (omega arith))
    ∙ sym (append_snoc (take i (words_in bs)) w (drop (suc i) old))
    ∙ rw (add-one i) (ap (λ (l : List ℕ). l ++ drop (suc i) old)
    (sym (take-suc (words_in bs) i 0 (omega arith) ∙ ap (λ (z : ℕ). take i (words_in bs) ++ (z ∷ [])) (words_in_at bs i h ∙ sym ew))))

pub fills_all : (bs old now : List ℕ) (i : ℕ) → i ≤ length bs / 2 → length bs / 2 ≤ i
    → now ≡ filled bs old i → now ≡ words_in bs ++ drop (length bs / 2) old
fills_all bs old now i h k e =
    let n : i ≡ length bs / 2 = omega arith in
    e ∙ ap₂
    (λ (x y : List ℕ). x ++ y) (ap (λ (z : ℕ). take z (words_in bs)) (n ∙ sym (length_words_in bs)) ∙ take-length (words_in bs))
    (ap (λ (z : ℕ). drop z old) n)
