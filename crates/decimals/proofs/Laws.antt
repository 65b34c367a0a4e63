-- A number's digits: those of its tenth part, and its last one. Assumes nothing.
use mathlib.Core.List.{List, [], ◌∷◌, ◌++◌}
use mathlib.Core.Logic.{◌⊎◌, inl, inr, ⊎_elim}
use mathlib.Core.Path.{◌≡◌, refl, sym, ap, ap₂, ◌∙◌}
use Prim.Native.Nat.{ℕ, zero, suc, ◌+◌, ◌*◌, ◌/◌, ◌%◌, ◌≤◌, ◌<◌}
use native.Mathlib.Omega.{arith}
use lib.Dec.{T, ltb, ltb→lt, nltb→le}
use lib.ListN.{length, length-append}
use borrow.Author.Tests.{lt-ltb, le-ltb}
use Rattle.sets.proofs.Tests.{either}
use Rattle.decimals.specs.Decimals.{digit, last_digits, decimal}

-- a number is below ten, or has a tenth part
pub small_or_not : (n : ℕ) → (n < 10) ⊎ (10 ≤ n)
small_or_not n = ⊎_elim (λ (t : T (ltb n 10)). inl (ltb→lt n 10 t)) (λ (t : T (mathlib.Core.Bool.not (ltb n 10))). inr (nltb→le n 10 t))
    (either (ltb n 10))

last_one : (k n : ℕ) → n < 10 → last_digits (suc k) n ≡ digit n ∷ []
unfolding last_digits
last_one k n h = rw (lt-ltb n 10 h) refl

last_more : (k n : ℕ) → 10 ≤ n → last_digits (suc k) n ≡ last_digits k (n / 10) ++ (digit (n % 10) ∷ [])
unfolding last_digits
last_more k n h = rw (le-ltb n 10 h) refl

-- more digits than a number has change nothing
enough : (k m n : ℕ) → n < k → n < m → last_digits k n ≡ last_digits m n
enough zero m n h h' = absurd (omega arith)
enough (suc k) zero n h h' = absurd (omega arith)
enough (suc k) (suc m) n h h' = go (small_or_not n) (λ g. enough k m (n / 10) (omega arith) (omega arith))
  where
    go : (n < 10) ⊎ (10 ≤ n) → (10 ≤ n → last_digits k (n / 10) ≡ last_digits m (n / 10)) → last_digits (suc k) n ≡ last_digits (suc m) n
    go (inl g) f = last_one k n g ∙ sym (last_one m n g)
    go (inr g) f = last_more k n g ∙ ap (λ (l : List ℕ). l ++ (digit (n % 10) ∷ [])) (f g) ∙ sym (last_more m n g)

pub decimal_small : (n : ℕ) → n < 10 → decimal n ≡ digit n ∷ []
decimal_small n h = last_one n n h

pub decimal_more : (n : ℕ) → 10 ≤ n → decimal n ≡ decimal (n / 10) ++ (digit (n % 10) ∷ [])
decimal_more n h = last_more n n h ∙ ap (λ (l : List ℕ). l ++ (digit (n % 10) ∷ [])) (enough n (suc (n / 10)) (n / 10) (omega arith) (omega arith))

-- a digit more
pub decimal_digit : (n d : ℕ) → 1 ≤ n → d ≤ 9 → decimal (10 * n + d) ≡ decimal n ++ (digit d ∷ [])
decimal_digit n d h k =
    let tenth : (10 * n + d) / 10 ≡ n = omega arith in
    let last : (10 * n + d) % 10 ≡ d = omega arith in
    decimal_more (10 * n + d) (omega arith) ∙ ap₂ (λ (x y : ℕ). decimal x ++ (digit y ∷ [])) tenth last

-- what holds of each digit, and of a number with a digit more, holds of every number
pub by_digits : (P : ℕ → Type 0) → ((n : ℕ) → n < 10 → P n) → ((n : ℕ) → 10 ≤ n → P (n / 10) → P n) → (n : ℕ) → P n
by_digits P small more n = go (suc n) n (omega arith)
  where
    go : (k x : ℕ) → x < k → P x
    go zero x h = absurd (omega arith)
    go (suc k) x h = step (small_or_not x) (λ g. go k (x / 10) (omega arith))
      where
        step : (x < 10) ⊎ (10 ≤ x) → (10 ≤ x → P (x / 10)) → P x
        step (inl g) f = small x g
        step (inr g) f = more x g (f g)

pub length_small : (n : ℕ) → n < 10 → length (decimal n) ≡ 1
length_small n h = ap length (decimal_small n h)

pub length_more : (n : ℕ) → 10 ≤ n → length (decimal n) ≡ length (decimal (n / 10)) + 1
length_more n h = ap length (decimal_more n h) ∙ length-append (decimal (n / 10)) (digit (n % 10) ∷ [])

-- no more digits than its value, and one more
pub length_at_most : (n : ℕ) → length (decimal n) ≤ n + 1
length_at_most = by_digits (λ n. length (decimal n) ≤ n + 1) (λ n h. omega (arith, length_small n h)) (λ n h r. omega (arith, length_more n h))

pub length_some : (n : ℕ) → 1 ≤ length (decimal n)
length_some = by_digits (λ n. 1 ≤ length (decimal n)) (λ n h. omega (arith, length_small n h)) (λ n h r. omega (arith, length_more n h))

-- a digit more for ten times as much
digit_more : (d b : ℕ) → ((x : ℕ) → x < b → length (decimal x) ≤ d) → (x : ℕ) → x < 10 * b → length (decimal x) ≤ d + 1
digit_more d b f x k =
    ⊎_elim (λ (s : x < 10). let e = length_small x s in let i = f (x / 10) (omega arith) in let j = length_some (x / 10) in omega arith)
    (λ (l : 10 ≤ x). let e = length_more x l in let i = f (x / 10) (omega arith) in omega arith) (small_or_not x)

pub length_two : (n : ℕ) → n < 100 → length (decimal n) ≤ 2
length_two = digit_more 1 10 (λ x k. omega (arith, length_small x k))

pub length_four : (n : ℕ) → n < 10000 → length (decimal n) ≤ 4
length_four = digit_more 3 1000 (digit_more 2 100 length_two)

pub length_five : (n : ℕ) → n < 100000 → length (decimal n) ≤ 5
length_five = digit_more 4 10000 length_four
