-- Each connective over codes is Table 1's over values, and a code above 3 is refused.
use mathlib.Core.Path.{◌≡◌, refl, sym, ap, ◌∙◌}
use Prim.Native.Nat.{ℕ, zero, suc, ◌<◌}
use native.Mathlib.Omega.{arith}
use Rattle.std.specs.Prelude.{Result, Ok, Err}
use Rattle.paper.specs.Table1.{Value, 𝐟, 𝐮, 𝐢, 𝐭, code, ◌and◌, ◌or◌, not', ◌implies◌}
use Rattle.refusal.specs.Numbers.{not_a_truth_code}
use Rattle.refusal.specs.declared.Refusal.{Refusal}
use Rattle.truth.specs.Connectives.{with_value, conjunction, disjunction, negated, implied}
use Rattle.truth.specs.Truth.{value_of, decoded}
use Rattle.truth.specs.declared.Truth.{Truth}
use Rattle.truth.specs.declared.Truth.TheVariants.{False, Unknown, Inconsistent, True}

-- the code of a value gives the value back
with_value_code : (a : Value) (f : Value → Result ℕ Refusal) → with_value (code a) f ≡ f a
unfolding with_value
with_value_code 𝐟 f = refl
with_value_code 𝐮 f = refl
with_value_code 𝐢 f = refl
with_value_code 𝐭 f = refl

with_value_above : (v : ℕ) (f : Value → Result ℕ Refusal) → 3 < v → with_value v f ≡ Err (not_a_truth_code 0)
unfolding with_value
with_value_above zero f h = absurd (omega arith)
with_value_above (suc zero) f h = absurd (omega arith)
with_value_above (suc (suc zero)) f h = absurd (omega arith)
with_value_above (suc (suc (suc zero))) f h = absurd (omega arith)
with_value_above (suc (suc (suc (suc n)))) f h = refl

with_value_refused : (v : ℕ) (f : Value → Result ℕ Refusal) → ((a : Value) → f a ≡ Err (not_a_truth_code 0)) → with_value v f ≡ Err
    (not_a_truth_code 0)
unfolding with_value
with_value_refused zero f h = h 𝐟
with_value_refused (suc zero) f h = h 𝐮
with_value_refused (suc (suc zero)) f h = h 𝐢
with_value_refused (suc (suc (suc zero))) f h = h 𝐭
with_value_refused (suc (suc (suc (suc n)))) f h = refl

-- ---- Table 1

pub not_is_table_1 : (a : Value) → negated (code a) ≡ Ok (code (not' a))
not_is_table_1 a = with_value_code a (λ x. Ok (code (not' x)))

-- a connective of two values
module _ (f : Value → Value → Value) where
  both_codes : (a b : Value) → with_value (code a) (λ x. with_value (code b) (λ y. Ok (code (f x y)))) ≡ Ok (code (f a b))
  both_codes a b = with_value_code a (λ x. with_value (code b) (λ y. Ok (code (f x y)))) ∙ with_value_code b (λ y. Ok (code (f a y)))

  pub first_refused : (v w : ℕ) → 3 < v → Err (not_a_truth_code 0) ≡ with_value v (λ x. with_value w (λ y. Ok (code (f x y))))
  first_refused v w h = sym (with_value_above v (λ x. with_value w (λ y. Ok (code (f x y)))) h)

  pub second_refused : (v w : ℕ) → 3 < w → Err (not_a_truth_code 0) ≡ with_value v (λ x. with_value w (λ y. Ok (code (f x y))))
  second_refused v w h =
      sym (with_value_refused v (λ x. with_value w (λ y. Ok (code (f x y)))) (λ a. with_value_above w (λ y. Ok (code (f a y))) h))

pub and_is_table_1 : (a b : Value) → conjunction (code a) (code b) ≡ Ok (code (a and b))
and_is_table_1 = both_codes ◌and◌

pub or_is_table_1 : (a b : Value) → disjunction (code a) (code b) ≡ Ok (code (a or b))
or_is_table_1 = both_codes ◌or◌

pub implication_is_table_1 : (a b : Value) → implied (code a) (code b) ≡ Ok (code (a implies b))
implication_is_table_1 = both_codes ◌implies◌

pub not_refused : (v : ℕ) → 3 < v → Err (not_a_truth_code 0) ≡ negated v
not_refused v h = sym (with_value_above v (λ x. Ok (code (not' x))) h)

-- ---- what the code computes

-- a code that was read goes on with its value
read : (v : ℕ) {a : Truth} (f : Value → Result ℕ Refusal) → decoded v ≡ Ok a → with_value v f ≡ f (value_of a)
unfolding with_value
read zero f e = let q : ◌≡◌ {A = Truth} False _ = cc in ap (λ (x : Truth). f (value_of x)) q
read (suc zero) f e = let q : ◌≡◌ {A = Truth} Unknown _ = cc in ap (λ (x : Truth). f (value_of x)) q
read (suc (suc zero)) f e = let q : ◌≡◌ {A = Truth} Inconsistent _ = cc in ap (λ (x : Truth). f (value_of x)) q
read (suc (suc (suc zero))) f e = let q : ◌≡◌ {A = Truth} True _ = cc in ap (λ (x : Truth). f (value_of x)) q
read (suc (suc (suc (suc n)))) f e = let z : ◌≡◌ {A = ℕ} 0 1 = cc in absurd (omega arith)

-- a code that was not read is refused
pub unread : (v : ℕ) {g : Refusal} {r : Result Truth Refusal} (f : Value → Result ℕ Refusal) → r ≡ decoded v → r ≡ Err g
    → with_value v f ≡ Err g
unfolding with_value
unread zero f d e = let z : ◌≡◌ {A = ℕ} 0 1 = cc in absurd (omega arith)
unread (suc zero) f d e = let z : ◌≡◌ {A = ℕ} 0 1 = cc in absurd (omega arith)
unread (suc (suc zero)) f d e = let z : ◌≡◌ {A = ℕ} 0 1 = cc in absurd (omega arith)
unread (suc (suc (suc zero))) f d e = let z : ◌≡◌ {A = ℕ} 0 1 = cc in absurd (omega arith)
unread (suc (suc (suc (suc n)))) f d e = let q : not_a_truth_code 0 ≡ _ = cc in ap Err q

-- the value of a code that was read
pub one_read : (f : Value → Value) (v : ℕ) {r : Result Truth Refusal} {a : Truth} → r ≡ decoded v → r ≡ Ok a
    → with_value v (λ x. Ok (code (f x))) ≡ Ok (code (f (value_of a)))
one_read f v d e = read v (λ x. Ok (code (f x))) (sym d ∙ e)

module _ (f : Value → Value → Value) (v w : ℕ) {r : Result Truth Refusal} {a : Truth} (d : r ≡ decoded v) (e : r ≡ Ok a) where
  first_read : with_value v (λ x. with_value w (λ y. Ok (code (f x y)))) ≡ with_value w (λ y. Ok (code (f (value_of a) y)))
  first_read = read v (λ x. with_value w (λ y. Ok (code (f x y)))) (sym d ∙ e)

  pub second_unread : {q : Result Truth Refusal} {g : Refusal} → q ≡ decoded w → q ≡ Err g
      → with_value v (λ x. with_value w (λ y. Ok (code (f x y)))) ≡ Err g
  second_unread d' e' = first_read ∙ unread w (λ y. Ok (code (f (value_of a) y))) d' e'

  pub both_read : {q : Result Truth Refusal} {b : Truth} → q ≡ decoded w → q ≡ Ok b
      → with_value v (λ x. with_value w (λ y. Ok (code (f x y)))) ≡ Ok (code (f (value_of a) (value_of b)))
  both_read d' e' = first_read ∙ one_read (f (value_of a)) w d' e'

-- two answers that a promise allows are equal
pub one_answer : {r r' t : Result ℕ Refusal} → r ≡ t → r' ≡ t → r ≡ r'
one_answer e e' = e ∙ sym e'
