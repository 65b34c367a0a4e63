-- A number's digits, written from the last one on. Assumes nothing.
use Rattle.std.proofs.Common.{◌≡◌, ℕ, ◌+◌, ◌-◌, ◌/◌, ◌%◌, ◌^◌, ◌<◌, ◌≤◌, lit<, List, [], ◌∷◌, ◌++◌, length, drop, set, sym, ap, ◌∙◌, append_assoc, arith, length-append}
use Rattle.std.proofs.lemmas.List.{drop-set}
use Rattle.std.proofs.lemmas.Fmt.{decimal_digit, decimal_step, length-decimal-le}
use Rattle.std.specs.Fmt.{decimal}

module _ (left at : ℕ) (text : List ℕ) (fits : length (decimal left) ≤ at) (room : at ≤ length text) where
  -- a digit is put in front of what stands from `at` on
  put : 0 < at → (d : ℕ) → drop (at - 1) (set text (at - 1) d) ≡ d ∷ drop at text
  put some d =
      let lt : at - 1 < length text = omega arith in
      let back : at - 1 + 1 ≡ at = omega arith in
      drop-set text (at - 1) d lt ∙ ap (λ i. d ∷ drop i text) back

  shorter : 10 ≤ left → left < 2 ^ 64 → length (decimal left) ≡ length (decimal (left / 10)) + 1
  shorter many small = ap length (decimal_step left many small) ∙ length-append (decimal (left / 10)) ((48 + left % 10) ∷ [])

  pub digits_before : 10 ≤ left → left < 2 ^ 64 → length (decimal (left / 10)) ≤ at - 1
  digits_before many small = omega (arith, shorter many small, fits)

  pub last_digit_put : 10 ≤ left → left < 2 ^ 64
      → decimal (left / 10) ++ drop (at - 1) (set text (at - 1) (48 + left % 10)) ≡ decimal left ++ drop at text
  last_digit_put many small =
      let some : 0 < at = omega (arith, shorter many small, fits) in
      ap (λ l. decimal (left / 10) ++ l) (put some (48 + left % 10))
      ∙ sym (append_assoc (decimal (left / 10)) ((48 + left % 10) ∷ []) (drop at text))
      ∙ ap (λ l. l ++ drop at text) (sym (decimal_step left many small))

  pub first_digit_put : left < 10 → drop (at - 1) (set text (at - 1) (48 + left)) ≡ decimal left ++ drop at text
  first_digit_put few =
      let some : 0 < at = omega (arith, ap length (decimal_digit left few), fits) in
      put some (48 + left) ∙ ap (λ l. l ++ drop at text) (sym (decimal_digit left few))

pub at_most_twenty : (n : ℕ) → n < 2 ^ 64 → length (decimal n) ≤ 20
at_most_twenty n small = length-decimal-le 20 n (lit< tt) (omega arith) small
