-- Believed: the connectives of Table 1 over truth codes; a code above 3 is refused by 20 at place 0.
use Rattle.std.specs.Prelude.{ℕ, zero, suc, Ok, Err, Result}
use Rattle.paper.specs.Table1.{Value, 𝐟, 𝐮, 𝐢, 𝐭, code, ◌and◌, ◌or◌, not', ◌implies◌}
use Rattle.refusal.specs.Numbers.{not_a_truth_code}
use Rattle.refusal.specs.declared.Refusal.{Refusal}

-- goes on with the value that a code stands for
unfoldable pub with_value : ℕ → (Value → Result ℕ Refusal) → Result ℕ Refusal
with_value zero f = f 𝐟
with_value (suc zero) f = f 𝐮
with_value (suc (suc zero)) f = f 𝐢
with_value (suc (suc (suc zero))) f = f 𝐭
with_value (suc (suc (suc (suc n)))) f = Err (not_a_truth_code 0)

abbrev pub conjunction : ℕ → ℕ → Result ℕ Refusal
conjunction v w = with_value v (λ a. with_value w (λ b. Ok (code (a and b))))

abbrev pub disjunction : ℕ → ℕ → Result ℕ Refusal
disjunction v w = with_value v (λ a. with_value w (λ b. Ok (code (a or b))))

abbrev pub negated : ℕ → Result ℕ Refusal
negated v = with_value v (λ a. Ok (code (not' a)))

-- body first, then head
abbrev pub implied : ℕ → ℕ → Result ℕ Refusal
implied v w = with_value v (λ a. with_value w (λ b. Ok (code (a implies b))))
