-- Stage: the truth values of the code as the paper's.
use Rattle.std.specs.Prelude.{◌≡◌, ℕ, zero, suc, Result, Ok, Err}
use Rattle.paper.specs.Table1.{Value, 𝐟, 𝐮, 𝐢, 𝐭}
use Rattle.refusal.specs.declared.Refusal.{Refusal}
use Rattle.truth.specs.declared.Truth.{Truth}
use Rattle.truth.specs.declared.Truth.TheVariants.{False, Unknown, Inconsistent, True}
use Rattle.refusal.specs.Numbers.{not_a_truth_code}

abbrev pub value_of : Truth → Value
value_of False = 𝐟
value_of Unknown = 𝐮
value_of Inconsistent = 𝐢
value_of True = 𝐭

-- the value with this code, or the refusal of a code above 3
abbrev pub decoded : ℕ → Result Truth Refusal
decoded zero = Ok False
decoded (suc zero) = Ok Unknown
decoded (suc (suc zero)) = Ok Inconsistent
decoded (suc (suc (suc zero))) = Ok True
decoded (suc (suc (suc (suc n)))) = Err (not_a_truth_code 0)

abbrev pub Decodes : ℕ → Result Truth Refusal → Type 0
Decodes n r = r ≡ decoded n
