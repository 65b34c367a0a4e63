-- Believed: the reason sheet: lines of four decimal numbers, parted by tabs and ended by byte 10; and where a text is broken.
use Rattle.std.specs.Prelude.{List, [], ◌∷◌, ◌++◌, ◌≡◌, ℕ, suc, ◌≤◌, ◌<◌, length, take}
use Rattle.sets.specs.Sets.{◌∈◌}
use Rattle.limits.specs.Limits.{most_four_digits}
use Rattle.decimals.specs.Decimals.{decimal}

-- a line: literal code, rank, head code of the rule it rests on, group number (0 for a fact)
pub record ReasonLine : Type 0 where
  pub literal : ℕ
  pub rank : ℕ
  pub rule_head : ℕ
  pub group : ℕ

abbrev pub line : ℕ → ℕ → ℕ → ℕ → ReasonLine
line l r h g = record { literal = l; rank = r; rule_head = h; group = g }

abbrev pub line_text : ReasonLine → List ℕ
line_text x = decimal x.literal ++ 9 ∷ decimal x.rank ++ 9 ∷ decimal x.rule_head ++ 9 ∷ decimal x.group ++ 10 ∷ []

unfoldable pub reason_text : List ReasonLine → List ℕ
reason_text [] = []
reason_text (x ∷ ls) = line_text x ++ reason_text ls

-- each number has one to four digits
pub record FourDigits (x : ReasonLine) : Type 0 where
  pub literal_small : x.literal ≤ most_four_digits
  pub rank_small : x.rank ≤ most_four_digits
  pub head_small : x.rule_head ≤ most_four_digits
  pub group_small : x.group ≤ most_four_digits

-- a good text, and its lines
pub record IsReasonText (text : List ℕ) (ls : List ReasonLine) : Type 0 where
  pub four_digits : (x : ReasonLine) → x ∈ ls → FourDigits x
  pub text_is : text ≡ reason_text ls

-- the beginning of a good text
abbrev pub Beginning : List ℕ → Type 0
Beginning bytes = (rest : List ℕ) × (ls : List ReasonLine) × IsReasonText (bytes ++ rest) ls

-- p is the first byte with which the text is no longer the beginning of a good one, or its length if it is that and not good itself
pub record Broken (text : List ℕ) (p : ℕ) : Type 0 where
  pub inside : p ≤ length text
  pub so_far : Beginning (take p text)
  pub no_further : p < length text → Beginning (take (suc p) text) → ⊥
  pub not_good : (ls : List ReasonLine) → IsReasonText text ls → ⊥
