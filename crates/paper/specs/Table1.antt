-- Believed: Table 1 of the paper, in the four rows of document 01: values, codes, AND, OR, NOT, implication.
use Rattle.std.specs.Prelude.{cond, ℕ, leb}

infixl 45 ◌and◌
infixl 40 ◌or◌
infix 35 ◌implies◌
-- false, unknown, inconsistent, true: the truth order
pub data Value : Type 0 where
  𝐟 𝐮 𝐢 𝐭 : Value

-- codes in truth order
abbrev pub code : Value → ℕ
code 𝐟 = 0
code 𝐮 = 1
code 𝐢 = 2
code 𝐭 = 3

-- AND is the smaller
abbrev pub ◌and◌ : Value → Value → Value
v and w = cond (leb (code v) (code w)) v w

-- OR is the larger
abbrev pub ◌or◌ : Value → Value → Value
v or w = cond (leb (code v) (code w)) w v

-- NOT: f to t, u to u, i to i, t to f
abbrev pub not' : Value → Value
not' 𝐟 = 𝐭
not' 𝐮 = 𝐮
not' 𝐢 = 𝐢
not' 𝐭 = 𝐟

-- four values in the order of the columns f, u, i, t
pub record Row : Type 0 where
  pub at_f : Value
  pub at_u : Value
  pub at_i : Value
  pub at_t : Value

-- the column of a value
abbrev pub column : Row → Value → Value
column r 𝐟 = r.at_f
column r 𝐮 = r.at_u
column r 𝐢 = r.at_i
column r 𝐭 = r.at_t

-- implication: the row of the body
abbrev pub implication : Value → Row
implication 𝐟 = record { at_f = 𝐭; at_u = 𝐭; at_i = 𝐭; at_t = 𝐭 }
implication 𝐮 = record { at_f = 𝐭; at_u = 𝐭; at_i = 𝐭; at_t = 𝐭 }
implication 𝐢 = record { at_f = 𝐟; at_u = 𝐟; at_i = 𝐭; at_t = 𝐟 }
implication 𝐭 = record { at_f = 𝐟; at_u = 𝐟; at_i = 𝐭; at_t = 𝐭 }

-- body → head: rows the body, columns the head
abbrev pub ◌implies◌ : Value → Value → Value
body implies head = column (implication body) head
