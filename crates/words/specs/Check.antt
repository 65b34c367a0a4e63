-- Believed: the table check: 1, 2, then words left to right, and the first faulty word decides.
use Rattle.std.specs.Prelude.{List, [], ◌∷◌, ◌≡◌, Bool, false, not, ◌&&◌, ℕ, zero, suc, ◌*◌, leb, ltb, length, Ok, Err}
use Rattle.refusal.specs.Checks.{or_else, asking, Checked}
use Rattle.limits.specs.Limits.{most_atoms, most_words, most_in_body, most_line}
use Rattle.refusal.specs.Numbers.{too_many_atoms, table_too_long, cut_short, not_a_literal, out_of_range, second_rule}
use Rattle.sets.specs.Sets.{◌with◌}
use Rattle.words.specs.declared.Due.{Due}
use Rattle.words.specs.declared.Due.TheVariants.{Head, Line, Count, Size, Literal}

-- a literal code below 2N
abbrev pub code_fault : ℕ → ℕ → ℕ → Checked
code_fault N p w = asking (ltb w (2 * N)) (not_a_literal p) (Ok tt)

-- a head that no record before has
abbrev pub repeat_fault : (ℕ → Bool) → ℕ → ℕ → Checked
repeat_fault seen p w = asking (not (seen w)) (second_rule p) (Ok tt)

-- a line, a number of groups or a length: not below the least, and not above the most
abbrev pub range_fault : ℕ → ℕ → ℕ → ℕ → Checked
range_fault least most p w = asking (leb least w && leb w most) (out_of_range p) (Ok tt)

-- the fault of a word at place p, by what is due there; `seen` are the heads before it
abbrev pub fault : ℕ → (ℕ → Bool) → Due → ℕ → ℕ → Checked
fault N seen Head p w = or_else (code_fault N p w) (repeat_fault seen p w)
fault N seen Line p w = range_fault 0 most_line p w
fault N seen Count p w = range_fault 0 most_in_body p w
fault N seen (Size g) p w = range_fault 1 most_in_body p w
fault N seen (Literal k g) p w = code_fault N p w

-- g groups are to come: the length of the first is due, or the next head
abbrev pub groups_due : ℕ → Due
groups_due zero = Head
groups_due (suc g) = Size g

-- k literals of a group are to come, and g groups after it
abbrev pub literals_due : ℕ → ℕ → Due
literals_due zero g = groups_due g
literals_due (suc k) g = Literal k g

-- what is due after a word
abbrev pub next : Due → ℕ → Due
next Head w = Line
next Line w = Count
next Count m = groups_due m
next (Size g) k = literals_due k g
next (Literal k g) w = literals_due k g

-- the heads seen after a word
abbrev pub seen_after : Due → (ℕ → Bool) → ℕ → ℕ → Bool
seen_after Head seen w = seen with w
seen_after Line seen w = seen
seen_after Count seen w = seen
seen_after (Size g) seen w = seen
seen_after (Literal k g) seen w = seen

-- the words end, so many of them: between two records, or inside one
abbrev pub ended : Due → ℕ → Checked
ended Head words = Ok tt
ended Line words = Err (cut_short words)
ended Count words = Err (cut_short words)
ended (Size g) words = Err (cut_short words)
ended (Literal k g) words = Err (cut_short words)

-- words left to right from place p: the first faulty one decides
unfoldable pub walk : ℕ → (ℕ → Bool) → Due → ℕ → List ℕ → Checked
walk N seen due p [] = ended due p
walk N seen due p (w ∷ t) = or_else (fault N seen due p w) (walk N (seen_after due seen w) (next due w) (suc p) t)

-- no head before the first word
abbrev pub no_heads : ℕ → Bool
no_heads w = false

-- 1: N above 512
abbrev pub too_many_atoms_fault : ℕ → Checked
too_many_atoms_fault N = asking (leb N most_atoms) too_many_atoms (Ok tt)

-- 2: table above 8,192 words
abbrev pub table_too_long_fault : List ℕ → Checked
table_too_long_fault t = asking (leb (length t) most_words) table_too_long (Ok tt)

-- the table check: N above 512, table above 8,192 words, then the words
unfoldable pub table_check : ℕ → List ℕ → Checked
table_check N t =
    asking (leb N most_atoms) too_many_atoms (asking (leb (length t) most_words) table_too_long (walk N no_heads Head 0 t))

-- the check accepts the table
abbrev pub AcceptedTable : ℕ → List ℕ → Type 0
AcceptedTable N t = table_check N t ≡ Ok tt
