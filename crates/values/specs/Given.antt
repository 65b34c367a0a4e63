-- Believed: the interpretation that value codes give.
use Rattle.std.specs.Prelude.{Bool, cond, ◌&&◌, ◌||◌, List, ℕ, ◌%◌, leb, ltb, eqb, get_or}
use Rattle.paper.specs.Rules.{atom}
use Rattle.paper.specs.Definitions.{Interpretation}

-- a code puts the positive literal of its atom in (i, t), and the negative one (f, i)
abbrev pub puts_literal : ℕ → ℕ → Bool
puts_literal code l = cond (eqb (l % 2) 0) (leb 2 code) (eqb code 0 || eqb code 2)

-- the literals of N atoms, as the first N codes have them; no others
unfoldable pub given : ℕ → List ℕ → Interpretation
given N values l = ltb (atom l) N && puts_literal (get_or values (atom l) 0) l
