-- Stage: lines kept by literal: of each literal its rank, the head code of the rule that its line names, and the group's number.
use Rattle.std.specs.Prelude.{List, ℕ, get_or, set}
use Rattle.justified.specs.declared.Line.{Line}

abbrev pub no_line : Line
no_line = record { rank = 0; head = 0; group = 0 }

abbrev pub line_in : List Line → ℕ → Line
line_in lines l = get_or lines l no_line

abbrev pub rank_in : List Line → ℕ → ℕ
rank_in lines l = (line_in lines l).rank

abbrev pub head_in : List Line → ℕ → ℕ
head_in lines l = (line_in lines l).head

abbrev pub group_in : List Line → ℕ → ℕ
group_in lines l = (line_in lines l).group

-- with a line of literal l
abbrev pub with_line_of : List Line → ℕ → ℕ → ℕ → ℕ → List Line
with_line_of lines l r h g = set lines l (record { rank = r; head = h; group = g })
