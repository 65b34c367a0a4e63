-- Stage: the line of a refusal.
use Rattle.std.specs.Prelude.{List, ℕ, ◌++◌, codes}
use Rattle.std.specs.Fmt.{decimal}
use Rattle.refusal.specs.declared.Refusal.{Refusal}

-- refused, number, place, parted by tabs
abbrev pub refusal_line : Refusal → List ℕ
refusal_line r = codes "refused\t" ++ decimal r.number ++ codes "\t" ++ decimal r.place ++ codes "\n"
