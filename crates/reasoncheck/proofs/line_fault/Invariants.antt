use mathlib.Core.Bool.{◌&&◌}
use lib.Dec.{leb}
use Rattle.limits.specs.Limits.{most_rank}
use Rattle.bits.specs.Sets.{member}
use Rattle.justified.specs.ByLiteral.{rank_in}
use Rattle.values.specs.Given.{given}
use Rattle.reasoncheck.proofs.Matches.{Passing}
use Rattle.reasoncheck.proofs.line_fault.Given as goal

abbrev pub invariant-loop-l : goal.invariant-loop-l
invariant-loop-l l =
    Passing (given l.values.n l.values.codes.now) (λ x. leb (rank_in l.lines x) most_rank && member l.ok x) l.l l.k
