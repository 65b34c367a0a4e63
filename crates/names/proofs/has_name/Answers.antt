use mathlib.Core.Path.{sym, ◌∙◌}
use borrow.Author.Tests.{ne_eqb}
use native.Mathlib.Omega.{arith}
use Rattle.names.proofs.Steps.{other_length_name}
use Rattle.names.proofs.has_name.Goals as goal

pub same_name-requires : goal.same_name-requires
same_name-requires c =
    record {
      n_bound = omega arith;
      n_bound_2 = omega arith;
    }

pub returns-then-e-len : goal.returns-then-e-len
returns-then-e-len c =
    rw c.if-e-len.true c.same_name.ensures

pub returns-else-e-len : goal.returns-else-e-len
returns-else-e-len c =
    ne_eqb _ _ c.if-e-len.false ∙ sym (other_length_name c.args.sheet.now c.args.e c.args.start c.args.len c.if-e-len.false)
