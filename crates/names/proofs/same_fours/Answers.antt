use mathlib.Core.Path.{◌∙◌}
use borrow.Author.Tests.{ne_eqb}
use native.Mathlib.Omega.{arith}
use Rattle.names.proofs.Eights.{fours_differ, fours_decide}
use Rattle.names.proofs.same_fours.Goals as goal

pub returns-then-four : goal.returns-then-four
returns-then-four c =
    fours_decide c.args.sheet.now (λ i. omega (arith, c.shared_slice_known-1.given i)) c.args.a
    c.args.b c.args.n c.four.result c.four-2.result
    c.four-then-four.result c.four-then-four-2.result c.requires.le_n c.requires.n_bound c.four.ensures.value
    c.four-2.ensures.value c.if-four.true c.four-then-four.ensures.value c.four-then-four-2.ensures.value

pub returns-else-four : goal.returns-else-four
returns-else-four c =
    ne_eqb _ _ c.if-four.false ∙ fours_differ c.args.sheet.now (λ i. omega (arith, c.shared_slice_known-1.given i))
    c.args.a c.args.b c.args.n c.four.result c.four-2.result
    c.requires.le_n c.four.ensures.value c.four-2.ensures.value c.if-four.false
