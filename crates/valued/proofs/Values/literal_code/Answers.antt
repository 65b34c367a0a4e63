use mathlib.Core.Path.{sym, ◌∙◌}
use native.Mathlib.Omega.{arith}
use Rattle.valued.proofs.Given.{even_given, odd_given}
use Rattle.valued.proofs.Values.literal_code.Goals as goal

pub returns-then-l-eq0 : goal.returns-then-l-eq0
returns-then-l-eq0 c =
    let values = c.args.self.now in
    sym (even_given values.n values.codes.now c.args.l c.requires (values.readable.at_most_3 _ (omega (arith, c.requires))) c.if-l-eq0.true)

pub returns-else-l-eq0 : goal.returns-else-l-eq0
returns-else-l-eq0 c =
    let values = c.args.self.now in
    c.negated_code.ensures ∙ sym
    (odd_given values.n values.codes.now c.args.l c.requires (values.readable.at_most_3 _ (omega (arith, c.requires))) c.if-l-eq0.false)
