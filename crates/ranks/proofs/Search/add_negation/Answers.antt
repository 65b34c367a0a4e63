use mathlib.Core.Path.{ap, ◌∙◌}
use Prim.Native.Nat.{ℕ}
use Rattle.bits.specs.Sets.{member}
use Rattle.ranks.specs.Found.{with_line}
use Rattle.ranks.proofs.Adding.{negation_has_line, negation_gets_line}
use Rattle.ranks.proofs.Search.add_negation.Goals as goal

pub returns-then-not-has-clause-found_after : goal.returns-then-not-has-clause-found_after
returns-then-not-has-clause-found_after c =
    let found = c.args.self.now.found in
    negation_gets_line found c.args.head c.args.group (c.has.ensures ∙ ap (member found.ranked) c.negated-l.ensures) c.if-not-has.true
    (c.add_line.ensures.found_after ∙ ap (λ (l : ℕ). with_line found l c.args.head c.args.group) c.negated-l.ensures)

pub returns-else-not-has-clause-found_after : goal.returns-else-not-has-clause-found_after
returns-else-not-has-clause-found_after c =
    let found = c.args.self.now.found in
    negation_has_line found c.args.head c.args.group (c.has.ensures ∙ ap (member found.ranked) c.negated-l.ensures) c.if-not-has.false
