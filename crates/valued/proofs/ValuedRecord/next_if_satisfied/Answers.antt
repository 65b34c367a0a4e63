use mathlib.Core.Path.{sym, ap, ap₂, ◌∙◌}
use Rattle.valued.specs.Valued.{follows_code, is_satisfied, is_not}
use Rattle.paper.specs.Table1.{code}
use Rattle.paper.specs.Definitions.{value}
use Rattle.values.specs.Given.{given}
use Rattle.valued.proofs.ValuedRecord.next_if_satisfied.Goals as goal

pub returns-then-follows : goal.returns-then-follows
returns-then-follows c =
    let values = c.args.self.now.values in
    is_satisfied (sym (c.follows.ensures ∙ ap₂ follows_code c.body_code-body.ensures.code_value
    (c.literal_code-head.ensures ∙ ap (λ x. code (value (given values.n values.codes.now) x)) c.head.ensures.value)) ∙ c.if-follows.true)
    c.body_code-body.ensures.groups_skipped

pub returns-else-follows : goal.returns-else-follows
returns-else-follows c =
    let values = c.args.self.now.values in
    is_not (sym (c.follows.ensures ∙ ap₂ follows_code c.body_code-body.ensures.code_value
    (c.literal_code-head.ensures ∙ ap (λ x. code (value (given values.n values.codes.now) x)) c.head.ensures.value)) ∙ c.if-follows.false)
