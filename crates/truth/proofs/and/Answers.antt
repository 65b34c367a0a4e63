use mathlib.Core.Path.{◌∙◌}
use Rattle.paper.specs.Table1.{◌and◌}
use Rattle.truth.proofs.Laws.{first_refused, second_refused, smaller_left, smaller_right}
use Rattle.truth.proofs.and.Goals as goal

pub returns-then-v-gt3 : goal.returns-then-v-gt3
returns-then-v-gt3 c = c.refused.ensures ∙ first_refused ◌and◌ c.args.v c.args.w c.if-v-gt3.true

pub returns-then-w-gt3 : goal.returns-then-w-gt3
returns-then-w-gt3 c = c.refused-then-w-gt3.ensures ∙ second_refused ◌and◌ c.args.v c.args.w c.if-w-gt3.true

pub returns-then-w-v : goal.returns-then-w-v
returns-then-w-v c =
    smaller_right c.args.v c.args.w
    c.if-v-gt3.false c.if-w-gt3.false c.if-w-v.true

pub returns-else-w-v : goal.returns-else-w-v
returns-else-w-v c =
    smaller_left c.args.v c.args.w c.if-v-gt3.false c.if-w-gt3.false c.if-w-v.false
