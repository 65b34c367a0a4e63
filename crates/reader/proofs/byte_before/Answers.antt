use mathlib.Core.Path.{◌∙◌}
use Rattle.reader.specs.Sheet.{byte_before}
use Rattle.reader.proofs.Runs.{byte_before_some}
use Rattle.reader.proofs.byte_before.Goals as goal

pub returns-then-place-eq0 : goal.returns-then-place-eq0
unfolding byte_before
returns-then-place-eq0 c =
    rw c.if-place-eq0.true

pub returns-else-place-eq0 : goal.returns-else-place-eq0
returns-else-place-eq0 c =
    c.byte.ensures ∙ byte_before_some c.args.sheet.now c.args.place c.if-place-eq0.false
