use Rattle.words.proofs.Steps.{groups_due_some}
use Rattle.words.proofs.groups_due.Goals as goal

pub returns-else-g-eq0 : goal.returns-else-g-eq0
returns-else-g-eq0 c = groups_due_some c.args.g c.if-g-eq0.false
