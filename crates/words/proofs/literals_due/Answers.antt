use Rattle.words.proofs.Steps.{literals_due_some}
use Rattle.words.proofs.literals_due.Goals as goal

pub returns-else-k-eq0 : goal.returns-else-k-eq0
returns-else-k-eq0 c = literals_due_some c.args.k c.args.g c.if-k-eq0.false
