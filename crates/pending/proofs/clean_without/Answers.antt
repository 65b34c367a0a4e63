use Rattle.std.proofs.Common.{rules}
use Rattle.pending.proofs.Marked.{working_starts, clean_there}
use Rattle.pending.proofs.clean_without.Goals as goal

pub close-requires : goal.close-requires
close-requires c =
    let facts = c.facts.ensures.facts in
    (search rules, rw c.rules.view_is (rw c.begin-clean.ensures (working_starts _ _ _ _ c.facts.ensures.table facts facts.row (λ l h. h))))

pub returns : goal.returns
returns c = λ A pairs. clean_there A _ _ _ _ c.facts.ensures.facts pairs (rw c.begin-clean.ensures at (rw c.rules.view_is at c.close.ensures))
