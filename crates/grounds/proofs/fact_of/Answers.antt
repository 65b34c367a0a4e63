use mathlib.Core.Path.{ap}
use borrow.Author.Tests.{ne_eqb}
use lib.Dec.{eqb}
use Rattle.grounds.proofs.Nth.{no_groups_lem, some_groups}
use Rattle.grounds.proofs.fact_of.Goals as goal

pub returns-then-group_count-eq0 : goal.returns-then-group_count-eq0
returns-then-group_count-eq0 c =
    let rule = c.args.rule.now in
    let e = no_groups_lem rule.record.table.now rule.record.at _ c.group_count.ensures c.if-group_count-eq0.true in
    rw e (ap (λ x. eqb c.args.l x) c.head.ensures.value)

pub returns-else-group_count-eq0 : goal.returns-else-group_count-eq0
returns-else-group_count-eq0 c =
    let rule = c.args.rule.now in
    let some = some_groups rule.record.table.now rule.record.at _ c.group_count.ensures c.if-group_count-eq0.false rule.record.whole in
    rw some (ne_eqb _ _ c.if-group_count-eq0.false)
