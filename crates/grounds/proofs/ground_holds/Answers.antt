use mathlib.Core.Path.{ap}
use Rattle.justified.specs.declared.Line.{Line}
use Rattle.grounds.proofs.Judging.{told_fact, told_group}
use Rattle.grounds.proofs.ground_holds.Goals as goal

pub returns-then-g-eq0 : goal.returns-then-g-eq0
returns-then-g-eq0 c =
    told_fact _ c.args.lines.now _ _ _ _ (ap (λ (x : Line). x.group) c.line_of-g.ensures) c.if-g-eq0.true c.fact_of.ensures

pub returns : goal.returns
returns c =
    told_group _ c.args.lines.now _ _ _ _ _ (ap (λ (x : Line). x.group) c.line_of-g.ensures) c.if-g-eq0.false c.head-head.ensures.value
    (ap (λ (x : Line). x.rank) c.line_of-rank.ensures) c.carried_code.ensures c.by_carried.ensures
