use Rattle.bits.specs.Sets.{member}
use Rattle.ranks.proofs.Adding.{adds_nothing, adds_by_clean, adds_by_ranked}
use Rattle.ranks.proofs.choose.Goals as goal

pub returns-then-not_its_turn : goal.returns-then-not_its_turn
returns-then-not_its_turn c =
    let a = c.args in
    adds_nothing a.marked a.clean.now (member a.marks.now) a.ranked.now a.rule.now.table.now a.rule.now.at
    c.head.ensures.value c.not_its_turn.ensures c.if-not_its_turn.true

pub returns-then-marked : goal.returns-then-marked
returns-then-marked c =
    let a = c.args in
    adds_by_clean a.marked a.clean.now (member a.marks.now) a.ranked.now a.rule.now.table.now a.rule.now.at
    c.head.ensures.value c.not_its_turn.ensures c.if-not_its_turn.false c.if-marked.true c.by_clean.ensures

pub returns-else-marked : goal.returns-else-marked
returns-else-marked c =
    let a = c.args in
    adds_by_ranked a.marked a.clean.now (member a.marks.now) a.ranked.now a.rule.now.table.now a.rule.now.at
    c.head.ensures.value c.not_its_turn.ensures c.if-not_its_turn.false c.if-marked.false c.line_by.ensures
