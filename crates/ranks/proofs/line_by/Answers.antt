use Rattle.valued.specs.InStructs.{rule_of}
use Rattle.ranks.proofs.Adding.{line_by_lem, nothing_by}
use Rattle.ranks.proofs.line_by.Goals as goal

pub returns-in-Some : goal.returns-in-Some
returns-in-Some c =
    line_by_lem c.args.row.now (rule_of c.args.rule.now).groups c.which_group-body.ensures.which_allows c.in-Some.is

pub returns-in-None : goal.returns-in-None
returns-in-None c =
    nothing_by c.args.row.now (rule_of c.args.rule.now).groups c.which_group-body.ensures.which_allows c.in-None.is
