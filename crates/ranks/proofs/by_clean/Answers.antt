use Rattle.ranks.proofs.Adding.{clean_first, second_one, second_other}
use Rattle.ranks.proofs.by_clean.Goals as goal

pub returns-in-OneLine : goal.returns-in-OneLine
returns-in-OneLine c =
    second_one _ c.args.ranked.now _ c.line_by.ensures c.line_by-in-Nothing.ensures c.in-Nothing.is c.in-OneLine.is

pub returns-in_default-line_by : goal.returns-in_default-line_by
returns-in_default-line_by c =
    second_other _ c.args.ranked.now _ c.line_by.ensures c.line_by-in-Nothing.ensures c.in-Nothing.is
    c.in_default-line_by.not-OneLine

pub returns-in_default : goal.returns-in_default
returns-in_default c =
    clean_first _ c.args.ranked.now _ c.line_by.ensures c.in_default.not-Nothing
