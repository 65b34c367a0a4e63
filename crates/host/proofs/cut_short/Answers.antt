use Rattle.host.proofs.Evaluating.{cut_refused, cut_accepted}
use Rattle.host.proofs.cut_short.Goals as goal

pub returns-in-Err : goal.returns-in-Err
returns-in-Err c =
    cut_refused _ _ _ c.requires.1 c.in-Err.is

pub returns : goal.returns
returns c =
    cut_accepted _ _ _ c.requires.0 c.in_default.is c.at.ensures
