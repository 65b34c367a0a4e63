use Rattle.host.proofs.Evaluating.{words_refused, words_packable, words_evaluated}
use Rattle.host.proofs.evaluate_words.Goals as goal

pub pack-requires : goal.pack-requires
pack-requires c =
    words_packable _ _ _ _ c.evaluate.result _ c.evaluate.ensures c.in-Err.is

pub returns-in-Ok : goal.returns-in-Ok
returns-in-Ok c =
    words_evaluated _ _ _ _ c.evaluate.result c.evaluate.ensures c.in-Ok.is

pub returns-in-Err : goal.returns-in-Err
returns-in-Err c =
    words_refused _ _ _ _ c.evaluate.result _ _ c.evaluate.ensures c.in-Err.is c.pack.ensures
