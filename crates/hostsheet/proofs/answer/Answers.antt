use mathlib.Core.Path.{sym, ap, ◌∙◌}
use Rattle.hostsheet.specs.SheetBytes.{packed_answer}
use Rattle.hostsheet.proofs.answer.Goals as goal

pub pack-requires : goal.pack-requires
pack-requires c =
    c.requires _ c.in-Err.is

pub returns-in-Err : goal.returns-in-Err
returns-in-Err c =
    c.pack.ensures ∙ ap packed_answer (sym c.in-Err.is)
