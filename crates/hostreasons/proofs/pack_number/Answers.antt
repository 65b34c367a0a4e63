use mathlib.Core.Path.{sym, ◌∙◌, ap}
use Rattle.hostreasons.specs.ReasonBytes.{packed_number}
use Rattle.hostreasons.proofs.pack_number.Goals as goal

pub pack-requires : goal.pack-requires
pack-requires c =
    c.requires _ c.in-Err.is

pub returns-in-Err : goal.returns-in-Err
returns-in-Err c =
    c.pack.ensures ∙ sym (ap packed_number c.in-Err.is)
