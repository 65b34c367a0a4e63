use mathlib.Core.Path.{sym, ◌∙◌, ap}
use Rattle.host.specs.Conflict.{packed_decided}
use Rattle.host.proofs.pack_decided.Goals as goal

pub pack-requires : goal.pack-requires
pack-requires c =
    c.requires _ c.in-Err.is

pub returns-in-Err : goal.returns-in-Err
returns-in-Err c =
    c.pack.ensures ∙ sym (ap packed_decided c.in-Err.is)
