use mathlib.Core.Path.{sym, ◌∙◌, ap}
use Rattle.hostreasons.specs.CheckBytes.{packed_check}
use Rattle.hostreasons.proofs.pack_checked.Goals as goal

pub pack_readable-requires : goal.pack_readable-requires
pack_readable-requires c =
    c.requires _ c.in-Err.is

pub returns-in-Err : goal.returns-in-Err
returns-in-Err c =
    c.pack_readable.ensures ∙ sym (ap packed_check c.in-Err.is)
