use mathlib.Core.Path.{sym, ◌∙◌}
use Rattle.picks.specs.Entries.{PickAllows}
use Rattle.picks.proofs.pick_by_value.Goals as goal

pub returns-in-Err : goal.returns-in-Err
returns-in-Err c =
    PickAllows.refused (sym c.pick_fault.ensures ∙ c.in-Err.is)

pub mark_atom-requires : goal.mark_atom-requires
mark_atom-requires c =
    sym c.pick_fault.ensures ∙ c.in_default.is
