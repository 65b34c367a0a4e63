use Rattle.reasons.proofs.Writing.{printed_none, printed_fits}
use Rattle.reasons.proofs.print_sheet.Goals as goal

pub returns-then-text-needed : goal.returns-then-text-needed
returns-then-text-needed c =
    printed_none _ _ _ c.sheet_length-needed.ensures c.if-text-needed.true c.refused.ensures

pub returns : goal.returns
returns c =
    printed_fits _ _ _ c.sheet_length-needed.ensures c.if-text-needed.false c.put_sheet.ensures
