use mathlib.Core.Path.{sym}
use lib.ListN.{get_or-eq_default}
use Rattle.reader.proofs.byte.Goals as goal

pub returns-else-i-sheet : goal.returns-else-i-sheet
returns-else-i-sheet c =
    sym (get_or-eq_default c.args.sheet.now 0 c.if-i-sheet.false)
