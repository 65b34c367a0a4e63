use Rattle.std.specs.Prelude.{Err}
use Rattle.std.proofs.Common.{rules}
use mathlib.Core.Path.{◌≡◌}
use Rattle.sheets.proofs.Entry.{holds_there, refuses, allows_there}
use Rattle.sheets.proofs.read_sheet.Goals as goal

pub value_and_print-requires : goal.value_and_print-requires
value_and_print-requires c =
    holds_there c.args.sheet.now _ _ _ _ _ c.read_words.ensures _
    c.in_ok-filled.was c.read_words.auto.words c.read_words.auto.names

pub returns : goal.returns
returns c =
    allows_there c.args.sheet.now _ _ _ _ _ _ _ _ _ c.read_words.auto.words c.read_words.auto.names c.value_and_print.ensures

pub returns-in_err-filled : goal.returns-in_err-filled
returns-in_err-filled c =
    let e : c.from_residual.result ≡ Err c.in_err-filled.field-0.0 = search rules in
    rw e (refuses c.args.sheet.now _ _ _ _ _ c.read_words.ensures _ _ c.in_err-filled.was)
