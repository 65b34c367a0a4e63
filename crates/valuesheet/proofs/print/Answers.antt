use mathlib.Core.Path.{sym, ◌∙◌}
use Prim.Native.Nat.{ℕ}
use lib.ListN.{get_or, take}
use Rattle.valuesheet.specs.ValueSheet.{value_sheet}
use Rattle.valuesheet.proofs.Printing.{lines_length, does_not_fit, fits_whole}
use Rattle.valuesheet.proofs.print.Goals as goal

pub returns-then-text-needed : goal.returns-then-text-needed
returns-then-text-needed c =
    let names = take c.args.n c.args.names.now in
    let values : ℕ → ℕ = λ x. get_or c.args.values.now x 0 in
    let out = value_sheet c.args.sheet.now values names in let whole = does_not_fit out _ _
    (c.bytes_needed-needed.ensures ∙ sym (lines_length c.args.sheet.now values 0 names)) c.if-text-needed.true in rw c.refused.ensures (record {
      value = whole.0;
      text_is = whole.1;
    })

pub returns : goal.returns
returns c =
    let names = take c.args.n c.args.names.now in
    let values : ℕ → ℕ = λ x. get_or c.args.values.now x 0 in
    let out = value_sheet c.args.sheet.now values names in let whole = fits_whole out _ _ _
    (c.bytes_needed-needed.ensures ∙ sym (lines_length c.args.sheet.now values 0 names)) c.if-text-needed.false c.put_lines.ensures in record {
      value = whole.0;
      text_is = whole.1;
    }
