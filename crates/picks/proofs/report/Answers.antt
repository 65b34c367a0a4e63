use Rattle.std.specs.Prelude.{Err}
use Rattle.std.proofs.Common.{rules}
use mathlib.Core.Path.{sym, ◌∙◌, ◌≡◌}
use Rattle.picks.specs.Entries.{ReportAllows}
use Rattle.picks.proofs.report.Goals as goal

pub returns-in_err-report_fault : goal.returns-in_err-report_fault
returns-in_err-report_fault c =
    let e : c.from_residual.result ≡ Err c.in_err-report_fault.field-0.0 = search rules in
    rw e (ReportAllows.refused (sym c.report_fault.ensures ∙ c.in_err-report_fault.was))

pub report_settled-requires : goal.report_settled-requires
report_settled-requires c =
    sym c.report_fault.ensures ∙ c.in_ok-report_fault.was
