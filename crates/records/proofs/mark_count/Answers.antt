use Rattle.std.specs.Prelude.{Err}
use Rattle.std.proofs.Common.{rules}
use mathlib.Core.Path.{sym, ◌∙◌, ◌≡◌}
use Rattle.records.specs.Records.{CountAllows}
use Rattle.records.proofs.mark_count.Goals as goal

pub returns-in_err-record_fault : goal.returns-in_err-record_fault
returns-in_err-record_fault c =
    let e : c.from_residual.result ≡ Err c.in_err-record_fault.field-0.0 = search rules in
    rw e (CountAllows.refused (sym c.record_fault.ensures ∙ c.in_err-record_fault.was))

pub returns : goal.returns
returns c = CountAllows.counted (sym c.record_fault.ensures ∙ c.in_ok-record_fault.was)
