use Rattle.std.specs.Prelude.{Err}
use Rattle.std.proofs.Common.{rules}
use mathlib.Core.Path.{sym, ◌∙◌, ◌≡◌}
use Rattle.reasoncheck.specs.ReasonCheck.{CheckAllows}
use Rattle.reasoncheck.proofs.check_reasons.Goals as goal

pub returns-in_err-check_fault : goal.returns-in_err-check_fault
returns-in_err-check_fault c =
    let e : c.from_residual.result ≡ Err c.in_err-check_fault.field-0.0 = search rules in
    rw e (CheckAllows.refused (sym c.check_fault.ensures ∙ c.in_err-check_fault.was))

pub judge_text-requires : goal.judge_text-requires
judge_text-requires c =
    sym c.check_fault.ensures ∙ c.in_ok-check_fault.was
