use Rattle.std.specs.Prelude.{Err}
use Rattle.std.proofs.Common.{rules}
use mathlib.Core.Path.{sym, ◌∙◌, ◌≡◌}
use Rattle.evaluation.proofs.Evaluated.{evaluation_accepted}
use Rattle.reasoncheck.proofs.Checks.{fault_first, fault_codes}
use Rattle.reasoncheck.proofs.check_fault.Goals as goal

pub returns-in_err-evaluation_fault : goal.returns-in_err-evaluation_fault
returns-in_err-evaluation_fault c =
    let e : c.from_residual.result ≡ Err c.in_err-evaluation_fault.field-0.0 = search rules in
    rw e (fault_first _ _ _ c.evaluation_fault.ensures c.in_err-evaluation_fault.was)

pub codes_fault-requires : goal.codes_fault-requires
codes_fault-requires c =
    (evaluation_accepted _ _ _ (sym c.evaluation_fault.ensures ∙ c.in_ok-evaluation_fault.was)).2

pub returns : goal.returns
returns c =
    fault_codes _ _ _ c.evaluation_fault.ensures c.in_ok-evaluation_fault.was c.codes_fault.ensures
