use Rattle.std.specs.Prelude.{Err}
use Rattle.std.proofs.Common.{rules}
use mathlib.Core.Path.{sym, ◌∙◌, ◌≡◌}
use Rattle.evaluation.specs.Evaluation.{EvaluationAllows}
use Rattle.evaluation.proofs.evaluate.Goals as goal

pub returns-in_err-evaluation_fault : goal.returns-in_err-evaluation_fault
returns-in_err-evaluation_fault c =
    let e : c.from_residual.result ≡ Err c.in_err-evaluation_fault.field-0.0 = search rules in
    rw e (EvaluationAllows.refused (sym c.evaluation_fault.ensures ∙ c.in_err-evaluation_fault.was))
