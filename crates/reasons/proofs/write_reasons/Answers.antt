use Rattle.std.specs.Prelude.{Err}
use Rattle.std.proofs.Common.{rules}
use mathlib.Core.Path.{sym, ◌∙◌, ◌≡◌}
use Rattle.reasons.specs.Reasons.{ReasonsAllows}
use Rattle.reasons.proofs.write_reasons.Goals as goal

pub returns-in_err-check : goal.returns-in_err-check
returns-in_err-check c =
    let e : c.from_residual.result ≡ Err c.in_err-check.field-0.0 = search rules in
    rw e (ReasonsAllows.refused (sym c.check.ensures ∙ c.in_err-check.was))

pub write_settled-requires : goal.write_settled-requires
write_settled-requires c =
    sym c.check.ensures ∙ c.in_ok-check.was
