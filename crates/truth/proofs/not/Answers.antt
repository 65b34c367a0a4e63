use mathlib.Core.Path.{sym, ap, ◌∙◌}
use Rattle.std.proofs.Common.{rules}
use Rattle.std.specs.Prelude.{Ok}
use Rattle.paper.specs.Table1.{code, not'}
use Rattle.truth.proofs.Laws.{unread, one_read}
use Rattle.truth.proofs.not.Goals as goal

pub returns-in_err-try_from : goal.returns-in_err-try_from
returns-in_err-try_from c = (search rules) ∙ sym (unread c.args.v _ c.try_from.ensures c.in_err-try_from.was)

pub returns : goal.returns
returns c = ap Ok (c.code.ensures ∙ ap code c.not.ensures) ∙ sym (one_read not' c.args.v c.try_from.ensures c.in_ok-try_from.was)
