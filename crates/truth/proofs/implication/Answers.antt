use mathlib.Core.Path.{sym, ap, ◌∙◌}
use Rattle.std.proofs.Common.{rules}
use Rattle.std.specs.Prelude.{Ok}
use Rattle.paper.specs.Table1.{code, ◌implies◌}
use Rattle.truth.proofs.Laws.{unread, second_unread, both_read}
use Rattle.truth.proofs.implication.Goals as goal

pub returns-in_err-body : goal.returns-in_err-body
returns-in_err-body c = (search rules) ∙ sym (unread c.args.v _ c.try_from.ensures c.in_err-body.was)

pub returns-in_err-head : goal.returns-in_err-head
returns-in_err-head c =
    (search rules) ∙ sym (second_unread ◌implies◌ c.args.v c.args.w c.try_from.ensures c.in_ok-body.was c.try_from-2.ensures c.in_err-head.was)

pub returns : goal.returns
returns c =
    ap Ok (c.code.ensures ∙ ap code c.implies.ensures)
    ∙ sym (both_read ◌implies◌ c.args.v c.args.w c.try_from.ensures c.in_ok-body.was c.try_from-2.ensures c.in_ok-head.was)
