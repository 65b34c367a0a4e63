use mathlib.Core.Path.{sym, ap, ◌∙◌}
use Rattle.std.proofs.Common.{rules}
use Rattle.std.specs.Prelude.{Ok}
use Rattle.paper.specs.Table1.{code, ◌or◌}
use Rattle.truth.proofs.Laws.{unread, second_unread, both_read}
use Rattle.truth.proofs.or.Goals as goal

pub returns-in_err-a : goal.returns-in_err-a
returns-in_err-a c = (search rules) ∙ sym (unread c.args.v _ c.try_from.ensures c.in_err-a.was)

pub returns-in_err-b : goal.returns-in_err-b
returns-in_err-b c =
    (search rules) ∙ sym (second_unread ◌or◌ c.args.v c.args.w c.try_from.ensures c.in_ok-a.was c.try_from-2.ensures c.in_err-b.was)

pub returns : goal.returns
returns c =
    ap Ok (c.code.ensures ∙ ap code c.or.ensures)
    ∙ sym (both_read ◌or◌ c.args.v c.args.w c.try_from.ensures c.in_ok-a.was c.try_from-2.ensures c.in_ok-b.was)
