use Rattle.std.specs.Prelude.{Err}
use Rattle.std.proofs.Common.{rules}
use mathlib.Core.Path.{sym, ◌∙◌, ◌≡◌}
use Rattle.words.specs.Check.{AcceptedTable}
use Rattle.words.proofs.Laws.{accepted_atoms, accepted_heads}
use Rattle.index.proofs.Placed.{accepted_table}
use Rattle.refusal.specs.Questions.{QuestionAllows}
use Rattle.conflict.proofs.in_conflict.Goals as goal

pub returns-in_err-check : goal.returns-in_err-check
returns-in_err-check c =
    let e : c.from_residual.result ≡ Err c.in_err-check.field-0.0 = search rules in
    rw e (QuestionAllows.refused (sym c.check.ensures ∙ c.in_err-check.was))

pub held_both-requires : goal.held_both-requires
held_both-requires c =
    let N = c.args.n in
    let t = c.args.table.now in
    let accepted : AcceptedTable N t = sym c.check.ensures ∙ c.in_ok-check.was in
    (accepted_atoms N t accepted, accepted_table N t accepted, accepted_heads N t accepted)

pub returns-then-held_both : goal.returns-then-held_both
returns-then-held_both c =
    QuestionAllows.answers_yes (sym c.check.ensures ∙ c.in_ok-check.was) (c.held_both.ensures.when_true c.if-held_both.true)

pub returns : goal.returns
returns c =
    QuestionAllows.answers_no (sym c.check.ensures ∙ c.in_ok-check.was) (c.held_both.ensures.when_false c.if-held_both.false)
