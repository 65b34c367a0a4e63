use Rattle.std.specs.Prelude.{Err}
use borrow.Author.Rules.{rules}
use mathlib.Core.Path.{sym, ◌∙◌, ◌≡◌}
use Rattle.picks.proofs.Accepted.{settled_accepted}
use Rattle.records.proofs.Laws.{record_good}
use Rattle.words.proofs.Laws.{accepted_heads}
use Rattle.index.proofs.Placed.{accepted_table}
use Rattle.refusal.specs.Questions.{QuestionAllows}
use Rattle.picks.proofs.settled.Goals as goal

pub returns-in_err-settled_fault : goal.returns-in_err-settled_fault
returns-in_err-settled_fault c =
    let e : c.from_residual.result ≡ Err c.in_err-settled_fault.field-0.0 = search rules in
    rw e (QuestionAllows.refused (sym c.settled_fault.ensures ∙ c.in_err-settled_fault.was))

pub build-rules-requires : goal.build-rules-requires
build-rules-requires c =
    let a = settled_accepted c.args.record c.args.table.now (sym c.settled_fault.ensures ∙ c.in_ok-settled_fault.was) in
    (accepted_table c.args.record.n c.args.table.now a.1, c.empty-room.ensures)

pub can_go_on-requires : goal.can_go_on-requires
can_go_on-requires c =
    let a = settled_accepted c.args.record c.args.table.now (sym c.settled_fault.ensures ∙ c.in_ok-settled_fault.was) in
    ((record_good _ a.0).at_most_512, search rules, rw c.build-rules.ensures (accepted_heads c.args.record.n c.args.table.now a.1))

pub returns-then-can_go_on : goal.returns-then-can_go_on
returns-then-can_go_on c =
    QuestionAllows.answers_no (sym c.settled_fault.ensures ∙ c.in_ok-settled_fault.was)
    ((rw c.build-rules.ensures at c.can_go_on.ensures).when_true c.if-can_go_on.true)

pub returns : goal.returns
returns c =
    QuestionAllows.answers_yes (sym c.settled_fault.ensures ∙ c.in_ok-settled_fault.was)
    ((rw c.build-rules.ensures at c.can_go_on.ensures).when_false c.if-can_go_on.false)
