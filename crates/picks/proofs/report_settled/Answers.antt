use borrow.Author.Rules.{rules}
use lib.ListN.{length}
use Rattle.bits.specs.Sets.{member}
use Rattle.picks.proofs.Accepted.{report_accepted}
use Rattle.records.proofs.Laws.{record_good}
use Rattle.words.proofs.Laws.{accepted_heads}
use Rattle.index.proofs.Placed.{accepted_table}
use Rattle.picks.specs.Entries.{ReportAllows}
use Rattle.picks.proofs.report_settled.Goals as goal

pub build-rules-requires : goal.build-rules-requires
build-rules-requires c =
    let a = report_accepted c.args.record c.args.table.now (length c.args.values.now) c.requires in
    (accepted_table c.args.record.n c.args.table.now a.1, c.empty-room.ensures)

pub can_go_on-goes_on-requires : goal.can_go_on-goes_on-requires
can_go_on-goes_on-requires c =
    let a = report_accepted c.args.record c.args.table.now (length c.args.values.now) c.requires in
    ((record_good _ a.0).at_most_512, search rules, rw c.build-rules.ensures (accepted_heads c.args.record.n c.args.table.now a.1))

pub returns-then-goes_on : goal.returns-then-goes_on
returns-then-goes_on c =
    rw c.refused.ensures (ReportAllows.before_settled c.requires
    ((rw c.build-rules.ensures at c.can_go_on-goes_on.ensures).when_true c.if-goes_on.true))

pub write_values-requires : goal.write_values-requires
write_values-requires c =
    let a = report_accepted c.args.record c.args.table.now (length c.args.values.now) c.requires in
    ((record_good _ a.0).at_most_512, a.2)

pub returns : goal.returns
returns c =
    rw c.write_values.ensures (ReportAllows.reported c.requires
    ((rw c.build-rules.ensures at c.can_go_on-goes_on.ensures).when_false c.if-goes_on.false)
    (member c.held-held.result) (rw c.build-rules.ensures at c.held-held.ensures))
