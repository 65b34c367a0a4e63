use borrow.Author.Rules.{rules}
use mathlib.Core.Path.{sym, ◌∙◌, subst⁻¹}
use lib.Dec.{T_not}
use native.Mathlib.Omega.{arith}
use Rattle.sets.proofs.Tests.{true→T, false→not}
use Rattle.picks.proofs.Accepted.{pick_accepted}
use Rattle.records.proofs.Laws.{record_good, counted_at_most_512}
use Rattle.index.proofs.Placed.{accepted_table}
use Rattle.picks.specs.Entries.{PickAllows}
use Rattle.picks.proofs.mark_atom.Goals as goal
use Rattle.std.specs.Prelude.{Ok}
use Rattle.picks.specs.declared.PickAnswer.{PickAnswer}

pub returns-then-has : goal.returns-then-has
returns-then-has c = PickAllows.already_marked c.requires (true→T _ (sym c.has.ensures ∙ c.if-has.true))

pub build-rules-requires : goal.build-rules-requires
build-rules-requires c =
    (accepted_table c.args.record.n c.args.table.now (pick_accepted c.args.record c.args.table.now c.args.atom c.requires).1, c.empty-room.ensures)

pub can_be_marked-requires : goal.can_be_marked-requires
can_be_marked-requires c =
    let a = pick_accepted c.args.record c.args.table.now c.args.atom c.requires in
    (omega (arith, (record_good c.args.record a.0).at_most_512, a.2), search rules)

pub with_mark-marked-requires : goal.with_mark-marked-requires
with_mark-marked-requires c =
    counted_at_most_512 c.args.record (pick_accepted c.args.record c.args.table.now c.args.atom c.requires).0

pub returns-then-can_be_marked : goal.returns-then-can_be_marked
returns-then-can_be_marked c =
    subst⁻¹ (PickAllows c.args.record c.args.table.now c.args.atom (Ok PickAnswer.Marked)) c.with_mark-marked.ensures
    (PickAllows.marked c.requires ((rw c.build-rules.ensures at c.can_be_marked.ensures).0 (true→T _ c.if-can_be_marked.true)))

pub returns : goal.returns
returns c =
    PickAllows.cannot_be_marked_now c.requires (false→not _ (sym c.has.ensures ∙ c.if-has.false))
    (λ m. T_not c.can_be_marked.result (false→not _ c.if-can_be_marked.false)
    ((rw c.build-rules.ensures at c.can_be_marked.ensures).1 m))
