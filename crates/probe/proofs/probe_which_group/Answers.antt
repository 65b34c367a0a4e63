use Rattle.std.proofs.Common.{sym, ◌∙◌}
use mathlib.Core.Path.{subst⁻¹}
use Rattle.bits.specs.Sets.{member}
use Rattle.words.specs.Check.{AcceptedTable}
use Rattle.least.proofs.Recorded.{accepted_records}
use Rattle.least.proofs.Recorded.{here, records_nothing}
use Rattle.probe.specs.Packed.{WhichPacked}
use Rattle.probe.proofs.probe_which_group.Goals as goal

pub returns-in-Err : goal.returns-in-Err
returns-in-Err c =
    subst⁻¹ (WhichPacked c.args.n c.args.table.now (member c.args.set.now)) c.packed_refusal.ensures
    (WhichPacked.refused (sym c.check.ensures ∙ c.in-Err.is))

pub which_group-body-requires : goal.which_group-body-requires
which_group-body-requires c =
    let N = c.args.n in
    let t = c.args.table.now in
    let accepted : AcceptedTable N t = sym c.check.ensures ∙ c.in_default.is in
    let h = here t 0 c.if-table-gt0.true (accepted_records N t accepted) in
    (h.inside, h.whole)

pub returns-then-table-gt0 : goal.returns-then-table-gt0
returns-then-table-gt0 c =
    let N = c.args.n in
    let t = c.args.table.now in
    let accepted : AcceptedTable N t = sym c.check.ensures ∙ c.in_default.is in
    subst⁻¹ (WhichPacked N t (member c.args.set.now)) c.which_number.ensures
    (WhichPacked.answers accepted (here t 0 c.if-table-gt0.true (accepted_records N t accepted)).rules c.which_group-body.ensures.which_allows)

pub returns : goal.returns
returns c =
    let N = c.args.n in
    let t = c.args.table.now in
    let accepted : AcceptedTable N t = sym c.check.ensures ∙ c.in_default.is in
    WhichPacked.no_rule accepted (records_nothing t 0 c.if-table-gt0.false)
