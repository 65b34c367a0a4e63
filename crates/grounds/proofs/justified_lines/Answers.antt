use native.Mathlib.Omega.{arith}
use Rattle.words.proofs.Laws.{accepted_atoms, accepted_heads, accepted_literals}
use Rattle.valued.proofs.Through.{this_record, this_of_table}
use Rattle.grounds.proofs.Judging.{judging_start, judging_next, judging_end}
use Rattle.grounds.proofs.justified_lines.Goals as goal

pub loop-at-init : goal.loop-at-init
loop-at-init c =
    judging_start _ _ _ _ c.requires

pub invariant_of-record : goal.invariant_of-record
invariant_of-record c =
    let w = c.loop-at.invariant in
    let h = this_record c.args.table.now w.passed c.loop-at.at c.loop-at-test.true w.through in
    record { inside = h.body_inside; whole = h.whole }

pub invariant_of-rule : goal.invariant_of-rule
invariant_of-rule c =
    let w = c.loop-at.invariant in
    let t = c.args.table.now in
    let h = this_record t w.passed c.loop-at.at c.loop-at-test.true w.through in
    let m = this_of_table t w.passed c.loop-at.at w.through h in
    record { below = λ β i l k. accepted_literals c.args.values.now.n t c.requires _ β l m i k }

pub judge_record-at-requires : goal.judge_record-at-requires
judge_record-at-requires c =
    let w = c.loop-at.invariant in
    let t = c.args.table.now in
    let h = this_record t w.passed c.loop-at.at c.loop-at-test.true w.through in
    accepted_heads c.args.values.now.n t c.requires _ (this_of_table t w.passed c.loop-at.at w.through h)

pub loop-at-preserved : goal.loop-at-preserved
loop-at-preserved c =
    let w = c.loop-at.invariant in
    let t = c.args.table.now in
    let h = this_record t w.passed c.loop-at.at c.loop-at-test.true w.through in
    let m = this_of_table t w.passed c.loop-at.at w.through h in
    let small = accepted_heads c.args.values.now.n t c.requires _ m in
    let atoms = accepted_atoms c.args.values.now.n t c.requires in
    judging_next _ _ t c.loop-at.at _ _ _ w h (omega arith) c.judge_record-at.ensures.ok_after c.judge_record-at.ensures.groups_skipped

pub returns : goal.returns
returns c =
    judging_end _ _ _ _ _ c.loop-at-test.false c.loop-at.invariant
