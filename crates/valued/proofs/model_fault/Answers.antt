use native.Mathlib.Omega.{arith}
use Rattle.words.proofs.Laws.{accepted_heads, accepted_literals}
use Rattle.valued.proofs.Through.{this_record, this_of_table}
use Rattle.valued.proofs.Modelled.{satisfying_start, satisfying_next, not_satisfied, all_of_table, next_later}
use Rattle.valued.proofs.model_fault.Goals as goal

pub loop-at-init : goal.loop-at-init
loop-at-init c =
    satisfying_start _ _ _ c.requires

pub invariant_of-record : goal.invariant_of-record
invariant_of-record c =
    let w = c.loop-at.invariant in
    let t = c.args.table.now in
    let h = this_record t w.passed c.loop-at.at c.loop-at-test.true w.through in record {
      inside = h.body_inside;
      whole = h.whole;
    }

pub invariant_of-rule : goal.invariant_of-rule
invariant_of-rule c =
    let w = c.loop-at.invariant in
    let t = c.args.table.now in
    let h = this_record t w.passed c.loop-at.at c.loop-at-test.true w.through in
    let m = this_of_table t w.passed c.loop-at.at w.through h in
    record { below = λ β i l k. accepted_literals c.args.values.now.n t c.requires _ β l m i k }

pub next_if_satisfied-requires : goal.next_if_satisfied-requires
next_if_satisfied-requires c =
    let w = c.loop-at.invariant in
    let t = c.args.table.now in
    let h = this_record t w.passed c.loop-at.at c.loop-at-test.true w.through in
    accepted_heads c.args.values.now.n t c.requires _ (this_of_table t w.passed c.loop-at.at w.through h)

pub loop-at-smaller : goal.loop-at-smaller
loop-at-smaller c =
    omega (arith, next_later _ _ c.in-Some.ensures, c.loop-at-test.true)

pub loop-at-preserved : goal.loop-at-preserved
loop-at-preserved c =
    let w = c.loop-at.invariant in
    satisfying_next _ c.args.table.now c.loop-at.at w
    (this_record c.args.table.now w.passed c.loop-at.at c.loop-at-test.true w.through) c.in-Some.ensures

pub returns-in-None : goal.returns-in-None
returns-in-None c =
    let w = c.loop-at.invariant in
    not_satisfied _ c.args.table.now c.loop-at.at w
    (this_record c.args.table.now w.passed c.loop-at.at c.loop-at-test.true w.through) c.in-None.ensures c.refused.ensures

pub returns : goal.returns
returns c =
    all_of_table _ _ _ c.loop-at-test.false c.loop-at.invariant
