use Prim.Native.Nat.{◌+◌, ◌-◌}
use native.Mathlib.Omega.{arith}
use mathlib.Core.Path.{◌≡◌, ◌∙◌}
use Rattle.words.specs.Layout.{literals_at}
use Rattle.least.proofs.Walk.{group_inside, groups_go_on, groups_end}
use Rattle.least.proofs.skip_groups.Goals as goal

pub word_inside-requires : goal.word_inside-requires
word_inside-requires c =
    group_inside _ c.loop.at (c.args.m - c.loop.counter) c.loop.invariant.2 (omega arith)

pub loop-preserved : goal.loop-preserved
loop-preserved c =
    let q = groups_go_on c.args.table.now c.loop.at (c.args.m - c.loop.counter) c.word_inside.result
    c.loop.invariant.2 (omega arith) c.word_inside.ensures.value in
    let e : c.args.m - c.loop.counter - 1 ≡ c.args.m - (c.loop.counter + 1) = omega arith in
    let p : c.loop.at + (1 + c.word_inside.result) ≡ literals_at c.loop.at + c.word_inside.result = omega arith in
    rw (p, ← e) (q.inside, omega arith, q.whole, q.after_same ∙ c.loop.invariant.3)

pub returns : goal.returns
returns c =
    groups_end c.args.table.now c.args.first c.args.m
    c.loop.at (c.args.m - c.loop.counter) (omega arith) c.loop.invariant
