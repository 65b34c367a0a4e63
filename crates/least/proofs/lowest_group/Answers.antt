use Prim.Native.Nat.{ℕ, ◌+◌, ◌-◌}
use native.Mathlib.Omega.{arith}
use mathlib.Core.Path.{◌≡◌, ap, ◌∙◌}
use lib.ListN.{take, drop}
use Rattle.words.specs.Layout.{literals_at}
use Rattle.bits.specs.Sets.{member}
use Rattle.paper.specs.Fires.{wholly}
use Rattle.least.proofs.Walk.{all_wholly, group_inside, group_fits, groups_go_on, groups_end, skipped_on, which_goes_on, which_ends, which_none}
use Rattle.least.proofs.lowest_group.Goals as goal

pub word_inside-k-requires : goal.word_inside-k-requires
word_inside-k-requires c =
    group_inside _ c.loop-g.at (c.args.m - c.loop-g.g) c.loop-g.invariant.2 (omega arith)

pub slice_bounds-group_in-end : goal.slice_bounds-group_in-end
slice_bounds-group_in-end c =
    omega (
      arith,
      group_fits c.args.table.now c.loop-g.at (c.args.m - c.loop-g.g) _ c.loop-g.invariant.2 (omega arith) c.word_inside-k.ensures.value,
    )

pub skip_groups-requires : goal.skip_groups-requires
skip_groups-requires c =
    let q = groups_go_on c.args.table.now c.loop-g.at (c.args.m - c.loop-g.g) _
    c.loop-g.invariant.2 (omega arith) c.word_inside-k.ensures.value in
    let number : c.args.m - c.loop-g.g - 1 ≡ c.args.m - (c.loop-g.g + 1) = omega arith in
    rw (← number) (q.inside, q.whole)

pub returns-then-group_in : goal.returns-then-group_in
returns-then-group_in c =
    let t = c.args.table.now in
    let k = c.word_inside-k.result in
    let left = c.args.m - c.loop-g.g in
    let q = groups_go_on t c.loop-g.at left k c.loop-g.invariant.2 (omega arith) c.word_inside-k.ensures.value in
    let number : left - 1 ≡ c.args.m - (c.loop-g.g + 1) = omega arith in
    let short : c.loop-g.at + 1 + k - (c.loop-g.at + 1) ≡ k = omega arith in
    let b : c.group_in.result ≡ wholly (member c.args.set.now) (take k (drop (literals_at c.loop-g.at) t)) =
    c.group_in.ensures ∙ all_wholly (member c.args.set.now) (take (c.loop-g.at + 1 + k - (c.loop-g.at + 1)) (drop (literals_at c.loop-g.at) t))
    ∙ ap (λ (n : ℕ). wholly (member c.args.set.now) (take n (drop (literals_at c.loop-g.at) t))) short in
    record {
      which_value = which_ends (member c.args.set.now) t c.loop-g.at left k _ _ q b c.if-group_in.true ∙ c.loop-g.invariant.4;
      groups_skipped = skipped_on t c.args.first c.args.m _ (c.args.m - (c.loop-g.g + 1)) c.skip_groups.result
          (omega (arith, c.loop-g.invariant.1)) (rw (← number) (q.after_same ∙ c.loop-g.invariant.3)) c.skip_groups.ensures;
    }

pub loop-g-preserved : goal.loop-g-preserved
loop-g-preserved c =
    let t = c.args.table.now in
    let k = c.word_inside-k.result in
    let left = c.args.m - c.loop-g.g in
    let q = groups_go_on t c.loop-g.at left k c.loop-g.invariant.2 (omega arith) c.word_inside-k.ensures.value in
    let short : c.loop-g.at + 1 + k - (c.loop-g.at + 1) ≡ k = omega arith in
    let b : c.group_in.result ≡ wholly (member c.args.set.now) (take k (drop (literals_at c.loop-g.at) t)) =
    c.group_in.ensures ∙ all_wholly (member c.args.set.now) (take (c.loop-g.at + 1 + k - (c.loop-g.at + 1)) (drop (literals_at c.loop-g.at) t))
    ∙ ap (λ (n : ℕ). wholly (member c.args.set.now) (take n (drop (literals_at c.loop-g.at) t))) short in
    let number : left - 1 ≡ c.args.m - (c.loop-g.g + 1) = omega arith in (
      q.inside,
      omega (arith, c.loop-g.invariant.1),
      rw (← number) q.whole,
      rw (← number) (q.after_same ∙ c.loop-g.invariant.3),
      rw (← number) (which_goes_on (member c.args.set.now) t c.loop-g.at left k _ _ q b c.if-group_in.false ∙ c.loop-g.invariant.4),
    )

pub returns : goal.returns
returns c =
    let inv = c.loop-g.invariant in record {
      which_value = which_none (member c.args.set.now) c.args.table.now c.loop-g.at (c.args.m - c.loop-g.g) _ (omega arith) ∙ inv.4;
      groups_skipped = groups_end c.args.table.now c.args.first c.args.m
          c.loop-g.at (c.args.m - c.loop-g.g) (omega arith) (inv.0, inv.1, inv.2, inv.3);
    }
