use borrow.Author.Rules.{rules}
use Prim.Native.Nat.{◌*◌}
use native.Mathlib.Numerals.{add-one}
use native.Mathlib.Omega.{arith}
use mathlib.Core.Path.{◌≡◌}
use Rattle.reasoncheck.proofs.Matches.{matching_start, matching_next, matching_apart, matching_surplus, matching_all, one_count, apart_at}
use Rattle.reasoncheck.proofs.match_lines.Goals as goal

pub loop-l-init : goal.loop-l-init
loop-l-init c =
    (omega arith, λ ls h. rw c.requires.1 (matching_start _ ls))

pub loop-l-preserved : goal.loop-l-preserved
loop-l-preserved c =
    let v = c.loop-l.invariant in (
      omega (arith, v.0, one_count c.in-Some.ensures),
      λ ls h. rw (add-one c.loop-l.l) (matching_next _ _ _ ls h _ _ _ (v.1 ls h) (omega (arith, v.0, c.loop-l-test.true, c.requires.0))
          (search rules) c.in-Some.ensures),
    )

pub returns-in-None : goal.returns-in-None
returns-in-None c =
    let v = c.loop-l.invariant in
    λ ls h. apart_at c.refused.ensures (matching_apart _ _ _ ls h _ _ _ (v.1 ls h) (omega (arith, v.0, c.loop-l-test.true, c.requires.0)) _
    c.loop-l-test.true c.in-None.ensures)

pub returns-then-k-text : goal.returns-then-k-text
returns-then-k-text c =
    let v = c.loop-l.invariant in
    let e : c.loop-l.l ≡ 2 * c.args.values.now.n = omega (arith, c.loop-l.auto.l-end, c.loop-l-test.false) in
    λ ls h. apart_at c.refused-then-k-text.ensures (matching_surplus _ _ _ ls h _ _ _ _ e (v.1 ls h) c.if-k-text.true)

pub returns : goal.returns
returns c =
    let v = c.loop-l.invariant in
    let e : c.loop-l.l ≡ 2 * c.args.values.now.n = omega (arith, c.loop-l.auto.l-end, c.loop-l-test.false) in
    λ ls h. matching_all _ _ _ ls h _ _ _ _ e (v.1 ls h) c.if-k-text.false
