use borrow.Author.Rules.{rules}
use native.Mathlib.Omega.{arith}
use Rattle.waiting.proofs.Numbering.{numbers_start, this_stands, number_fits, numbers_go_on, numbers_end}
use Rattle.waiting.proofs.number_records.Goals as goal

pub loop-at-init : goal.loop-at-init
loop-at-init c =
    numbers_start _ _ c.requires.0 c.requires.1 (search rules) (search rules)

pub put-requires : goal.put-requires
put-requires c =
    number_fits _ _ c.requires.0 c.loop-at-test.true c.loop-at.invariant c.word_inside.ensures.value

pub skip_record-at-requires : goal.skip_record-at-requires
skip_record-at-requires c =
    let stands = this_stands _ _ c.requires.0 c.loop-at-test.true c.loop-at.invariant in
    (stands.inside, stands.whole)

pub loop-at-smaller : goal.loop-at-smaller
loop-at-smaller c =
    omega (arith, c.skip_record-at.ensures.not_before, c.loop-at-test.true)

pub loop-at-preserved : goal.loop-at-preserved
loop-at-preserved c =
    numbers_go_on _ _ c.requires.0 c.loop-at-test.true c.loop-at.invariant c.word_inside.ensures.value c.put.ensures
    c.skip_record-at.ensures

pub returns : goal.returns
returns c =
    numbers_end _ _ c.loop-at-test.false c.loop-at.invariant
