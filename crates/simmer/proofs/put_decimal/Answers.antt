use Rattle.std.proofs.Common.{rules, ◌∙◌, ap, append-nil, arith, ◌++◌, drop_of_length-le}
use Rattle.std.specs.Fmt.{decimal}
use Rattle.std.proofs.lemmas.Fmt.{decimal_nonempty}
use Rattle.simmer.proofs.Digits.{digits_before, last_digit_put, first_digit_put, at_most_twenty}
use Rattle.simmer.proofs.put_decimal.Goals as goal

pub loop-left-init : goal.loop-left-init
loop-left-init c = record {
  room = omega arith;
  fits = at_most_twenty c.args.n (search rules);
  digits = ap (λ l. decimal c.args.n ++ l) (drop_of_length-le c.args.text.now {i = 20} (search rules)) ∙ append-nil (decimal c.args.n);
}

pub loop-left-preserved : goal.loop-left-preserved
loop-left-preserved c =
    let l = c.loop-left in
    record {
      room = search rules;
      fits = digits_before l.left l.at l.text l.invariant.fits (search rules) c.loop-left-test.true (search rules);
      digits = last_digit_put l.left l.at l.text l.invariant.fits (search rules) c.loop-left-test.true (search rules) ∙ l.invariant.digits;
    }

pub returns-clause-digits : goal.returns-clause-digits
returns-clause-digits c =
    let l = c.loop-left in
    first_digit_put l.left l.at l.text l.invariant.fits (search rules) (search rules) ∙ l.invariant.digits

pub overflow_sub-at : goal.overflow_sub-at
overflow_sub-at c = omega (arith, decimal_nonempty c.loop-left.left (search rules), c.loop-left.invariant.fits)

pub overflow_sub-at-2 : goal.overflow_sub-at-2
overflow_sub-at-2 c = omega (arith, decimal_nonempty c.loop-left.left (search rules), c.loop-left.invariant.fits)
