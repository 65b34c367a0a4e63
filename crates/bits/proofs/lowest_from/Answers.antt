use mathlib.Core.Path.{sym, ap, ◌∙◌}
use Prim.Native.Nat.{ℕ, ◌+◌, ◌*◌, ◌/◌, ◌%◌, ◌^◌, ◌-◌}
use native.Mathlib.Omega.{arith}
use lib.Count.{trailing_le}
use Rattle.bits.specs.Sets.{member}
use Rattle.bits.proofs.Least.{lowest_from_later}
use Rattle.bits.proofs.Laws.{none_shifted, lowest_shifted}
use Rattle.bits.proofs.lowest_from.Goals as goal

pub overflow_cast-result : goal.overflow_cast-result
overflow_cast-result c = omega (arith, trailing_le 64 (c.word.result / 2 ^ (c.args.i % 64)))

pub overflow_add-result : goal.overflow_add-result
overflow_add-result c = omega (arith, trailing_le 64 (c.word.result / 2 ^ (c.args.i % 64)))

pub returns-then-x-ne0 : goal.returns-then-x-ne0
returns-then-x-ne0 c =
    let args = c.args in
    let i = args.i in
    lowest_shifted args.set.now i (ap (λ (x : ℕ). x / 2 ^ (i % 64)) c.word.ensures)
    (c.shared_slice_known-1.given (i / 64)).fits c.if-x-ne0.true (1024 - i) (omega arith)

pub returns : goal.returns
returns c =
    let args = c.args in
    let i = args.i in
    let shifted = ap (λ (x : ℕ). x / 2 ^ (i % 64)) c.word.ensures in
    c.lowest_in_words.ensures
    ∙ sym (lowest_from_later (1024 - i) i (1024 - 64 * (i / 64 + 1)) (64 * (i / 64 + 1)) (member args.set.now) (omega arith) (omega arith)
    (none_shifted args.set.now i shifted c.if-x-ne0.false))
