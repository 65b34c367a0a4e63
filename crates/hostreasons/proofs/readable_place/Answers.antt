use mathlib.Core.Path.{refl}
use native.Mathlib.Omega.{arith}
use borrow.Author.Tests.{le-leb, lt-leb}
use Rattle.hostreasons.proofs.readable_place.Goals as goal

pub returns-then-place-gt4294967295 : goal.returns-then-place-gt4294967295
returns-then-place-gt4294967295 c =
    (rw (lt-leb _ _ c.if-place-gt4294967295.true) refl, omega arith)

pub returns : goal.returns
returns c =
    (rw (le-leb _ _ c.if-place-gt4294967295.false) refl, omega (arith, c.if-place-gt4294967295.false))
