use native.Mathlib.Omega.{arith}
use lib.ListN.{length-set}
use Rattle.valuesheet.proofs.put_value.Goals as goal

pub bounds-text-at-2 : goal.bounds-text-at-2
bounds-text-at-2 c =
    simp length-set (omega arith)

pub bounds-text-at-3 : goal.bounds-text-at-3
bounds-text-at-3 c =
    simp length-set (omega arith)

pub shape_of-text : goal.shape_of-text
shape_of-text c =
    simp length-set

pub returns : goal.returns
returns c =
    rw c.letter.ensures
