use mathlib.Core.List.{List}
use mathlib.Core.Path.{ap}
use Prim.Native.Nat.{ℕ, ◌+◌}
use Rattle.records.proofs.with_mark.Goals as goal

pub returns : goal.returns
returns c =
    let r = c.args.«record» in
    ap (λ (m : List ℕ). record { n = r.n; marks = m; count = r.count + 1 }) c.put.ensures
