use mathlib.Core.Path.{sym, ap, ◌∙◌}
use mathlib.Core.List.{List}
use Prim.Native.Nat.{ℕ}
use Rattle.pending.proofs.Closing.{closing_starts, closed_there, stepped, code_below, none_ready}
use Rattle.pending.proofs.Taking.close.Goals as goal

pub loop-l-init : goal.loop-l-init
loop-l-init c = (c.requires.1, closing_starts _ _ _)

pub look_at-requires : goal.look_at-requires
look_at-requires c = (c.requires.0, code_below _ _ (sym c.lowest.ensures ∙ c.in-Some.is), c.loop-l.invariant.0.counted)

pub loop-l-smaller : goal.loop-l-smaller
loop-l-smaller c =
    let without = ap (λ (r : List ℕ). record { taken = c.loop-l.self.taken; ready = r; counts = c.loop-l.self.counts }) c.remove.ensures in
    (stepped _ _ _ c.loop-l.invariant.0 _ (sym c.lowest.ensures ∙ c.in-Some.is) _ _ without c.look_at.ensures).less

pub loop-l-preserved : goal.loop-l-preserved
loop-l-preserved c =
    let without = ap (λ (r : List ℕ). record { taken = c.loop-l.self.taken; ready = r; counts = c.loop-l.self.counts }) c.remove.ensures in
    let step = stepped _ _ _ c.loop-l.invariant.0 _ (sym c.lowest.ensures ∙ c.in-Some.is) _ _ without c.look_at.ensures in
    (step.working, step.closing _ c.loop-l.invariant.1)

pub returns : goal.returns
returns c = closed_there _ _ _ _ c.loop-l.invariant.0 c.loop-l.invariant.1
    (none_ready _ c.loop-l.invariant.0.ready_row (sym c.lowest.ensures ∙ c.in_default.is))
