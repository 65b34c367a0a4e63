use mathlib.Core.Bool.{◌||◌}
use mathlib.Core.Path.{sym, ap₂, ◌∙◌}
use Rattle.bits.specs.Sets.{member}
use Rattle.sets.proofs.Tests.{true→T, false→not, or_left, or_right}
use Rattle.pending.specs.Pending.{left_alone, taken_up}
use Rattle.pending.proofs.Taking.look_at.Goals as goal
use Rattle.pending.proofs.Taking.look_at.Goals.{then-has-via-then-has, then-has-via-else-has+then-has-2}

pub returns-then-has : goal.returns-then-has
returns-then-has c =
    let taken = member c.args.self.now.taken c.args.l in
    let shut = member c.args.shut.now c.args.l in
    left_alone (elim c.then-has.branch [
      | then-has-via-then-has w ↦ or_left taken shut (true→T taken (sym c.has.ensures ∙ w.if-has.true))
      | then-has-via-else-has+then-has-2 w ↦ or_right taken shut (true→T shut (sym w.has-else-has.ensures ∙ w.if-has-2.true))
    ])

pub returns : goal.returns
returns c =
    let skipped = ap₂ ◌||◌ (sym c.has.ensures ∙ c.if-has.false) (sym c.has-else-has.ensures ∙ c.if-has-2.false) in
    taken_up (false→not _ skipped) c.take.ensures.taken_after c.take.ensures.taken
