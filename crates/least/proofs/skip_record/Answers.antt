use mathlib.Core.Path.{subst}
use Prim.Native.Nat.{ℕ}
use Rattle.words.specs.Layout.{body_at}
use Rattle.least.specs.Walk.{GroupsSkipped}
use Rattle.least.proofs.skip_record.Goals as goal

pub skip_groups-requires : goal.skip_groups-requires
skip_groups-requires c =
    (c.requires.0, rw c.word_inside-groups.ensures.value c.requires.1)

pub returns : goal.returns
returns c =
    subst (λ (m : ℕ). GroupsSkipped c.args.table.now (body_at c.args.at) m c.skip_groups.result)
    c.word_inside-groups.ensures.value c.skip_groups.ensures
