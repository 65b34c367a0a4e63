use Rattle.std.proofs.Common.{rules}
use mathlib.Core.Path.{◌∙◌}
use Rattle.pending.proofs.Marked.{working_starts, held_there, facts_ready}
use Rattle.pending.proofs.held.Goals as goal

pub close-requires : goal.close-requires
close-requires c =
    let facts = c.facts-ready.ensures.facts in (
      search rules,
      rw c.rules.view_is (rw c.begin-held.ensures (working_starts _ _ _ _ c.facts-ready.ensures.table facts (c.put_marked.ensures.length_same ∙ facts.row)
          (facts_ready
          _ _ _ c.put_marked.ensures))),
    )

pub returns : goal.returns
returns c =
    held_there _ _ _ _ _ c.facts-ready.ensures.facts c.put_marked.ensures (rw c.begin-held.ensures at (rw c.rules.view_is at c.close.ensures))
