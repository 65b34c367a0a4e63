use Rattle.bits.specs.Sets.{member}
use Rattle.words.specs.Layout.{rules_of}
use Rattle.conflict.proofs.Held.{looked_through}
use Rattle.conflict.proofs.held_both.Goals as goal

pub returns : goal.returns
returns c =
    looked_through (rules_of c.args.table.now) c.args.n c.requires.2 (member c.held-held.result) _ c.some_both_in.ensures
    (rw c.build-rules.ensures at c.held-held.ensures)
