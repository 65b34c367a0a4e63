use Rattle.bits.specs.Sets.{member}
use Rattle.pending.proofs.Marked.{marked_pairs}
use Rattle.pending.proofs.clean.Goals as goal

pub returns : goal.returns
returns c =
    c.clean_without.ensures (member c.args.marks.now) (marked_pairs _ _ c.put_marked.ensures)
