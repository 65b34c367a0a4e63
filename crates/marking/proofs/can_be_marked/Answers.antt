use Rattle.bits.specs.Sets.{member}
use Rattle.marking.proofs.Markable.{markable_is}
use Rattle.marking.proofs.can_be_marked.Goals as goal

pub returns : goal.returns
returns c =
    rw c.is_markable.ensures (markable_is _ (member c.args.marks.now) (member c.held-held.result)
    (member c.clean-clean.result) c.held-held.ensures c.clean-clean.ensures c.args.a)
