use Rattle.bits.specs.Sets.{member}
use Rattle.marking.proofs.Markable.{goes_on}
use Rattle.marking.proofs.can_go_on.Goals as goal

pub returns : goal.returns
returns c =
    goes_on _ (member c.args.marks.now) (member c.held-held.result) (member c.clean-clean.result)
    c.held-held.ensures c.clean-clean.ensures c.args.n c.requires.2 _ c.some_markable.ensures
