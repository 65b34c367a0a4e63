use Rattle.bits.specs.Sets.{member}
use Rattle.bits.proofs.Laws.{member_of_zeros}
use Rattle.pending.proofs.Marked.{closed_held}
use Rattle.evaluation.proofs.Rounds.{round_on, standing_on}
use Rattle.evaluation.proofs.Unsettled.round.Goals as goal

pub returns : goal.returns
returns c =
    let begun = c.requires.2 in
    let standing = c.requires.3 in
    let closed = rw c.rules.view_is at c.close.ensures in
    let held = closed_held (member c.args.self.now.marks) _ _ _ _ (member_of_zeros 16) begun.held standing.pending standing.marked closed in
    record {
      round = round_on _ _ c.requires.0 (record { marks = c.args.self.now.marks; shut = c.args.self.now.shut; held = c.close.new.self }) _ _ _
          begun.marks_length standing.shut_row standing.pairs closed.working closed.none_ready held c.mark_all.ensures
          (c.clean_without-clean.ensures (member c.args.self.now.marks) standing.pairs);
      standing = standing_on _ _ c.requires.0 (record { marks = c.args.self.now.marks; shut = c.args.self.now.shut; held = c.close.new.self }) _ _ _
          begun.marks_length standing.shut_row standing.pairs closed.working closed.none_ready held c.mark_all.ensures;
    }
