use mathlib.Core.Path.{subst}
use Rattle.ranks.specs.Found.{CanAdd}
use Rattle.ranks.proofs.Adding.{line_added_fit}
use Rattle.ranks.proofs.Search.add.Goals as goal

pub add_negation-requires : goal.add_negation-requires
add_negation-requires c =
    let can = subst (CanAdd c.args.self.now.found c.args.head) c.in-TwoLines.is c.requires.0 in
    let counted = c.add_line-in-TwoLines.ensures.counted in (
      line_added_fit c.args.self.now.found c.args.head c.in-TwoLines.group can c.add_line-in-TwoLines.ensures.found_after,
      can.head_literal,
      can.group_fits,
      record { index = c.requires.1.index; row = counted.row; counted = counted.counts },
    )
