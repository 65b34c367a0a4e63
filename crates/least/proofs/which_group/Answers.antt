use Rattle.bits.specs.Sets.{member}
use Rattle.least.proofs.Recorded.{fact_there, body_there}
use Rattle.least.proofs.which_group.Goals as goal

pub returns-then-m-eq0 : goal.returns-then-m-eq0
returns-then-m-eq0 c =
    let whole = fact_there (member c.args.set.now) c.args.table.now c.args.at _
    c.requires.0 c.word_inside-m.ensures.value c.if-m-eq0.true in record {
      which_allows = whole.0;
      groups_skipped = whole.1;
    }

pub lowest_group-requires : goal.lowest_group-requires
lowest_group-requires c =
    (c.requires.0, rw c.word_inside-m.ensures.value c.requires.1)

pub returns : goal.returns
returns c =
    let whole = body_there (member c.args.set.now) c.args.table.now c.args.at _
    c.lowest_group.result.which c.lowest_group.result.next
    c.word_inside-m.ensures.value c.requires.1 c.if-m-eq0.false c.lowest_group.ensures.which_value c.lowest_group.ensures.groups_skipped in record {
      which_allows = whole.0;
      groups_skipped = whole.1;
    }
