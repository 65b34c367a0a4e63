use Rattle.bits.specs.Sets.{member}
use Rattle.words.specs.Layout.{rules_of}
use Rattle.waiting.proofs.Turns.{ranking_starts, reasons_are}
use Rattle.waiting.proofs.find_reasons.Goals as goal

pub rest-requires : goal.rest-requires
rest-requires c =
    ranking_starts c.requires c.number_records.ensures

pub returns : goal.returns
returns c =
    reasons_are (rules_of c.args.table.now) (member c.args.marks.now) c.rest.ensures.found_after c.rest-2.ensures.found_after
