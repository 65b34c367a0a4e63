use mathlib.Core.Path.{sym}
use native.Mathlib.Omega.{arith}
use lib.Seq.{length-take-le}
use Rattle.sheets.proofs.Entry.{words_inside, never_refuses, valued}
use Rattle.sheets.proofs.value_and_print.Goals as goal

pub slice_bounds-evaluate-end : goal.slice_bounds-evaluate-end
slice_bounds-evaluate-end c =
    words_inside c.args.sheet.now _ _
    c.args.n c.args.w c.args.words.now c.args.names.now c.requires

pub slice_bounds-evaluate-end-2 : goal.slice_bounds-evaluate-end-2
slice_bounds-evaluate-end-2 c =
    sym (length-take-le c.args.w c.args.words.now (words_inside c.args.sheet.now _ _
    c.args.n c.args.w c.args.words.now c.args.names.now c.requires))

pub print_or_clear-requires : goal.print_or_clear-requires
print_or_clear-requires c =
    record {
      holding = c.requires;
      valued = valued c.args.sheet.now _ _ c.args.n c.args.w c.args.words.now
          c.args.names.now c.requires _ _ _ c.evaluate-answer.ensures c.in-Ok.is;
    }

pub returns-in-Err : goal.returns-in-Err
returns-in-Err c =
    absurd (never_refuses c.args.sheet.now _ _ c.args.n c.args.w c.args.words.now
    c.args.names.now c.requires _ _ _ _ (omega arith) c.evaluate-answer.ensures c.in-Err.is)
