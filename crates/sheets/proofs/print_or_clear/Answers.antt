use Rattle.sheets.proofs.Entry.{few_atoms, names_inside, prints, prints_nothing}
use Rattle.sheets.proofs.print_or_clear.Goals as goal

pub print-printed-requires : goal.print-printed-requires
print-printed-requires c =
    record {
      n_le_most_atoms = few_atoms c.args.sheet.now _ _ c.args.n c.args.w c.args.words.now c.args.names.now c.requires.holding;
      n_in_bounds = names_inside c.args.sheet.now _ _ c.args.n c.args.w c.args.words.now c.args.names.now c.requires.holding;
    }

pub returns-in-Ok : goal.returns-in-Ok
returns-in-Ok c =
    prints c.args.sheet.now _ _ c.args.n c.args.w c.args.words.now c.args.names.now c.requires.holding
    c.args.values.now c.requires.valued c.args.text.now _ _ c.print-printed.ensures.value c.print-printed.ensures.text_is _ c.in-Ok.is

pub returns-in-Err : goal.returns-in-Err
returns-in-Err c =
    prints_nothing c.args.sheet.now _ _ c.args.n c.args.w c.args.words.now c.args.names.now c.requires.holding
    c.args.values.now c.requires.valued c.args.text.now _ _ c.print-printed.ensures.value c.print-printed.ensures.text_is _ _ _
    c.in-Err.is c.clear.ensures.words_cleared c.clear.ensures.names_cleared
