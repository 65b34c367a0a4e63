use Rattle.std.specs.Prelude.{Err}
use Rattle.std.proofs.Common.{rules}
use mathlib.Core.Path.{sym, ◌∙◌, ◌≡◌}
use Rattle.literals.proofs.Taking.{faultless_allowed, took_off, took_on}
use Rattle.literals.proofs.take_literal.Goals as goal

pub returns-in_err-fault_of : goal.returns-in_err-fault_of
returns-in_err-fault_of c =
    let e : c.from_residual.result ≡ Err c.in_err-fault_of.field-0.0 = search rules in
    rw e (took_off c.args.sheet.now c.args.place c.args.l c.args.counts
    c.args.words.now c.args.names.now c.args.heads.now _ _ _
    c.number-atom.ensures.value c.code_for-code.ensures.value c.fault_of.ensures _ c.in_err-fault_of.was)

pub put_literal-requires : goal.put_literal-requires
put_literal-requires c =
    let a = faultless_allowed _ _ _ _ _ _ (sym c.fault_of.ensures ∙ c.in_ok-fault_of.was) in record {
      room = c.requires.room;
      role_bound = a.words_fit;
      atoms_bound = a.names_fit;
      words_bound = a.body_fits;
      code_bound = c.code_for-code.ensures.upper_bound;
      start_le_most_sheet_bytes = c.requires.start_le_most_sheet_bytes;
      len_le_most_name_bytes = c.requires.len_le_most_name_bytes;
    }

pub returns : goal.returns
returns c =
    took_on c.args.sheet.now c.args.place c.args.l c.args.counts
    c.args.words.now c.args.names.now c.args.heads.now _ _ _
    c.number-atom.ensures.value c.code_for-code.ensures.value c.fault_of.ensures _ _ _ _ c.in_ok-fault_of.was c.put_literal.ensures
