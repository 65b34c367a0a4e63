use Rattle.std.specs.Prelude.{Err}
use Rattle.std.proofs.Common.{rules}
use mathlib.Core.Path.{refl, ◌∙◌, ◌≡◌}
use Rattle.sheetwords.proofs.Filling.{starts}
use Rattle.sheetwords.proofs.Turns.{name_fits, ends, stops, faults, goes_on, falls}
use Rattle.sheetwords.proofs.fill.Goals as goal

pub loop-r-init : goal.loop-r-init
loop-r-init c = (
  starts c.args.sheet.now _ c.args.words.now c.args.names.now _ refl
      c.requires.most_words_in_bounds c.requires.most_atoms_in_bounds c.requires.words_value c.requires.names_value refl,
  refl,
  refl,
)

pub shape_of-words-in-End : goal.shape_of-words-in-End
shape_of-words-in-End c =
    c.loop-r.invariant.1

pub shape_of-names-in-End : goal.shape_of-names-in-End
shape_of-names-in-End c =
    c.loop-r.invariant.2

pub returns-in-End : goal.returns-in-End
returns-in-End c =
    ends c.args.sheet.now _ c.loop-r.place c.loop-r.counts c.loop-r.words c.loop-r.names c.loop-r.heads c.loop-r.invariant.0 _
    c.next_at-next.ensures c.in-End.is

pub shape_of-words-in-Refused : goal.shape_of-words-in-Refused
shape_of-words-in-Refused c =
    c.loop-r.invariant.1

pub shape_of-names-in-Refused : goal.shape_of-names-in-Refused
shape_of-names-in-Refused c =
    c.loop-r.invariant.2

pub returns-in-Refused : goal.returns-in-Refused
returns-in-Refused c =
    stops c.args.sheet.now _ c.loop-r.place c.loop-r.counts c.loop-r.words c.loop-r.names c.loop-r.heads c.loop-r.invariant.0 _
    c.next_at-next.ensures _ c.in-Refused.is

pub take_literal-requires : goal.take_literal-requires
take_literal-requires c =
    let rest = name_fits c.args.sheet.now c.loop-r.place _ _ c.next_at-next.ensures c.in-Literal.is in record {
      room = c.loop-r.invariant.0.kept.room;
      start_le_most_sheet_bytes = rest.0;
      len_le_most_name_bytes = rest.1;
    }

pub returns-in_err-counts-in-Literal : goal.returns-in_err-counts-in-Literal
returns-in_err-counts-in-Literal c =
    let e : c.from_residual.result ≡ Err c.in_err-counts-in-Literal.field-0.0 = search rules in
    rw e (faults c.args.sheet.now _ c.loop-r.place c.loop-r.counts c.loop-r.words c.loop-r.names c.loop-r.heads c.loop-r.invariant.0 _
    c.next_at-next.ensures _ c.in-Literal.is _ _ _ _ c.take_literal.ensures _ c.in_err-counts-in-Literal.was)

pub loop-r-smaller : goal.loop-r-smaller
loop-r-smaller c =
    falls c.args.sheet.now _ c.loop-r.place c.loop-r.counts c.loop-r.words c.loop-r.names c.loop-r.heads c.loop-r.invariant.0 _
    c.next_at-next.ensures _ c.in-Literal.is _ _ _ _ c.take_literal.ensures

pub loop-r-preserved : goal.loop-r-preserved
loop-r-preserved c = (
  goes_on c.args.sheet.now _ c.loop-r.place c.loop-r.counts c.loop-r.words c.loop-r.names c.loop-r.heads c.loop-r.invariant.0 _
      c.next_at-next.ensures _ c.in-Literal.is _ _ _ _ c.take_literal.ensures _ c.in_ok-counts-in-Literal.was,
  c.take_literal.auto.words ∙ c.loop-r.invariant.1,
  c.take_literal.auto.names ∙ c.loop-r.invariant.2,
)
