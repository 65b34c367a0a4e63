use mathlib.Core.Path.{sym, ap, ◌∙◌}
use native.Mathlib.Omega.{arith}
use Prim.Native.Nat.{ℕ}
use mathlib.Core.List.{[]}
use Rattle.buffers.specs.Padded.{padded}
use Rattle.sheetwords.proofs.Turns.{long_sheet, short_words, short_names, read_on}
use Rattle.sheetwords.proofs.read_words.Goals as goal

pub returns-then-sheet-gt-MOST_SHEET_BYTES : goal.returns-then-sheet-gt-MOST_SHEET_BYTES
returns-then-sheet-gt-MOST_SHEET_BYTES c =
    rw c.refused.ensures
    (long_sheet c.args.sheet.now _ _ _ _ c.if-sheet-gt-MOST_SHEET_BYTES.true c.clear.ensures.words_cleared c.clear.ensures.names_cleared)

pub returns-then-words-lt-MOST_WORDS : goal.returns-then-words-lt-MOST_WORDS
returns-then-words-lt-MOST_WORDS c =
    rw c.refused-then-words-lt-MOST_WORDS.ensures (short_words c.args.sheet.now _ _ _ _ c.if-sheet-gt-MOST_SHEET_BYTES.false
    (omega (arith, c.if-words-lt-MOST_WORDS.true, c.clear.auto.words)) c.clear.ensures.words_cleared c.clear.ensures.names_cleared)

pub returns-then-names-lt-MOST_ATOMS : goal.returns-then-names-lt-MOST_ATOMS
returns-then-names-lt-MOST_ATOMS c =
    rw c.refused-then-names-lt-MOST_ATOMS.ensures (short_names c.args.sheet.now _ _ _ _ c.if-sheet-gt-MOST_SHEET_BYTES.false
    (omega (arith, c.if-names-lt-MOST_ATOMS.true, c.clear.auto.names)) c.clear.ensures.words_cleared c.clear.ensures.names_cleared)

pub fill_or_clear-requires : goal.fill_or_clear-requires
fill_or_clear-requires c =
    record {
      most_words_in_bounds = c.if-words-lt-MOST_WORDS.false;
      most_atoms_in_bounds = c.if-names-lt-MOST_ATOMS.false;
      words_value = c.clear.ensures.words_cleared ∙ ap (λ (n : ℕ). padded n []) (sym c.clear.auto.words);
      names_value = c.clear.ensures.names_cleared ∙ ap (λ (n : ℕ). padded n []) (sym c.clear.auto.names);
    }

pub returns : goal.returns
returns c =
    read_on c.args.sheet.now _ _ _ _ _ _ _
    c.clear.auto.words c.clear.auto.names c.if-sheet-gt-MOST_SHEET_BYTES.false c.if-words-lt-MOST_WORDS.false c.if-names-lt-MOST_ATOMS.false
    c.fill_or_clear.ensures
