-- What an accepted sheet leaves: a line for each of its names, no name twice, and a name for each literal.
use mathlib.Core.Path.{◌≡◌, refl, sym, ap, ap₂, ◌∙◌, subst}
use mathlib.Core.List.{List, [], ◌∷◌, ◌++◌}
use mathlib.Core.Bool.{Bool, true, false, true≢false}
use Prim.Native.Nat.{ℕ, ◌-◌, ◌<◌}
use native.Mathlib.Nat.{zero-add}
use native.Mathlib.Omega.{arith}
use lib.ListN.{length, get_or, take, replicate, length-append, get_or-append}
use lib.Seq.{take-append_seam}
use borrow.Author.Tests.{eqb-true}
use Rattle.paper.specs.Table1.{code}
use Rattle.paper.specs.Rules.{positive}
use Rattle.paper.specs.Definitions.{Interpretation, value, Smallest}
use Rattle.paper.proofs.Smallest.{smallest_unique}
use Rattle.sets.specs.Sets.{◌∈◌}
use Rattle.words.specs.Layout.{TableRecord, records_of, rules_in, rules_of}
use Rattle.reader.specs.declared.Role.TheVariants.{Head}
use Rattle.decimals.specs.Decimals.{is_digit}
use Rattle.reader.specs.Sheet.{line_of, is_line_end, starts_name, continues_name}
use Rattle.reader.specs.Readings.{reading_at, reached}
use Rattle.reader.specs.declared.Reading.TheVariants.{Literal}
use Rattle.reader.specs.declared.SheetLiteral.{SheetLiteral}
use Rattle.names.specs.Names.{bytes_at, name_of}
use Rattle.literals.specs.Literals.{Sofar, code_for}
use Rattle.sheetwords.specs.Sheets.{accepted, sheet_outcome}
use Rattle.sheetwords.proofs.Heads.{head_has_record}
use Rattle.sheetwords.proofs.Names.{names_apart, literal_has_name, name_is_written, name_bytes_lem}
use Rattle.buffers.specs.Padded.{padded}
use Rattle.valuesheet.specs.ValueSheet.{letter_of, line_for}
use Rattle.valuesheet.specs.Lines.{lines}
use Rattle.valuesheet.proofs.Lines.{NamesWithin, lines_count, lines_at}
use Rattle.sheets.specs.declared.SheetCounts.{SheetCounts}
use Rattle.sheets.specs.SheetEntry.{sheet_of}
use Rattle.sheets.proofs.Laws.{Leaves, leaves_a_table}

-- a byte of a name is not byte 10
name_byte_within : (b : ℕ) → continues_name b ≡ true → is_line_end b ≡ false
unfolding continues_name starts_name is_digit
name_byte_within b e = by (is_line_end b) refl
  where
    by : (x : Bool) → is_line_end b ≡ x → x ≡ false
    by true q = absurd (true≢false (sym e ∙ ap continues_name (eqb-true b 10 q)))
    by false q = refl

-- rows that end in as many bytes are equal in front of these
same_front : (u v t t' : List ℕ) → length t ≡ length t' → u ++ t ≡ v ++ t' → u ≡ v
same_front u v t t' h e =
    let as_long : length u ≡ length v = omega (arith, h, ap length e, length-append u t, length-append v t') in
    sym (take-append_seam u t) ∙ ap₂ (λ (n : ℕ) (l : List ℕ). take n l) as_long e ∙ take-append_seam v t'

-- the lines of a value sheet, at the front of a text: as many as names, each that of its atom, and one for each literal
module _ (s : List ℕ) (wordRoom nameRoom : ℕ) (x : Sofar) (read : sheet_outcome s wordRoom nameRoom ≡ accepted x) (I : Interpretation)
    (n : ℕ) (text rest : List ℕ) (bytes : n ≡ length (sheet_of s x I)) (text_is : text ≡ sheet_of s x I ++ rest) where
  abbrev codes : ℕ → ℕ
  codes a = code (value I (positive a))

  names_within : NamesWithin s x.names
  names_within a h b m = name_byte_within b (name_bytes_lem s wordRoom nameRoom x read a h b m)

  in_front_of_text : take n text ≡ sheet_of s x I
  in_front_of_text = ap₂ (λ (k : ℕ) (t : List ℕ). take k t) bytes text_is ∙ take-append_seam (sheet_of s x I) rest

  pub as_many_lines : length (lines (take n text)) ≡ length x.names
  as_many_lines = ap (λ (t : List ℕ). length (lines t)) in_front_of_text ∙ lines_count s codes 0 x.names names_within

  pub line_of_atom : (a : ℕ) → a < length x.names → get_or (lines (take n text)) a [] ≡ line_for s (get_or x.names a 0) (code (value I (positive a)))
  line_of_atom a h =
      ap (λ (t : List ℕ). get_or (lines t) a []) in_front_of_text
      ∙ lines_at s codes 0 x.names names_within a h ∙ ap (λ (i : ℕ). line_for s (get_or x.names a 0) (codes i)) (zero-add a)

  pub literal_has_line : (i : ℕ) (l : SheetLiteral) → reading_at s (reached s 0 i) ≡ Literal l
      → (a : ℕ) × (a < length (lines (take n text)))
      × (get_or (lines (take n text)) a [] ≡ bytes_at s l.start l.len ++ (9 ∷ letter_of (code (value I (positive a))) ∷ 10 ∷ []))
  literal_has_line i l e =
      let got = literal_has_name s wordRoom nameRoom x read i l e in (
        got.0,
        omega (arith, got.1, as_many_lines),
        line_of_atom got.0 got.1 ∙ ap (λ (u : List ℕ). u ++ (9 ∷ letter_of (codes got.0) ∷ 10 ∷ [])) got.2,
      )

  -- no name stands in two lines
  pub lines_differ : (a b : ℕ) → a < length (lines (take n text)) → b < length (lines (take n text)) → (name : List ℕ) (v w : ℕ)
      → get_or (lines (take n text)) a [] ≡ name ++ (9 ∷ v ∷ 10 ∷ [])
      → get_or (lines (take n text)) b [] ≡ name ++ (9 ∷ w ∷ 10 ∷ []) → a ≡ b
  lines_differ a b h h' name v w e e' =
      let below : a < length x.names = omega (arith, as_many_lines) in
      let below' : b < length x.names = omega (arith, as_many_lines) in
      names_apart s wordRoom nameRoom x read a b below below'
      (same_front _ name _ (9 ∷ v ∷ 10 ∷ []) refl (sym (line_of_atom a below) ∙ e)
      ∙ sym (same_front _ name _ (9 ∷ w ∷ 10 ∷ []) refl (sym (line_of_atom b below') ∙ e')))

-- by the counts answered and the buffers
module _ (s : List ℕ) (wordRoom nameRoom : ℕ) (c : SheetCounts) (ws ns text : List ℕ) (left : Leaves s wordRoom nameRoom c ws ns text) where
  -- the model of the words is that of the sheet
  pub model_left : (I : Interpretation) → Smallest (rules_of (take c.words ws)) I
      → (c.bytes ≡ length (sheet_of s left.sofar I)) × (text ≡ sheet_of s left.sofar I ++ left.rest)
  model_left I smallest =
      let records = (leaves_a_table s wordRoom nameRoom c ws ns text left left.sofar left.read).1 in
      let same = smallest_unique (rules_in left.sofar.records) left.model I left.smallest
      (subst (λ (Q : List TableRecord). Smallest (rules_in Q) I) records smallest) in (
        sym left.bytes ∙ ap (λ (J : Interpretation). length (sheet_of s left.sofar J)) same,
        left.text_is ∙ ap (λ (J : Interpretation). sheet_of s left.sofar J ++ left.rest) same,
      )

  -- an atom's entry
  entry_left : (a : ℕ) → a < c.atoms → get_or ns a 0 ≡ get_or left.sofar.names a 0
  unfolding padded
  entry_left a h =
      ap (λ (t : List ℕ). get_or t a 0) left.names_are
      ∙ get_or-append left.sofar.names (replicate (nameRoom - length left.sofar.names) 0) 0 a (omega (arith, left.atoms))

  module _ (I : Interpretation) (smallest : Smallest (rules_of (take c.words ws)) I) where
    pub as_many_lines_left : length (lines (take c.bytes text)) ≡ c.atoms
    as_many_lines_left =
        let is = model_left I smallest in
        as_many_lines s wordRoom nameRoom left.sofar left.read I c.bytes text left.rest is.0 is.1 ∙ left.atoms

    pub line_left : (a : ℕ) → a < c.atoms → get_or (lines (take c.bytes text)) a [] ≡ line_for s (get_or ns a 0) (code (value I (positive a)))
    line_left a h =
        let is = model_left I smallest in
        line_of_atom s wordRoom nameRoom left.sofar left.read I c.bytes text left.rest is.0 is.1 a (omega (arith, left.atoms))
        ∙ ap (λ (e : ℕ). line_for s e (code (value I (positive a)))) (sym (entry_left a h))

    pub literal_has_line_left : (i : ℕ) (l : SheetLiteral) → reading_at s (reached s 0 i) ≡ Literal l
        → (a : ℕ) × (a < length (lines (take c.bytes text)))
        × (get_or (lines (take c.bytes text)) a [] ≡ bytes_at s l.start l.len ++ (9 ∷ letter_of (code (value I (positive a))) ∷ 10 ∷ []))
    literal_has_line_left =
        let is = model_left I smallest in
        literal_has_line s wordRoom nameRoom left.sofar left.read I c.bytes text left.rest is.0 is.1

  pub names_left_apart : (a b : ℕ) → a < c.atoms → b < c.atoms → name_of s (get_or ns a 0) ≡ name_of s (get_or ns b 0) → a ≡ b
  names_left_apart a b h h' e =
      names_apart s wordRoom nameRoom left.sofar left.read a b (omega (arith, left.atoms)) (omega (arith, left.atoms))
      (sym (ap (name_of s) (entry_left a h)) ∙ e ∙ ap (name_of s) (entry_left b h'))

  pub literal_has_name_left : (i : ℕ) (l : SheetLiteral) → reading_at s (reached s 0 i) ≡ Literal l
      → (a : ℕ) × (a < c.atoms) × (name_of s (get_or ns a 0) ≡ bytes_at s l.start l.len)
  literal_has_name_left i l e =
      let got = literal_has_name s wordRoom nameRoom left.sofar left.read i l e in
      let h : got.0 < c.atoms = omega (arith, got.1, left.atoms) in
      (got.0, h, ap (name_of s) (entry_left got.0 h) ∙ got.2)

  pub name_left_is_written : (a : ℕ) → a < c.atoms
      → (i : ℕ) × (l : SheetLiteral) × (reading_at s (reached s 0 i) ≡ Literal l) × (name_of s (get_or ns a 0) ≡ bytes_at s l.start l.len)
  name_left_is_written a h =
      let got = name_is_written s wordRoom nameRoom left.sofar left.read a (omega (arith, left.atoms)) in
      (got.0, got.1, got.2, ap (name_of s) (entry_left a h) ∙ got.3)

  pub head_has_record_left : (i : ℕ) (l : SheetLiteral) → reading_at s (reached s 0 i) ≡ Literal l → l.role ≡ Head
      → (r : TableRecord) × (r ∈ records_of (take c.words ws)) × (r.line ≡ line_of s l.start)
      × (a : ℕ) × (r.rule.head ≡ code_for l.negated a) × (a < c.atoms) × (name_of s (get_or ns a 0) ≡ bytes_at s l.start l.len)
  head_has_record_left i l e head =
      let got = head_has_record s wordRoom nameRoom left.sofar left.read i l e head in
      let records = (leaves_a_table s wordRoom nameRoom c ws ns text left left.sofar left.read).1 in
      let h : got.3 < c.atoms = omega (arith, got.5.0, left.atoms) in (
        got.0,
        subst (λ (Q : List TableRecord). got.0 ∈ Q) (sym records) got.1,
        got.2,
        got.3,
        got.4,
        h,
        ap (name_of s) (entry_left got.3 h) ∙ got.5.1,
      )
