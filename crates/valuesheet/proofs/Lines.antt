-- The lines of a value sheet: as many as names, and each is that of its atom.
use mathlib.Core.Path.{◌≡◌, refl, sym, ap, ◌∙◌}
use mathlib.Core.Logic.{⊎_elim}
use mathlib.Core.List.Memᴰ
use mathlib.Core.List.{List, [], ◌∷◌, ◌++◌, append_assoc}
use mathlib.Core.Bool.{Bool, false, cond}
use Prim.Native.Nat.{ℕ, zero, suc, ◌+◌, ◌<◌}
use native.Mathlib.Nat.{add-zero}
use native.Mathlib.Omega.{arith}
use lib.ListN.{length, get_or}
use Rattle.sets.specs.Sets.{◌∈◌}
use Rattle.reader.specs.Sheet.{is_line_end}
use Rattle.names.specs.Names.{name_of}
use Rattle.valuesheet.specs.ValueSheet.{letter_of, line_for, lines_from}
use Rattle.valuesheet.specs.Lines.{joined, lines}

-- bytes without byte 10
abbrev pub WithinLine : List ℕ → Type 0
WithinLine u = (b : ℕ) → b ∈ u → is_line_end b ≡ false

-- bytes without byte 10, and then byte 10, are a line
cut : (u t : List ℕ) → WithinLine u → lines (u ++ (10 ∷ t)) ≡ (u ++ (10 ∷ [])) ∷ lines t
unfolding lines joined
cut [] t h = refl
cut (b ∷ u) t h =
    ap (λ (x : Bool). cond x ((b ∷ []) ∷ lines (u ++ (10 ∷ t))) (joined b (lines (u ++ (10 ∷ t))))) (h b (Memᴰ.head refl))
    ∙ ap (joined b) (cut u t (λ x m. h x (Memᴰ.tail m)))

letter_within : (v : ℕ) → is_line_end (letter_of v) ≡ false
unfolding letter_of
letter_within zero = refl
letter_within (suc zero) = refl
letter_within (suc (suc zero)) = refl
letter_within (suc (suc (suc v))) = refl

value_within : (v : ℕ) → WithinLine (9 ∷ letter_of v ∷ [])
value_within v b (Memᴰ.head e) = ap is_line_end e
value_within v b (Memᴰ.tail (Memᴰ.head e)) = ap is_line_end e ∙ letter_within v
value_within v b (Memᴰ.tail (Memᴰ.tail m)) = absurd (Memᴰ.not-nil m)

-- a line of the value sheet is a line of the text
cut_line : (s : List ℕ) (e v : ℕ) (t : List ℕ) → WithinLine (name_of s e) → lines (line_for s e v ++ t) ≡ line_for s e v ∷ lines t
cut_line s e v t name =
    let before = name_of s e ++ (9 ∷ letter_of v ∷ []) in
    let within : WithinLine before =
    λ b m. ⊎_elim (λ (m' : b ∈ name_of s e). name b m') (λ m'. value_within v b m') (Memᴰ.append_cases (name_of s e) m) in
    ap lines (append_assoc (name_of s e) (9 ∷ letter_of v ∷ 10 ∷ []) t ∙ sym (append_assoc (name_of s e) (9 ∷ letter_of v ∷ []) (10 ∷ t)))
    ∙ cut before t within
    ∙ ap (λ (u : List ℕ). u ∷ lines t) (append_assoc (name_of s e) (9 ∷ letter_of v ∷ []) (10 ∷ []))

-- the names have no byte 10
abbrev pub NamesWithin : List ℕ → List ℕ → Type 0
NamesWithin s es = (a : ℕ) → a < length es → WithinLine (name_of s (get_or es a 0))

module _ (s : List ℕ) (values : ℕ → ℕ) where
  pub lines_count : (a : ℕ) (es : List ℕ) → NamesWithin s es → length (lines (lines_from s values a es)) ≡ length es
  unfolding lines_from lines
  lines_count a [] h = refl
  lines_count a (e ∷ es) h =
      ap length (cut_line s e (values a) (lines_from s values (suc a) es) (h 0 (omega arith)))
      ∙ ap suc (lines_count (suc a) es (λ i k. h (suc i) (omega arith)))

  pub lines_at : (a : ℕ) (es : List ℕ) → NamesWithin s es → (i : ℕ) → i < length es
      → get_or (lines (lines_from s values a es)) i [] ≡ line_for s (get_or es i 0) (values (a + i))
  unfolding lines_from
  lines_at a [] h i k = absurd (omega arith)
  lines_at a (e ∷ es) h zero k =
      ap (λ (ls : List (List ℕ)). get_or ls 0 []) (cut_line s e (values a) (lines_from s values (suc a) es) (h 0 (omega arith)))
      ∙ ap (λ (x : ℕ). line_for s e (values x)) (sym (add-zero a))
  lines_at a (e ∷ es) h (suc i) k =
      let there : suc a + i ≡ a + suc i = omega arith in
      ap (λ (ls : List (List ℕ)). get_or ls (suc i) []) (cut_line s e (values a) (lines_from s values (suc a) es) (h 0 (omega arith)))
      ∙ lines_at (suc a) es (λ j m. h (suc j) (omega arith)) i (omega arith)
      ∙ ap (λ (x : ℕ). line_for s (get_or es i 0) (values x)) there
