-- Printing the value sheet line by line, a byte at a time.
use mathlib.Core.Path.{◌≡◌, refl, sym, ap, ap₂, ◌∙◌}
use mathlib.Core.List.{List, [], ◌∷◌, ◌++◌}
use mathlib.Core.Bool.{Bool, cond}
use Prim.Native.Nat.{ℕ, suc, ◌+◌, ◌-◌, ◌%◌, ◌<◌, ◌≤◌}
use native.Mathlib.Nat.{zero-add}
use native.Mathlib.Numerals.{add-one}
use native.Mathlib.Omega.{arith}
use lib.ListN.{length, get_or, take, drop, set, length-append, drop_of_length-le}
use lib.Seq.{sets, sets-eq, drop-cons, get_or-take, length-take-le}
use borrow.Author.Tests.{le-leb, lt-leb}
use Rattle.refusal.specs.Numbers.{text_room_too_small}
use Rattle.reader.specs.Sheet.{byte_at}
use Rattle.names.specs.Names.{bytes_at, name_of}
use Rattle.names.proofs.Steps.{length_bytes_at, bytes_cons}
use Rattle.valuesheet.specs.ValueSheet.{letter_of, line_for, lines_from}
use Rattle.valuesheet.specs.Fitting.{line_bytes, bytes_for, printing, text_after}
use Rattle.std.specs.Prelude.{Ok, Err}

-- stores one after the other
pub sets_append : (t : List ℕ) (i : ℕ) (u v : List ℕ) → sets t i (u ++ v) ≡ sets (sets t i u) (i + length u) v
sets_append t i [] v = let here : i ≡ i + 0 = omega arith in ap (λ (x : ℕ). sets t x v) here
sets_append t i (b ∷ u) v =
    let there : suc i + length u ≡ i + suc (length u) = omega arith in
    sets_append (set t i b) (suc i) u v ∙ ap (λ (x : ℕ). sets (sets (set t i b) (suc i) u) x v) there

-- a name, a byte at a time
abbrev pub name_left : List ℕ → ℕ → ℕ → List ℕ → ℕ → ℕ → List ℕ
name_left s start len t at i = sets t (at + i) (bytes_at s (start + i) (len - i))

pub name_begins : (s : List ℕ) (start len : ℕ) (t : List ℕ) (at : ℕ) → name_left s start len t at 0 ≡ sets t at (bytes_at s start len)
name_begins s start len t at =
    let x : at + 0 ≡ at = omega arith in
    let y : start + 0 ≡ start = omega arith in
    let z : len - 0 ≡ len = omega arith in
    ap₂ (λ (i : ℕ) (u : List ℕ). sets t i u) x (ap₂ (bytes_at s) y z)

pub name_turn : (s : List ℕ) (start len : ℕ) (t : List ℕ) (at i b : ℕ) → i < len → b ≡ byte_at s (start + i)
    → name_left s start len (set t (at + i) b) at (i + 1) ≡ name_left s start len t at i
name_turn s start len t at i b h e =
    let next : at + (i + 1) ≡ suc (at + i) = omega arith in
    ap₂ (λ (x : ℕ) (y : ℕ). sets (set t (at + i) y) x (bytes_at s (start + (i + 1)) (len - (i + 1)))) next e
    ∙ ap (sets t (at + i)) (sym (bytes_cons s start len i h))

pub name_ends : (s : List ℕ) (start len : ℕ) (t : List ℕ) (at i : ℕ) → len ≤ i → name_left s start len t at i ≡ t
unfolding bytes_at
name_ends s start len t at i h = let none : len - i ≡ 0 = omega arith in ap (λ (x : ℕ). sets t (at + i) (bytes_at s (start + i) x)) none

-- a line: the name, then its value
pub line_is : (s : List ℕ) (e v : ℕ) (t t' t'' : List ℕ) (at : ℕ) → t' ≡ sets t at (name_of s e)
    → t'' ≡ set (set (set t' (at + e % 32) 9) (at + e % 32 + 1) (letter_of v)) (at + e % 32 + 2) 10 → t'' ≡ sets t at (line_for s e v)
line_is s e v t t' t'' at name value =
    let q = at + e % 32 in
    let one : q + 1 ≡ suc q = omega arith in
    let two : q + 2 ≡ suc (suc q) = omega arith in
    value
    ∙ ap₂ (λ (x y : ℕ). set (set (set t' q 9) x (letter_of v)) y 10) one two
    ∙ ap₂ (λ (u : List ℕ) (x : ℕ). sets u x (9 ∷ letter_of v ∷ 10 ∷ [])) name (ap (λ (x : ℕ). at + x) (sym (length_bytes_at s _ (e % 32))))
    ∙ sym (sets_append t at (name_of s e) (9 ∷ letter_of v ∷ 10 ∷ []))

pub length_line : (s : List ℕ) (e v : ℕ) → length (line_for s e v) ≡ line_bytes e
length_line s e v = length-append (name_of s e) (9 ∷ letter_of v ∷ 10 ∷ []) ∙ ap (λ (x : ℕ). x + 3) (length_bytes_at s _ (e % 32))

-- the lines from an atom on, and the bytes that they need
module _ (s : List ℕ) (values : ℕ → ℕ) where
  pub lines_length : (a : ℕ) (es : List ℕ) → length (lines_from s values a es) ≡ bytes_for es
  unfolding lines_from bytes_for
  lines_length a [] = refl
  lines_length a (e ∷ es) =
      length-append (line_for s e (values a)) (lines_from s values (suc a) es)
      ∙ ap₂ (λ (x y : ℕ). x + y) (length_line s e (values a)) (lines_length (suc a) es)

  lines_cons : (a : ℕ) (es : List ℕ) → a < length es
      → lines_from s values a (drop a es) ≡ line_for s (get_or es a 0) (values a) ++ lines_from s values (a + 1) (drop (a + 1) es)
  unfolding lines_from
  lines_cons a es h =
      ap (lines_from s values a) (drop-cons es a 0 h)
      ∙ ap (λ (x : ℕ). line_for s (get_or es a 0) (values a) ++ lines_from s values x (drop x es)) (sym (add-one a))

bytes_of : (a : ℕ) (es : List ℕ) → a < length es → bytes_for (drop a es) ≡ line_bytes (get_or es a 0) + bytes_for (drop (a + 1) es)
unfolding bytes_for
bytes_of a es h =
    ap bytes_for (drop-cons es a 0 h) ∙ ap (λ (x : ℕ). line_bytes (get_or es a 0) + bytes_for (drop x es)) (sym (add-one a))

-- one name of the first n
module _ (names : List ℕ) (n a : ℕ) (fits : n ≤ length names) (here : a < n) (e : ℕ) (entry : e ≡ get_or names a 0) where
  inside : a < length (take n names)
  inside = omega (arith, length-take-le n names fits)

  entry_is : get_or (take n names) a 0 ≡ e
  entry_is = get_or-take n names a 0 here ∙ sym entry

  pub bytes_turn : (total line whole : ℕ) → line ≡ line_bytes e → total + bytes_for (drop a (take n names)) ≡ whole
      → total + line + bytes_for (drop (a + 1) (take n names)) ≡ whole
  bytes_turn total line whole l inv =
      omega (arith, inv, bytes_of a (take n names) inside, l ∙ ap line_bytes (sym entry_is))

  pub line_fits : (at whole : ℕ) → at + bytes_for (drop a (take n names)) ≡ whole → at + line_bytes e ≤ whole
  line_fits at whole inv = omega (arith, inv, bytes_of a (take n names) inside, ap line_bytes (sym entry_is))

  pub lines_turn : (s : List ℕ) (values : ℕ → ℕ) (t t' : List ℕ) (at line v : ℕ)
      → v ≡ values a → line ≡ line_bytes e → t' ≡ sets t at (line_for s e v)
      → sets t' (at + line) (lines_from s values (a + 1) (drop (a + 1) (take n names))) ≡ sets t at (lines_from s values a (drop a (take n names)))
  lines_turn s values t t' at line v val l put =
      let rest = lines_from s values (a + 1) (drop (a + 1) (take n names)) in
      ap₂ (λ (u : List ℕ) (x : ℕ). sets u (at + x) rest) put (l ∙ sym (length_line s e v))
      ∙ sym (sets_append t at (line_for s e v) rest)
      ∙ ap₂ (λ (x y : ℕ). sets t at (line_for s x y ++ rest)) (sym entry_is) val
      ∙ ap (sets t at) (sym (lines_cons s values a (take n names) inside))

-- past the last name
pub no_bytes : (names : List ℕ) (n a : ℕ) → n ≤ length names → n ≤ a → bytes_for (drop a (take n names)) ≡ 0
unfolding bytes_for
no_bytes names n a fits h = ap bytes_for (drop_of_length-le (take n names) {i = a} (omega (arith, length-take-le n names fits)))

pub no_lines : (s : List ℕ) (values : ℕ → ℕ) (names : List ℕ) (n a : ℕ)
    → n ≤ length names → n ≤ a → lines_from s values a (drop a (take n names)) ≡ []
unfolding lines_from
no_lines s values names n a fits h =
    ap (lines_from s values a) (drop_of_length-le (take n names) {i = a} (omega (arith, length-take-le n names fits)))

-- what printing leaves
pub does_not_fit : (out text : List ℕ) (needed : ℕ) → needed ≡ length out → length text < needed
    → (Err (text_room_too_small needed) ≡ printing out (length text)) × (text ≡ text_after out text)
unfolding printing text_after
does_not_fit out text needed e h =
    let no = lt-leb (length out) (length text) (omega arith) in (
      ap (λ (x : ℕ). Err (text_room_too_small x)) e
          ∙ sym (ap (λ (b : Bool). cond b (Ok (length out)) (Err (text_room_too_small (length out)))) no),
      sym (ap (λ (b : Bool). cond b (out ++ drop (length out) text) text) no),
    )

pub fits_whole : (out text text' : List ℕ) (needed : ℕ) → needed ≡ length out → needed ≤ length text → text' ≡ sets text 0 out
    → (Ok needed ≡ printing out (length text)) × (text' ≡ text_after out text)
unfolding printing text_after
fits_whole out text text' needed e h put =
    let yes = le-leb (length out) (length text) (omega arith) in (
      ap Ok e ∙ sym (ap (λ (b : Bool). cond b (Ok (length out)) (Err (text_room_too_small (length out)))) yes),
      put ∙ sets-eq out text 0 (omega arith) ∙ ap (λ (x : ℕ). out ++ drop x text) (zero-add (length out))
          ∙ sym (ap (λ (b : Bool). cond b (out ++ drop (length out) text) text) yes),
    )
