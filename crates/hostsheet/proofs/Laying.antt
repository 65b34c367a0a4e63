-- Entries laid over bytes, low byte first, one entry a turn. Assumes nothing.
use mathlib.Core.List.{List, [], ◌∷◌, ◌++◌}
use mathlib.Core.Path.{◌≡◌, refl, sym, ap, ◌∙◌}
use Prim.Native.Nat.{ℕ, zero, suc, ◌+◌, ◌*◌, ◌/◌, ◌%◌, ◌≤◌, ◌<◌}
use native.Mathlib.Numerals.{add-one}
use native.Mathlib.Omega.{arith}
use lib.ListN.{length, get_or, drop, take, set, length-set}
use lib.Seq.{drop-cons, set_at, append_snoc, take-suc, length-take-le, take_all}
use Rattle.hostsheet.specs.SheetBytes.{word_bytes, name_bytes, words_over, names_over}
use Rattle.hostsheet.specs.Rooms.{sized}

pub length_sized : (n : ℕ) (row : List ℕ) → length (sized n row) ≡ n
unfolding sized
length_sized zero row = refl
length_sized (suc n) [] = ap suc (length_sized n [])
length_sized (suc n) (e ∷ row) = ap suc (length_sized n row)

pub sized_at : (n : ℕ) (row : List ℕ) (i : ℕ) → i < n → get_or (sized n row) i 0 ≡ get_or row i 0
unfolding sized
sized_at zero row i h = absurd (omega arith)
sized_at (suc n) [] zero h = refl
sized_at (suc n) [] (suc i) h = sized_at n [] i (omega arith)
sized_at (suc n) (e ∷ row) zero h = refl
sized_at (suc n) (e ∷ row) (suc i) h = sized_at n row i (omega arith)

-- the bytes of an entry
length_words : (ws : List ℕ) → length (word_bytes ws) ≡ 2 * length ws
unfolding word_bytes
length_words [] = refl
length_words (w ∷ ws) = let h = length_words ws in omega arith

length_names : (es : List ℕ) → length (name_bytes es) ≡ 4 * length es
unfolding name_bytes
length_names [] = refl
length_names (e ∷ es) = let h = length_names es in omega arith

word_at : (ws : List ℕ) (i : ℕ) → i < length ws
    → (get_or (word_bytes ws) (2 * i) 0 ≡ get_or ws i 0 % 256) × (get_or (word_bytes ws) (2 * i + 1) 0 ≡ get_or ws i 0 / 256)
unfolding word_bytes
word_at [] i h = absurd (omega arith)
word_at (w ∷ ws) zero h = (refl, refl)
word_at (w ∷ ws) (suc i) h =
    let e : 2 * suc i ≡ suc (suc (2 * i)) = omega arith in
    let e' : 2 * suc i + 1 ≡ suc (suc (2 * i + 1)) = omega arith in
    let on = word_at ws i (omega arith) in
    (rw e on.0, rw e' on.1)

name_at_lem : (es : List ℕ) (i : ℕ) → i < length es
    → (get_or (name_bytes es) (4 * i) 0 ≡ get_or es i 0 % 256) × (get_or (name_bytes es) (4 * i + 1) 0 ≡ get_or es i 0 / 256 % 256)
    × (get_or (name_bytes es) (4 * i + 2) 0 ≡ get_or es i 0 / 65536 % 256) × (get_or (name_bytes es) (4 * i + 3) 0 ≡ get_or es i 0 / 16777216)
unfolding name_bytes
name_at_lem [] i h = absurd (omega arith)
name_at_lem (e ∷ es) zero h = (refl, refl, refl, refl)
name_at_lem (e ∷ es) (suc i) h =
    let e₀ : 4 * suc i ≡ suc (suc (suc (suc (4 * i)))) = omega arith in
    let e₁ : 4 * suc i + 1 ≡ suc (suc (suc (suc (4 * i + 1)))) = omega arith in
    let e₂ : 4 * suc i + 2 ≡ suc (suc (suc (suc (4 * i + 2)))) = omega arith in
    let e₃ : 4 * suc i + 3 ≡ suc (suc (suc (suc (4 * i + 3)))) = omega arith in
    let on = name_at_lem es i (omega arith) in
    (rw e₀ on.0, rw e₁ on.1, rw e₂ on.2, rw e₃ on.3)

-- j bytes of a row laid over old ones
abbrev pub laid : List ℕ → List ℕ → ℕ → List ℕ
laid row old j = take j row ++ drop j old

module _ (row old : List ℕ) (fits : length row ≤ length old) where
  lays_byte : (now : List ℕ) (j b : ℕ) → j < length row → b ≡ get_or row j 0 → now ≡ laid row old j → set now j b ≡ laid row old (j + 1)
  lays_byte now j b h eb e =
      ap (λ (l : List ℕ). set l j b) (e ∙ ap (λ (l : List ℕ). take j row ++ l) (drop-cons old j 0 (omega arith)))
      ∙ set_at (take j row) (get_or old j 0) (drop (suc j) old) b j (length-take-le j row (omega arith))
      ∙ sym (append_snoc (take j row) b (drop (suc j) old))
      ∙ rw (add-one j) (ap (λ (l : List ℕ). l ++ drop (suc j) old) (sym (take-suc row j 0 h ∙ ap (λ (z : ℕ). take j row ++ (z ∷ [])) (sym eb))))

lays_all : (row old now : List ℕ) (j : ℕ) → length row ≡ j → now ≡ laid row old j → now ≡ row ++ drop j old
lays_all row old now j h e = e ∙ ap (λ (l : List ℕ). l ++ drop j old) (take_all j row (omega arith))

-- a turn with a word
module _ (ws old now : List ℕ) (i w : ℕ) (h : i < length old / 2) (ew : w ≡ get_or ws i 0) where
  pub lays_word : now ≡ laid (word_bytes (sized (length old / 2) ws)) old (2 * i)
      → set (set now (2 * i) (w % 256)) (2 * i + 1) (w / 256) ≡ laid (word_bytes (sized (length old / 2) ws)) old (2 * (i + 1))
  lays_word e =
      let es = sized (length old / 2) ws in
      let n = length_sized (length old / 2) ws in
      let m = length_words es in
      let here = ew ∙ sym (sized_at (length old / 2) ws i h) in
      let at = word_at es i (omega arith) in
      let fits : length (word_bytes es) ≤ length old = omega arith in
      let next : 2 * i + 1 + 1 ≡ 2 * (i + 1) = omega arith in
      lays_byte (word_bytes es) old fits _ (2 * i + 1) (w / 256) (omega arith) (ap (λ (z : ℕ). z / 256) here ∙ sym at.1)
      (lays_byte (word_bytes es) old fits now (2 * i) (w % 256) (omega arith) (ap (λ (z : ℕ). z % 256) here ∙ sym at.0) e)
      ∙ ap (laid (word_bytes es) old) next

pub laid_words : (ws old now : List ℕ) (i : ℕ) → i ≤ length old / 2
    → length old / 2 ≤ i → now ≡ laid (word_bytes (sized (length old / 2) ws)) old (2 * i)
    → now ≡ words_over (sized (length old / 2) ws) old
laid_words ws old now i h k e =
    let es = sized (length old / 2) ws in
    let n = length_sized (length old / 2) ws in
    let m = length_words es in
    let done : i ≡ length old / 2 = omega arith in
    lays_all (word_bytes es) old now (2 * (length old / 2)) (omega arith) (e ∙ ap (λ (z : ℕ). laid (word_bytes es) old (2 * z)) done)

-- four bytes stored, by what they are
pub four_set : (old : List ℕ) (at : ℕ) {a a' b b' c c' d d' : ℕ} → a ≡ a' → b ≡ b' → c ≡ c' → d ≡ d'
    → set (set (set (set old at a) (at + 1) b) (at + 2) c) (at + 3) d ≡ set (set (set (set old at a') (at + 1) b') (at + 2) c') (at + 3) d'
four_set old at ea eb ec ed = cc

pub four_length : (old : List ℕ) (at a b c d : ℕ) → length (set (set (set (set old at a) (at + 1) b) (at + 2) c) (at + 3) d) ≡ length old
four_length old at a b c d = simp length-set refl

-- a turn with a name entry
module _ (ns old now : List ℕ) (i e : ℕ) (h : i < length old / 4) (ee : e ≡ get_or ns i 0) where
  pub lays_name : now ≡ laid (name_bytes (sized (length old / 4) ns)) old (4 * i)
      → set (set (set (set now (4 * i) (e % 256)) (4 * i + 1) (e / 256 % 256)) (4 * i + 2) (e / 65536 % 256)) (4 * i + 3) (e / 16777216)
      ≡ laid (name_bytes (sized (length old / 4) ns)) old (4 * (i + 1))
  lays_name q =
      let es = sized (length old / 4) ns in
      let row = name_bytes es in
      let n = length_sized (length old / 4) ns in
      let m = length_names es in
      let here = ee ∙ sym (sized_at (length old / 4) ns i h) in
      let at = name_at_lem es i (omega arith) in
      let fits : length row ≤ length old = omega arith in
      let two : 4 * i + 1 + 1 ≡ 4 * i + 2 = omega arith in
      let three : 4 * i + 2 + 1 ≡ 4 * i + 3 = omega arith in
      let next : 4 * i + 3 + 1 ≡ 4 * (i + 1) = omega arith in
      let first = lays_byte row old fits now (4 * i) (e % 256) (omega arith) (ap (λ (z : ℕ). z % 256) here ∙ sym at.0) q in
      let second = lays_byte row old fits _ (4 * i + 1) (e / 256 % 256) (omega arith) (ap (λ (z : ℕ). z / 256 % 256) here ∙ sym at.1) first
      ∙ ap (laid row old) two in
      let third = lays_byte row old fits _ (4 * i + 2) (e / 65536 % 256) (omega arith) (ap (λ (z : ℕ). z / 65536 % 256) here ∙ sym at.2) second
      ∙ ap (laid row old) three in
      lays_byte row old fits _ (4 * i + 3) (e / 16777216) (omega arith) (ap (λ (z : ℕ). z / 16777216) here ∙ sym at.3) third ∙ ap (laid row old) next

pub laid_names : (ns old now : List ℕ) (i : ℕ) → i ≤ length old / 4
    → length old / 4 ≤ i → now ≡ laid (name_bytes (sized (length old / 4) ns)) old (4 * i)
    → now ≡ names_over (sized (length old / 4) ns) old
laid_names ns old now i h k e =
    let es = sized (length old / 4) ns in
    let n = length_sized (length old / 4) ns in
    let m = length_names es in
    let done : i ≡ length old / 4 = omega arith in
    lays_all (name_bytes es) old now (4 * (length old / 4)) (omega arith) (e ∙ ap (λ (z : ℕ). laid (name_bytes es) old (4 * z)) done)
