-- Names compared a byte at a time, and entries looked up one after the other.
use mathlib.Core.Path.{◌≡◌, refl, sym, ap, ap₂, ◌∙◌}
use mathlib.Core.List.{List, [], ◌∷◌}
use mathlib.Core.Bool.{Bool, true, false, ◌&&◌, cond}
use Prim.Native.Nat.{ℕ, zero, suc, ◌+◌, ◌-◌, ◌%◌, ◌<◌, ◌≤◌}
use native.Mathlib.Numerals.{add-one}
use native.Mathlib.Omega.{arith}
use lib.Dec.{eqb}
use lib.ListN.{length, get_or, take, drop, drop_of_length-le}
use lib.Seq.{drop-cons, get_or-take, length-take-le}
use borrow.Author.Tests.{eq-eqb, ne_eqb}
use Rattle.reader.specs.Sheet.{byte_at}
use Rattle.names.specs.Names.{bytes_at, name_of, same_bytes, number_in}

pub length_bytes_at : (s : List ℕ) (q n : ℕ) → length (bytes_at s q n) ≡ n
unfolding bytes_at
length_bytes_at s q zero = refl
length_bytes_at s q (suc n) = ap suc (length_bytes_at s (suc q) n)

-- names of different lengths differ
pub other_length : (u v : List ℕ) → (length u ≡ length v → ⊥) → same_bytes u v ≡ false
unfolding same_bytes
other_length [] [] h = absurd (h refl)
other_length [] (b ∷ v) h = refl
other_length (a ∷ u) [] h = refl
other_length (a ∷ u) (b ∷ v) h = by (eqb a b) (other_length u v (λ e. h (ap suc e)))
  where
    by : (x : Bool) → same_bytes u v ≡ false → (x && same_bytes u v) ≡ false
    by true e = e
    by false e = refl

pub other_length_name : (s : List ℕ) (e q n : ℕ) → (e % 32 ≡ n → ⊥) → same_bytes (name_of s e) (bytes_at s q n) ≡ false
other_length_name s e q n h =
    other_length (name_of s e) (bytes_at s q n) (λ l. h (sym (length_bytes_at s _ (e % 32)) ∙ l ∙ length_bytes_at s q n))

pub bytes_cons : (s : List ℕ) (a n i : ℕ) → i < n → bytes_at s (a + i) (n - i) ≡ byte_at s (a + i) ∷ bytes_at s (a + (i + 1)) (n - (i + 1))
unfolding bytes_at
bytes_cons s a n i h =
    let left : n - i ≡ suc (n - (i + 1)) = omega arith in
    let next : suc (a + i) ≡ a + (i + 1) = omega arith in
    ap (bytes_at s (a + i)) left ∙ ap (λ (x : ℕ). byte_at s (a + i) ∷ bytes_at s x (n - (i + 1))) next

abbrev pub rest_same : List ℕ → ℕ → ℕ → ℕ → ℕ → Bool
rest_same s a b n i = same_bytes (bytes_at s (a + i) (n - i)) (bytes_at s (b + i) (n - i))

module _ (s : List ℕ) (a b n i : ℕ) (whole : Bool) (inv : rest_same s a b n i ≡ whole) where
  split_same : i < n → (eqb (byte_at s (a + i)) (byte_at s (b + i)) && rest_same s a b n (i + 1)) ≡ whole
  unfolding same_bytes
  split_same h = sym (ap₂ same_bytes (bytes_cons s a n i h) (bytes_cons s b n i h)) ∙ inv

  -- equal bytes: the rest decides
  pub same_on : i < n → byte_at s (a + i) ≡ byte_at s (b + i) → rest_same s a b n (i + 1) ≡ whole
  same_on h e = sym (ap (λ (x : Bool). x && rest_same s a b n (i + 1)) (eq-eqb _ _ e)) ∙ split_same h

  pub same_stops : i < n → (byte_at s (a + i) ≡ byte_at s (b + i) → ⊥) → false ≡ whole
  same_stops h e = sym (ap (λ (x : Bool). x && rest_same s a b n (i + 1)) (ne_eqb _ _ e)) ∙ split_same h

  pub same_ended : n ≤ i → true ≡ whole
  unfolding same_bytes bytes_at
  same_ended h = let none : n - i ≡ 0 = omega arith in sym (ap (λ (x : ℕ). same_bytes (bytes_at s (a + i) x) (bytes_at s (b + i) x)) none) ∙ inv

pub same_begins : (s : List ℕ) (a b n : ℕ) → rest_same s a b n 0 ≡ same_bytes (bytes_at s a n) (bytes_at s b n)
same_begins s a b n =
    let x : a + 0 ≡ a = omega arith in
    let y : b + 0 ≡ b = omega arith in
    let z : n - 0 ≡ n = omega arith in
    ap₂ same_bytes (ap₂ (bytes_at s) x z) (ap₂ (bytes_at s) y z)

number_cons : (s es name : List ℕ) (i : ℕ) → i < length es
    → number_in s (drop i es) name ≡ cond (same_bytes (name_of s (get_or es i 0)) name) 0 (suc (number_in s (drop (suc i) es) name))
unfolding number_in
number_cons s es name i h = ap (λ (l : List ℕ). number_in s l name) (drop-cons es i 0 h)

pub number_at_most : (s es name : List ℕ) → number_in s es name ≤ length es
unfolding number_in
number_at_most s [] name = omega arith
number_at_most s (e ∷ es) name = by (same_bytes (name_of s e) name) (number_at_most s es name)
  where
    by : (x : Bool) → number_in s es name ≤ length es → cond x 0 (suc (number_in s es name)) ≤ suc (length es)
    by true h = omega arith
    by false h = omega arith

-- the search stands at i of the first `count` entries
module _ (s es name : List ℕ) (count i : ℕ) (fits : count ≤ length es)
    (inv : i + number_in s (drop i (take count es)) name ≡ number_in s (take count es) name) (e : ℕ) (is : e ≡ get_or es i 0) where
  entry_there : i < count → get_or (take count es) i 0 ≡ e
  entry_there h = get_or-take count es i 0 h ∙ sym is

  pub found_here : (b : Bool) → i < count → b ≡ same_bytes (name_of s e) name → b ≡ true → i ≡ number_in s (take count es) name
  found_here b h q t =
      omega (
        arith,
        inv,
        number_cons s (take count es) name i (omega (arith, length-take-le count es fits))
            ∙ ap (λ (x : ℕ). cond (same_bytes (name_of s x) name) 0 (suc (number_in s (drop (suc i) (take count es)) name))) (entry_there h)
            ∙ ap (λ (x : Bool). cond x 0 (suc (number_in s (drop (suc i) (take count es)) name))) (sym q ∙ t),
      )

  pub search_on : (b : Bool) → i < count → b ≡ same_bytes (name_of s e) name → b ≡ false
      → i + 1 + number_in s (drop (i + 1) (take count es)) name ≡ number_in s (take count es) name
  search_on b h q t =
      omega (
        arith,
        inv,
        number_cons s (take count es) name i (omega (arith, length-take-le count es fits))
            ∙ ap (λ (x : ℕ). cond (same_bytes (name_of s x) name) 0 (suc (number_in s (drop (suc i) (take count es)) name))) (entry_there h)
            ∙ ap (λ (x : Bool). cond x 0 (suc (number_in s (drop (suc i) (take count es)) name))) (sym q ∙ t),
        ap (λ (x : ℕ). number_in s (drop x (take count es)) name) (add-one i),
      )

pub found_none : (s es name : List ℕ) (count i : ℕ) → count ≤ length es → i ≤ count → count ≤ i
    → i + number_in s (drop i (take count es)) name ≡ number_in s (take count es) name → count ≡ number_in s (take count es) name
unfolding number_in
found_none s es name count i fits h h' inv =
    omega (arith, inv, ap (λ (l : List ℕ). number_in s l name) (drop_of_length-le (take count es) {i = i} (omega (arith, length-take-le count es fits))))

pub number_in_front : (s es name : List ℕ) (count : ℕ) → count ≤ length es → number_in s (take count es) name ≤ count
number_in_front s es name count fits = omega (arith, number_at_most s (take count es) name, length-take-le count es fits)
