-- The words of records, as a literal is added at their end.
use mathlib.Core.Path.{◌≡◌, refl, sym, ap, ap₂, ◌∙◌}
use mathlib.Core.List.{List, [], ◌∷◌, ◌++◌, append-nil, append_assoc}
use Prim.Native.Nat.{ℕ, suc, ◌+◌, ◌-◌, ◌≤◌}
use native.Mathlib.Omega.{arith}
use lib.ListN.{length, get_or, set, replicate, length-append}
use lib.Seq.{set_at, get_or_at}
use Rattle.words.specs.Layout.{TableRecord, group_words, groups_words, record_words, words_of}
use Rattle.buffers.specs.Padded.{padded}

pub groups_snoc : (βs : List (List ℕ)) (β : List ℕ) → groups_words (βs ++ (β ∷ [])) ≡ groups_words βs ++ group_words β
unfolding groups_words
groups_snoc [] β = simp append-nil
groups_snoc (γ ∷ βs) β =
    ap (λ (t : List ℕ). group_words γ ++ t) (groups_snoc βs β) ∙ sym (append_assoc (group_words γ) (groups_words βs) (group_words β))

pub words_snoc : (Q : List TableRecord) (r : TableRecord) → words_of (Q ++ (r ∷ [])) ≡ words_of Q ++ record_words r
unfolding words_of
words_snoc [] r = simp append-nil
words_snoc (s ∷ Q) r = ap (λ (t : List ℕ). record_words s ++ t) (words_snoc Q r) ∙ sym (append_assoc (record_words s) (words_of Q) (record_words r))

-- room for a word more
pad1 : (n : ℕ) (l : List ℕ) → length l + 1 ≤ n → padded n l ≡ l ++ (0 ∷ replicate (n - (length l + 1)) 0)
unfolding padded
pad1 n l h = let left : n - length l ≡ suc (n - (length l + 1)) = omega arith in ap (λ (x : ℕ). l ++ replicate {A = ℕ} x 0) left

pad_of1 : (n : ℕ) (l : List ℕ) (a : ℕ) → padded n (l ++ (a ∷ [])) ≡ l ++ (a ∷ replicate (n - (length l + 1)) 0)
unfolding padded
pad_of1 n l a =
    append_assoc l (a ∷ []) (replicate (n - length (l ++ (a ∷ []))) 0)
    ∙ ap (λ (x : ℕ). l ++ (a ∷ replicate (n - x) 0)) (length-append l (a ∷ []))

-- one entry more at the end of a buffer
pub put1 : (n : ℕ) (l : List ℕ) (a : ℕ) → length l + 1 ≤ n → set (padded n l) (length l) a ≡ padded n (l ++ (a ∷ []))
put1 n l a h =
    ap (λ (t : List ℕ). set t (length l) a) (pad1 n l h)
    ∙ set_at l 0 (replicate (n - (length l + 1)) 0) a (length l) refl
    ∙ sym (pad_of1 n l a)

-- two entries more
pub put2 : (n : ℕ) (l : List ℕ) (a b : ℕ) → length l + 2 ≤ n
    → set (set (padded n l) (length l) a) (length l + 1) b ≡ padded n (l ++ (a ∷ b ∷ []))
put2 n l a b h =
    ap₂ (λ (t : List ℕ) (x : ℕ). set t x b) (put1 n l a (omega arith)) (sym (length-append l (a ∷ [])))
    ∙ put1 n (l ++ (a ∷ [])) b (omega (arith, length-append l (a ∷ [])))
    ∙ ap (padded n) (append_assoc l (a ∷ []) (b ∷ []))

-- three entries more, the third zero
pub put2_zero : (n : ℕ) (l : List ℕ) (a b : ℕ) → length l + 3 ≤ n
    → set (set (padded n l) (length l) a) (length l + 1) b ≡ padded n (l ++ (a ∷ b ∷ 0 ∷ []))
put2_zero n l a b h =
    put2 n l a b (omega arith) ∙ pad1 n (l ++ (a ∷ b ∷ [])) (omega (arith, length-append l (a ∷ b ∷ [])))
    ∙ sym (pad_of1 n (l ++ (a ∷ b ∷ [])) 0) ∙ ap (padded n) (append_assoc l (a ∷ b ∷ []) (0 ∷ []))

-- a count inside the buffer, and the same count changed
module _ (n : ℕ) (P : List ℕ) (m : ℕ) (G : List ℕ) where
  pub count_there : get_or (padded n (P ++ (m ∷ G))) (length P) 0 ≡ m
  unfolding padded
  count_there =
      ap (λ (t : List ℕ). get_or t (length P) 0) (append_assoc P (m ∷ G) (replicate (n - length (P ++ (m ∷ G))) 0))
      ∙ get_or_at P m (G ++ replicate (n - length (P ++ (m ∷ G))) 0) 0 (length P) refl

  same_size : (m' : ℕ) → length (P ++ (m ∷ G)) ≡ length (P ++ (m' ∷ G))
  same_size m' = length-append P (m ∷ G) ∙ sym (length-append P (m' ∷ G))

  pub count_changed : (m' : ℕ) → set (padded n (P ++ (m ∷ G))) (length P) m' ≡ padded n (P ++ (m' ∷ G))
  unfolding padded
  count_changed m' =
      ap (λ (t : List ℕ). set t (length P) m') (append_assoc P (m ∷ G) (replicate (n - length (P ++ (m ∷ G))) 0))
      ∙ set_at P m (G ++ replicate (n - length (P ++ (m ∷ G))) 0) m' (length P) refl
      ∙ sym (append_assoc P (m' ∷ G) (replicate (n - length (P ++ (m ∷ G))) 0))
      ∙ ap (λ (x : ℕ). (P ++ (m' ∷ G)) ++ replicate (n - x) 0) (same_size m')

-- Q's words have a count at i; Q''s words have it one higher, and e besides
pub record Grown (Q Q' : List TableRecord) (i m : ℕ) (e : List ℕ) : Type 0 where
  pub P : List ℕ
  pub G : List ℕ
  pub before : words_of Q ≡ P ++ (m ∷ G)
  pub place : length P ≡ i
  pub words : words_of Q' ≡ (P ++ ((m + 1) ∷ G)) ++ e

module _ (n : ℕ) (ws : List ℕ) (Q Q' : List TableRecord) (i m : ℕ) (w : ℕ) (is : ws ≡ padded n (words_of Q)) (end : w ≡ length (words_of Q)) where
  pub grown_count : (e : List ℕ) → Grown Q Q' i m e → get_or ws i 0 ≡ m
  grown_count e g =
      ap₂ (λ (t : List ℕ) (x : ℕ). get_or t x 0) (is ∙ ap (padded n) g.before) (sym g.place) ∙ count_there n g.P m g.G

  grown_length : (e : List ℕ) → (g : Grown Q Q' i m e) → w ≡ length (g.P ++ ((m + 1) ∷ g.G))
  grown_length e g = end ∙ ap length g.before ∙ same_size n g.P m g.G (m + 1)

  grown_set : (e : List ℕ) → (g : Grown Q Q' i m e) → set ws i (get_or ws i 0 + 1) ≡ padded n (g.P ++ ((m + 1) ∷ g.G))
  grown_set e g =
      ap₂ (λ (t : List ℕ) (x : ℕ). set t x (get_or ws i 0 + 1)) (is ∙ ap (padded n) g.before) (sym g.place)
      ∙ ap (λ (x : ℕ). set (padded n (g.P ++ (m ∷ g.G))) (length g.P) (x + 1)) (grown_count e g)
      ∙ count_changed n g.P m g.G (m + 1)

  pub grown1 : (a : ℕ) → w + 1 ≤ n → Grown Q Q' i m (a ∷ []) → set (set ws i (get_or ws i 0 + 1)) w a ≡ padded n (words_of Q')
  grown1 a h g =
      ap₂ (λ (t : List ℕ) (x : ℕ). set t x a) (grown_set (a ∷ []) g) (grown_length (a ∷ []) g)
      ∙ put1 n (g.P ++ ((m + 1) ∷ g.G)) a (omega (arith, grown_length (a ∷ []) g))
      ∙ sym (ap (padded n) g.words)

  pub grown2 : (a b : ℕ) → w + 2 ≤ n → Grown Q Q' i m (a ∷ b ∷ [])
      → set (set (set ws i (get_or ws i 0 + 1)) w a) (w + 1) b ≡ padded n (words_of Q')
  grown2 a b h g =
      ap₂ (λ (t : List ℕ) (x : ℕ). set (set t x a) (x + 1) b) (grown_set (a ∷ b ∷ []) g) (grown_length (a ∷ b ∷ []) g)
      ∙ put2 n (g.P ++ ((m + 1) ∷ g.G)) a b (omega (arith, grown_length (a ∷ b ∷ []) g))
      ∙ sym (ap (padded n) g.words)

  pub grown_words : (e : List ℕ) → Grown Q Q' i m e → length (words_of Q') ≡ length (words_of Q) + length e
  grown_words e g =
      ap length g.words ∙ length-append (g.P ++ ((m + 1) ∷ g.G)) e
      ∙ ap (λ (x : ℕ). x + length e) (sym (grown_length e g) ∙ end)
