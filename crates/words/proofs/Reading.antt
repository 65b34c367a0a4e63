-- Reading the words of records gives the records back.
use mathlib.Core.Path.{◌≡◌, refl, ap, ap₂, ◌∙◌}
use mathlib.Core.List.{List, [], ◌∷◌, ◌++◌, append_assoc}
use Prim.Native.Nat.{ℕ, zero, suc, ◌≤◌}
use native.Mathlib.Nat.{not-suc-le-zero, le_refl}
use native.Mathlib.Omega.{arith}
use lib.ListN.{length, drop, length-drop, length-append}
use lib.Seq.{take-append_seam, drop-append_seam}
use Rattle.words.specs.Layout.{TableRecord, groups_words, words_of, take_groups, drop_groups, records_within, records_of}
use Rattle.words.specs.RecordAt.{WholeGroups}

pub take_groups_groups_words : (βs : List (List ℕ)) (rest : List ℕ) → take_groups (length βs) (groups_words βs ++ rest) ≡ βs
unfolding take_groups groups_words
take_groups_groups_words [] rest = refl
take_groups_groups_words (β ∷ βs) rest =
    rw (append_assoc β (groups_words βs) rest, take-append_seam β (groups_words βs ++ rest), drop-append_seam β (groups_words βs ++ rest))
    (ap (λ (γs : List (List ℕ)). β ∷ γs) (take_groups_groups_words βs rest))

pub drop_groups_groups_words : (βs : List (List ℕ)) (rest : List ℕ) → drop_groups (length βs) (groups_words βs ++ rest) ≡ rest
unfolding drop_groups groups_words
drop_groups_groups_words [] rest = refl
drop_groups_groups_words (β ∷ βs) rest =
    rw (append_assoc β (groups_words βs) rest, drop-append_seam β (groups_words βs ++ rest)) (drop_groups_groups_words βs rest)

-- as many groups are taken as there are
pub length_take_groups : (m : ℕ) (ws : List ℕ) → WholeGroups m ws → length (take_groups m ws) ≡ m
unfolding WholeGroups take_groups
length_take_groups zero ws h = refl
length_take_groups (suc m) [] h = absurd h
length_take_groups (suc m) (k ∷ ws) h = ap suc (length_take_groups m (drop k ws) h.1)

-- the words of groups are whole groups
pub whole_groups : (βs : List (List ℕ)) (rest : List ℕ) → WholeGroups (length βs) (groups_words βs ++ rest)
unfolding WholeGroups groups_words
whole_groups [] rest = tt
whole_groups (β ∷ βs) rest =
    let e = append_assoc β (groups_words βs) rest in (
      (let l = length-append β (groups_words βs ++ rest) in rw e (omega arith)),
      rw (e, drop-append_seam β (groups_words βs ++ rest)) (whole_groups βs rest),
    )

length_drop_groups : (m : ℕ) (t : List ℕ) → length (drop_groups m t) ≤ length t
unfolding drop_groups
length_drop_groups zero t = le_refl (length t)
length_drop_groups (suc m) [] = le_refl 0
length_drop_groups (suc m) (k ∷ t) = omega (arith, length_drop_groups m (drop k t), length-drop k t)

-- more records than words change nothing
records_within_enough : (n n' : ℕ) (t : List ℕ) → length t ≤ n → length t ≤ n' → records_within n t ≡ records_within n' t
unfolding records_within
records_within_enough zero zero [] h h' = refl
records_within_enough zero (suc n') [] h h' = refl
records_within_enough (suc n) zero [] h h' = refl
records_within_enough (suc n) (suc n') [] h h' = refl
records_within_enough zero n' (w ∷ t) h h' = absurd (not-suc-le-zero h)
records_within_enough (suc n) zero (w ∷ t) h h' = absurd (not-suc-le-zero h')
records_within_enough (suc n) (suc n') (w ∷ []) h h' = refl
records_within_enough (suc n) (suc n') (w ∷ x ∷ []) h h' = refl
records_within_enough (suc n) (suc n') (w ∷ x ∷ m ∷ t) h h' =
    ap (λ (Q : List TableRecord). record { line = x; rule = record { head = w; groups = take_groups m t } } ∷ Q)
    (records_within_enough n n' (drop_groups m t) (omega (arith, length_drop_groups m t)) (omega (arith, length_drop_groups m t)))

-- the empty table has no records
pub records_of_nothing : records_of [] ≡ []
unfolding records_of records_within
records_of_nothing = refl

-- the first record, and the records of the words after it
pub records_of_record : (h x m : ℕ) (t : List ℕ)
    → records_of (h ∷ x ∷ m ∷ t) ≡ record { line = x; rule = record { head = h; groups = take_groups m t } } ∷ records_of (drop_groups m t)
unfolding records_of records_within
records_of_record h x m t =
    ap (λ (Q : List TableRecord). record { line = x; rule = record { head = h; groups = take_groups m t } } ∷ Q)
    (records_within_enough (suc (suc (length t))) (length (drop_groups m t)) (drop_groups m t) (omega (arith, length_drop_groups m t))
    (le_refl (length (drop_groups m t))))

-- there are no more records than words
pub records_fit : (Q : List TableRecord) → length Q ≤ length (words_of Q)
unfolding words_of
records_fit [] = le_refl 0
records_fit (r ∷ Q) = omega (arith, records_fit Q, length-append (groups_words r.rule.groups) (words_of Q))

-- the records of the words of records
pub records_of_words_of : (Q : List TableRecord) → records_of (words_of Q) ≡ Q
unfolding words_of
records_of_words_of [] = records_of_nothing
records_of_words_of (r ∷ Q) =
    let ρ = r.rule in
    records_of_record ρ.head r.line (length ρ.groups) (groups_words ρ.groups ++ words_of Q)
    ∙ ap₂ (λ (βs : List (List ℕ)) (S : List TableRecord). record { line = r.line; rule = record { head = ρ.head; groups = βs } } ∷ S)
    (take_groups_groups_words ρ.groups (words_of Q))
    (ap records_of (drop_groups_groups_words ρ.groups (words_of Q)) ∙ records_of_words_of Q)
