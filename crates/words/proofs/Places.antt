-- Going through a table by places: what stands there, told from the records that are still to come.
use mathlib.Core.Path.{◌≡◌, refl, sym, ap, ◌∙◌}
use mathlib.Core.List.{List, [], ◌∷◌, ◌++◌}
use Prim.Native.Nat.{ℕ, ◌+◌, ◌<◌}
use native.Mathlib.Nat.{add-zero, add_assoc}
use native.Mathlib.Omega.{arith}
use lib.ListN.{length, get_or, drop, length-drop}
use lib.Seq.{drop-drop, get_or-drop}
use Rattle.words.specs.Layout.{TableRecord, groups_words, words_of, line_number_at, groups_at, body_at}

-- from place i on stand the records Q
abbrev pub RecordsAt : List ℕ → ℕ → List TableRecord → Type 0
RecordsAt t i Q = drop i t ≡ words_of Q

-- from place j on stand the groups βs, and then the records Q
abbrev pub GroupsAt : List ℕ → ℕ → List (List ℕ) → List TableRecord → Type 0
GroupsAt t j βs Q = drop j t ≡ groups_words βs ++ words_of Q

-- one word
pub record WordAt (t : List ℕ) (i w : ℕ) (rest : List ℕ) : Type 0 where
  pub inside : i < length t
  pub word : get_or t i 0 ≡ w
  pub after : drop (i + 1) t ≡ rest

pub word_at : (t : List ℕ) (i w : ℕ) (rest : List ℕ) → drop i t ≡ w ∷ rest → WordAt t i w rest
word_at t i w rest e = record {
  inside = omega (arith, length-drop i t, ap length e);
  word = ap (λ (x : ℕ). get_or t x 0) (sym (add-zero i)) ∙ sym (get_or-drop i t 0 0) ∙ ap (λ (u : List ℕ). get_or u 0 0) e;
  after = sym (drop-drop 1 i t) ∙ ap (drop 1) e;
}

-- a record: its head, its line, its number of groups, and where its groups begin
pub record RecordAt (t : List ℕ) (i : ℕ) (r : TableRecord) (Q : List TableRecord) : Type 0 where
  pub inside : groups_at i < length t
  pub head : get_or t i 0 ≡ r.rule.head
  pub line : get_or t (line_number_at i) 0 ≡ r.line
  pub count : get_or t (groups_at i) 0 ≡ length r.rule.groups
  pub groups : GroupsAt t (body_at i) r.rule.groups Q

pub record_at : (t : List ℕ) (i : ℕ) (r : TableRecord) (Q : List TableRecord) → RecordsAt t i (r ∷ Q) → RecordAt t i r Q
unfolding words_of
record_at t i r Q e =
    let m = length r.rule.groups in
    let body = groups_words r.rule.groups ++ words_of Q in
    let one = word_at t i r.rule.head (r.line ∷ m ∷ body) e in
    let two = word_at t (line_number_at i) r.line (m ∷ body) one.after in
    let three = word_at t (groups_at i) m body (ap (λ (x : ℕ). drop x t) (sym (add_assoc i 1 1)) ∙ two.after) in
    record {
      inside = three.inside;
      head = one.word;
      line = two.word;
      count = three.word;
      groups = ap (λ (x : ℕ). drop x t) (sym (add_assoc i 2 1)) ∙ three.after;
    }

-- before the end there is a record to come
pub some_record : (t : List ℕ) (i : ℕ) (Q : List TableRecord) → i < length t → RecordsAt t i Q
    → (r : TableRecord) × (rest : List TableRecord) × (Q ≡ r ∷ rest)
unfolding words_of
some_record t i [] h e = absurd (omega (arith, length-drop i t, ap length e))
some_record t i (r ∷ Q) h e = (r, Q, refl)
