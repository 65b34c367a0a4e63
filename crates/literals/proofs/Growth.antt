-- How records, their words, their heads and the names grow by one literal.
use mathlib.Core.Path.{◌≡◌, refl, sym, ap, ap₂, ◌∙◌, subst}
use mathlib.Core.List.{List, [], ◌∷◌, ◌++◌, append_assoc}
use mathlib.Core.Bool.{Bool, true, false, cond}
use mathlib.Core.Logic.{⊎_elim}
use Prim.Native.Nat.{ℕ, zero, suc, ◌+◌, ◌-◌, ◌*◌, ◌≤◌, ◌<◌}
use native.Mathlib.Nat.{add-zero}
use native.Mathlib.Omega.{arith}
use lib.Dec.{eqb, ltb}
use lib.ListN.{length, get_or, set, take, replicate, length-append, length-set}
use lib.Seq.{take_at}
use Rattle.bits.specs.Sets.{member}
use Rattle.bits.proofs.Laws.{member_put_in, length_put_in}
use Rattle.words.specs.Layout.{TableRecord, groups_words, record_words, words_of, line_number_at, groups_at, body_at}
use Rattle.reader.specs.declared.Role.{Role}
use Rattle.reader.specs.declared.Role.TheVariants.{Head, First, Further}
use Rattle.reader.specs.declared.SheetLiteral.{SheetLiteral}
use Rattle.names.specs.Names.{entry_for}
use Rattle.literals.specs.declared.Counts.{Counts}
use Rattle.literals.specs.Literals.{on_last, last_or, new_record, last_groups, last_group, change_groups, with_literal, words_for, with_name, is_head, in_body, code_for}
use Rattle.buffers.specs.Padded.{padded}
use Rattle.literals.specs.Putting.{names_with, put_words, put_name, put_head, counted, body_in}
use Rattle.literals.proofs.Lasts.{but_last, Some, some_snoc, snoc_of, on_last_is, length_on_last, but_last_snoc, last_snoc, below_snoc}
use Rattle.literals.proofs.Layouts.{groups_snoc, words_snoc, put1, put2_zero, Grown, grown_count, grown1, grown2, grown_words}

-- where the last record stands, and where its last group does
abbrev pub RuleAt : Counts → List TableRecord → Type 0
RuleAt k Q = Some Q × (k.rule ≡ length (words_of (but_last Q)))

abbrev pub GroupAt : Counts → List TableRecord → Type 0
GroupAt k Q = Some (last_groups Q) × (k.group ≡ body_at (length (words_of (but_last Q))) + length (groups_words (but_last (last_groups Q))))

-- what a literal of a role stands on: a head on nothing, the first of a group on a record, a further one on a group
abbrev pub Standing : Role → Counts → List TableRecord → Type 0
Standing Head k Q = Unit {0}
Standing First k Q = RuleAt k Q
Standing Further k Q = RuleAt k Q × GroupAt k Q

last_words : (Q : List TableRecord) → Some Q → words_of Q ≡ words_of (but_last Q) ++ record_words (last_or (new_record 0 0) Q)
last_words Q h = ap words_of (snoc_of (new_record 0 0) Q h) ∙ words_snoc (but_last Q) (last_or (new_record 0 0) Q)

changed_words : (f : List (List ℕ) → List (List ℕ)) (Q : List TableRecord) → Some Q
    → words_of (on_last (change_groups f) Q) ≡ words_of (but_last Q) ++ record_words (change_groups f (last_or (new_record 0 0) Q))
changed_words f Q h =
    ap words_of (on_last_is (change_groups f) (new_record 0 0) Q h) ∙ words_snoc (but_last Q) (change_groups f (last_or (new_record 0 0) Q))

-- a group more
first_grows : (k : Counts) (Q : List TableRecord) (x c : ℕ) → RuleAt k Q
    → Grown Q (with_literal First x c Q) (groups_at k.rule) (length (last_groups Q)) (1 ∷ c ∷ [])
unfolding with_literal
first_grows k Q x c at =
    let B = words_of (but_last Q) in
    let r = last_or (new_record 0 0) Q in
    let F = r.rule.head ∷ r.line ∷ [] in
    let βs = last_groups Q in
    record {
      P = B ++ F;
      G = groups_words βs;
      before = last_words Q at.0 ∙ sym (append_assoc B F (length βs ∷ groups_words βs));
      place = length-append B F ∙ ap groups_at (sym at.1);
      words = changed_words (λ γs. γs ++ ((c ∷ []) ∷ [])) Q at.0
          ∙ ap₂ (λ (m : ℕ) (t : List ℕ). B ++ (F ++ (m ∷ t))) (length-append βs ((c ∷ []) ∷ [])) (groups_snoc βs (c ∷ []))
          ∙ sym (append_assoc (B ++ F) ((length βs + 1) ∷ groups_words βs) (1 ∷ c ∷ []) ∙ append_assoc B F _);
    }

-- a literal more in the last group
further_grows : (k : Counts) (Q : List TableRecord) (x c : ℕ) → RuleAt k Q → GroupAt k Q
    → Grown Q (with_literal Further x c Q) k.group (length (last_group Q)) (c ∷ [])
unfolding with_literal
further_grows k Q x c at in_group =
    let B = words_of (but_last Q) in
    let r = last_or (new_record 0 0) Q in
    let βs = last_groups Q in
    let C = groups_words (but_last βs) in
    let F = r.rule.head ∷ r.line ∷ length βs ∷ C in
    let β = last_group Q in
    let grown = on_last_is (λ γ. γ ++ (c ∷ [])) [] βs in_group.0 in
    let same_count : length (on_last (λ γ. γ ++ (c ∷ [])) βs) ≡ length βs =
    ap length grown ∙ length-append (but_last βs) ((β ++ (c ∷ [])) ∷ [])
    ∙ sym (ap length (snoc_of [] βs in_group.0) ∙ length-append (but_last βs) (β ∷ [])) in
    record {
      P = B ++ F;
      G = β;
      before = last_words Q at.0
          ∙ ap (λ (t : List ℕ). B ++ (r.rule.head ∷ r.line ∷ length βs ∷ t))
          (ap groups_words (snoc_of [] βs in_group.0) ∙ groups_snoc (but_last βs) β)
          ∙ sym (append_assoc B F (length β ∷ β));
      place = omega (arith, length-append B F, in_group.1);
      words = changed_words (on_last (λ γ. γ ++ (c ∷ []))) Q at.0
          ∙ ap₂ (λ (m : ℕ) (t : List ℕ). B ++ (r.rule.head ∷ r.line ∷ m ∷ t)) same_count
          (ap groups_words grown ∙ groups_snoc (but_last βs) (β ++ (c ∷ []))
          ∙ ap (λ (n : ℕ). C ++ (n ∷ (β ++ (c ∷ [])))) (length-append β (c ∷ [])))
          ∙ sym (append_assoc (B ++ F) ((length β + 1) ∷ β) (c ∷ []) ∙ append_assoc B F _);
    }

head_words : (Q : List TableRecord) (x c : ℕ) → words_of (with_literal Head x c Q) ≡ words_of Q ++ (c ∷ x ∷ 0 ∷ [])
unfolding with_literal groups_words
head_words Q x c = words_snoc Q (new_record x c)

-- the words counted are those that the records have
pub words_grow : (role : Role) (k : Counts) (Q : List TableRecord) (x c : ℕ) → Standing role k Q
    → length (words_of (with_literal role x c Q)) ≡ length (words_of Q) + words_for role
words_grow Head k Q x c at = ap length (head_words Q x c) ∙ length-append (words_of Q) (c ∷ x ∷ 0 ∷ [])
words_grow First k Q x c at = grown_words 0 _ Q _ _ _ _ refl refl _ (first_grows k Q x c at)
words_grow Further k Q x c at = grown_words 0 _ Q _ _ _ _ refl refl _ (further_grows k Q x c at.0 at.1)

-- the word buffer holds the grown records
pub words_kept : (role : Role) (k : Counts) (Q : List TableRecord) (x c n : ℕ) (ws : List ℕ) → Standing role k Q → ws ≡ padded n (words_of Q)
    → k.words ≡ length (words_of Q) → k.words + words_for role ≤ n → put_words role x c k ws ≡ padded n (words_of (with_literal role x c Q))
words_kept Head k Q x c n ws at is end fits =
    ap₂ (λ (t : List ℕ) (w : ℕ). set (set t w c) (line_number_at w) x) is end
    ∙ put2_zero n (words_of Q) c x (omega (arith, end)) ∙ sym (ap (padded n) (head_words Q x c))
words_kept First k Q x c n ws at is end fits =
    grown2 n ws Q (with_literal First x c Q) _ _ k.words is end 1 c fits (first_grows k Q x c at)
words_kept Further k Q x c n ws at is end fits =
    grown1 n ws Q (with_literal Further x c Q) _ _ k.words is end c fits (further_grows k Q x c at.0 at.1)

-- a head begins a record, and no other literal does
abbrev pub begun : Role → ℕ
begun Head = 1
begun First = 0
begun Further = 0

pub records_grow : (role : Role) (Q : List TableRecord) (x c : ℕ) → length (with_literal role x c Q) ≡ length Q + begun role
unfolding with_literal
records_grow Head Q x c = length-append Q (new_record x c ∷ [])
records_grow First Q x c = length_on_last (change_groups (λ βs. βs ++ ((c ∷ []) ∷ []))) Q ∙ sym (add-zero (length Q))
records_grow Further Q x c = length_on_last (change_groups (on_last (λ β. β ++ (c ∷ [])))) Q ∙ sym (add-zero (length Q))

-- only a head is given a line
abbrev pub SameLine : Role → ℕ → ℕ → Type 0
SameLine Head x y = x ≡ y
SameLine First x y = Unit {0}
SameLine Further x y = Unit {0}

pub same_records : (role : Role) (x y c : ℕ) (Q : List TableRecord) → SameLine role x y → with_literal role x c Q ≡ with_literal role y c Q
unfolding with_literal
same_records Head x y c Q e = ap (λ (z : ℕ). Q ++ (new_record z c ∷ [])) e
same_records First x y c Q e = refl
same_records Further x y c Q e = refl

-- the records stand in lines 1, 2, 3, ..
abbrev pub LineByLine : List TableRecord → Type 0
LineByLine Q = (i : ℕ) (other : TableRecord) → i < length Q → (get_or Q i other).line ≡ i + 1

same_lines : (f : List (List ℕ) → List (List ℕ)) (Q : List TableRecord) (i : ℕ) (other : TableRecord)
    → (get_or (on_last (change_groups f) Q) i other).line ≡ (get_or Q i other).line
unfolding on_last
same_lines f [] i other = refl
same_lines f (r ∷ []) zero other = refl
same_lines f (r ∷ []) (suc i) other = refl
same_lines f (r ∷ s ∷ Q) zero other = refl
same_lines f (r ∷ s ∷ Q) (suc i) other = same_lines f (s ∷ Q) i other

lines_changed : (f : List (List ℕ) → List (List ℕ)) (Q : List TableRecord) → LineByLine Q → LineByLine (on_last (change_groups f) Q)
lines_changed f Q lines i other h =
    same_lines f Q i other ∙ lines i other (subst (λ (n : ℕ). i < n) (length_on_last (change_groups f) Q) h)

pub lines_grow : (role : Role) (Q : List TableRecord) (x c : ℕ) → SameLine role (length Q + 1) x → LineByLine Q
    → LineByLine (with_literal role x c Q)
unfolding with_literal
lines_grow Head Q x c same lines i other h =
    ⊎_elim (λ (old : (i < length Q) × (get_or (Q ++ (new_record x c ∷ [])) i other ≡ get_or Q i other)).
    ap (λ (r : TableRecord). r.line) old.1 ∙ lines i other old.0)
    (λ (new : (i ≡ length Q) × (get_or (Q ++ (new_record x c ∷ [])) i other ≡ new_record x c)).
    ap (λ (r : TableRecord). r.line) new.1 ∙ sym same ∙ ap (λ (n : ℕ). n + 1) (sym new.0))
    (below_snoc other Q (new_record x c) i h)
lines_grow First Q x c same lines i other h = lines_changed (λ βs. βs ++ ((c ∷ []) ∷ [])) Q lines i other h
lines_grow Further Q x c same lines i other h = lines_changed (on_last (λ β. β ++ (c ∷ []))) Q lines i other h

-- the counts in the buffer are those of the body
pub body_is : (role : Role) (k : Counts) (Q : List TableRecord) (n : ℕ) (ws : List ℕ) → Standing role k Q → ws ≡ padded n (words_of Q)
    → body_in role k ws ≡ in_body role (length (last_groups Q)) (length (last_group Q))
body_is Head k Q n ws at is = refl
body_is First k Q n ws at is = ap (λ (m : ℕ). m + 1) (grown_count n ws Q _ _ _ _ is refl _ (first_grows k Q 0 0 at))
body_is Further k Q n ws at is = ap (λ (m : ℕ). m + 1) (grown_count n ws Q _ _ _ _ is refl _ (further_grows k Q 0 0 at.0 at.1))

-- a changed last record: the same records before it, its changed groups, and the same heads
module _ (f : List (List ℕ) → List (List ℕ)) (Q : List TableRecord) (some : Some Q) where
  changed_records : on_last (change_groups f) Q ≡ but_last Q ++ (change_groups f (last_or (new_record 0 0) Q) ∷ [])
  changed_records = on_last_is (change_groups f) (new_record 0 0) Q some

  changed_some : Some (on_last (change_groups f) Q)
  changed_some = subst Some (sym changed_records) (some_snoc (but_last Q) (change_groups f (last_or (new_record 0 0) Q)))

  changed_before : but_last (on_last (change_groups f) Q) ≡ but_last Q
  changed_before = ap but_last changed_records ∙ but_last_snoc (but_last Q) (change_groups f (last_or (new_record 0 0) Q))

  changed_groups : last_groups (on_last (change_groups f) Q) ≡ f (last_groups Q)
  changed_groups =
      ap (λ (r : TableRecord). r.rule.groups)
      (ap (last_or (new_record 0 0)) changed_records ∙ last_snoc (new_record 0 0) (but_last Q) (change_groups f (last_or (new_record 0 0) Q)))

  changed_at : (x : ℕ) → x ≡ length (words_of (but_last Q)) → x ≡ length (words_of (but_last (on_last (change_groups f) Q)))
  changed_at x e = e ∙ ap (λ (Q' : List TableRecord). length (words_of Q')) (sym changed_before)

-- after a literal there is a record, and after a literal of a body a group
pub on_rule : (a : ℕ) (role : Role) (k : Counts) (Q : List TableRecord) (x c : ℕ) → Standing role k Q → k.words ≡ length (words_of Q)
    → RuleAt (counted role a k) (with_literal role x c Q)
unfolding with_literal
on_rule a Head k Q x c at end =
    (some_snoc Q (new_record x c), end ∙ ap (λ (Q' : List TableRecord). length (words_of Q')) (sym (but_last_snoc Q (new_record x c))))
on_rule a First k Q x c at end =
    (changed_some (λ βs. βs ++ ((c ∷ []) ∷ [])) Q at.0, changed_at (λ βs. βs ++ ((c ∷ []) ∷ [])) Q at.0 k.rule at.1)
on_rule a Further k Q x c at end =
    (changed_some (on_last (λ β. β ++ (c ∷ []))) Q at.0.0, changed_at (on_last (λ β. β ++ (c ∷ []))) Q at.0.0 k.rule at.0.1)

grouped : (f : List (List ℕ) → List (List ℕ)) (Q : List TableRecord) (x : ℕ) → Some Q → Some (f (last_groups Q))
    → x ≡ body_at (length (words_of (but_last Q))) + length (groups_words (but_last (f (last_groups Q))))
    → Some (last_groups (on_last (change_groups f) Q))
    × (x ≡ body_at (length (words_of (but_last (on_last (change_groups f) Q)))) + length
    (groups_words (but_last (last_groups (on_last (change_groups f) Q)))))
grouped f Q x some here e = (
  subst Some (sym (changed_groups f Q some)) here,
  e ∙ ap₂ (λ (Q' : List TableRecord) (βs : List (List ℕ)). body_at (length (words_of Q')) + length (groups_words (but_last βs)))
      (sym (changed_before f Q some)) (sym (changed_groups f Q some)),
)

pub on_group_first : (a : ℕ) (k : Counts) (Q : List TableRecord) (x c : ℕ) → Standing First k Q → k.words ≡ length (words_of Q)
    → GroupAt (counted First a k) (with_literal First x c Q)
unfolding with_literal
on_group_first a k Q x c at end =
    let βs = last_groups Q in
    grouped (λ γs. γs ++ ((c ∷ []) ∷ [])) Q k.words at.0 (some_snoc βs (c ∷ []))
    (end ∙ ap length (last_words Q at.0) ∙ length-append (words_of (but_last Q)) (record_words (last_or (new_record 0 0) Q))
    ∙ omega (arith, ap (λ (γs : List (List ℕ)). length (groups_words γs)) (but_last_snoc βs (c ∷ []))))

pub on_group_further : (a : ℕ) (k : Counts) (Q : List TableRecord) (x c : ℕ) → Standing Further k Q
    → GroupAt (counted Further a k) (with_literal Further x c Q)
unfolding with_literal
on_group_further a k Q x c at =
    let βs = last_groups Q in
    let grown = on_last_is (λ γ. γ ++ (c ∷ [])) [] βs at.1.0 in
    grouped (on_last (λ γ. γ ++ (c ∷ []))) Q k.group at.0.0
    (subst Some (sym grown) (some_snoc (but_last βs) (last_group Q ++ (c ∷ []))))
    (at.1.1 ∙ ap (λ (γs : List (List ℕ)). body_at (length (words_of (but_last Q))) + length (groups_words γs))
    (sym (ap but_last grown ∙ but_last_snoc (but_last βs) (last_group Q ++ (c ∷ [])))))

-- the heads of the records
swap : (a b x : Bool) → cond a true (cond b true x) ≡ cond b true (cond a true x)
swap true true x = refl
swap true false x = refl
swap false true x = refl
swap false false x = refl

pub is_head_snoc : (Q : List TableRecord) (r : TableRecord) (j : ℕ) → is_head (Q ++ (r ∷ [])) j ≡ cond (eqb j r.rule.head) true (is_head Q j)
unfolding is_head
is_head_snoc [] r j = refl
is_head_snoc (s ∷ Q) r j =
    ap (λ (b : Bool). cond (eqb j s.rule.head) true b) (is_head_snoc Q r j) ∙ swap (eqb j s.rule.head) (eqb j r.rule.head) (is_head Q j)

pub is_head_changed : (f : List (List ℕ) → List (List ℕ)) (Q : List TableRecord) (j : ℕ) → is_head (on_last (change_groups f) Q) j ≡ is_head Q j
unfolding is_head on_last
is_head_changed f [] j = refl
is_head_changed f (r ∷ []) j = refl
is_head_changed f (r ∷ s ∷ Q) j = ap (λ (b : Bool). cond (eqb j r.rule.head) true b) (is_head_changed f (s ∷ Q) j)

pub heads_kept : (role : Role) (Q : List TableRecord) (x c : ℕ) (heads : List ℕ) → c < 1024 → length heads ≡ 16
    → ((j : ℕ) → member heads j ≡ is_head Q j) → (j : ℕ) → member (put_head role c heads) j ≡ is_head (with_literal role x c Q) j
unfolding with_literal
heads_kept Head Q x c heads h l e j =
    ap (λ (p : ℕ → Bool). p j) (member_put_in heads c (omega arith)) ∙ ap (λ (b : Bool). cond (eqb j c) true b) (e j)
    ∙ sym (is_head_snoc Q (new_record x c) j)
heads_kept First Q x c heads h l e j = e j ∙ sym (is_head_changed (λ βs. βs ++ ((c ∷ []) ∷ [])) Q j)
heads_kept Further Q x c heads h l e j = e j ∙ sym (is_head_changed (on_last (λ β. β ++ (c ∷ []))) Q j)

pub heads_length : (role : Role) (c : ℕ) (heads : List ℕ) → length (put_head role c heads) ≡ length heads
heads_length Head c heads = length_put_in heads c
heads_length First c heads = refl
heads_length Further c heads = refl

-- the names
pub names_length : (a : ℕ) (l : SheetLiteral) (names : List ℕ) → length (with_name a l names) ≡ names_with a (length names)
unfolding with_name
names_length a l names = by (ltb a (length names))
  where
    by : (b : Bool) → length (cond b names (names ++ (entry_for l.start l.len ∷ []))) ≡ cond b (length names) (length names + 1)
    by true = refl
    by false = length-append names (entry_for l.start l.len ∷ [])

pub names_kept : (a : ℕ) (l : SheetLiteral) (names ns : List ℕ) (n : ℕ) → ns ≡ padded n names → names_with a (length names) ≤ n
    → put_name a (length names) (entry_for l.start l.len) ns ≡ padded n (with_name a l names)
unfolding with_name
names_kept a l names ns n is h = by (ltb a (length names)) h
  where
    by : (b : Bool) → cond b (length names) (length names + 1) ≤ n
        → cond b ns (set ns (length names) (entry_for l.start l.len)) ≡ padded n (cond b names (names ++ (entry_for l.start l.len ∷ [])))
    by true h = is
    by false h = ap (λ (t : List ℕ). set t (length names) (entry_for l.start l.len)) is ∙ put1 n names (entry_for l.start l.len) h

-- what a buffer has been filled with
pub in_front : (n room : ℕ) (l ws : List ℕ) → n ≡ length l → ws ≡ padded room l → take n ws ≡ l
unfolding padded
in_front n room l ws e is = ap (take n) is ∙ take_at l (replicate (room - length l) 0) n (sym e)

-- the buffers keep their lengths
pub words_length : (role : Role) (x c : ℕ) (k : Counts) (ws : List ℕ) → length (put_words role x c k ws) ≡ length ws
words_length Head x c k ws = simp length-set
words_length First x c k ws = simp length-set
words_length Further x c k ws = simp length-set

pub name_room : (a n e : ℕ) (ns : List ℕ) → length (put_name a n e ns) ≡ length ns
name_room a n e ns = by (ltb a n)
  where
    by : (b : Bool) → length (cond b ns (set ns n e)) ≡ length ns
    by true = refl
    by false = length-set ns n e

-- the code of an atom below n
pub code_below : (negated : Bool) (a n : ℕ) → a < n → code_for negated a < 2 * n
code_below true a n h = omega arith
code_below false a n h = omega arith
