-- Going through the records of a table: what was passed, what is to come, and where the next begins. Assumes nothing.
use mathlib.Core.List.Memᴰ
use mathlib.Core.List.{List, [], ◌∷◌, ◌++◌, append_assoc, append-nil}
use mathlib.Core.Path.{◌≡◌, refl, sym, ap, ap₂, ◌∙◌, subst⁻¹}
use Prim.Native.Nat.{ℕ, ◌+◌, ◌≤◌, ◌<◌}
use native.Mathlib.Nat.{zero-add}
use native.Mathlib.Omega.{arith}
use lib.ListN.{length, take, drop, length-drop, length-append}
use lib.Seq.{take-append_seam}
use Rattle.sets.specs.Sets.{◌∈◌}
use Rattle.paper.specs.Rules.{Rule}
use Rattle.words.specs.Check.{AcceptedTable}
use Rattle.words.specs.Layout.{TableRecord, record_words, words_of, records_of, rules_in, rules_of, body_at, take_groups, drop_groups}
use Rattle.words.specs.RecordAt.{groups_in, body_from, rule_at, WholeGroups}
use Rattle.words.proofs.Laws.{words_of_records_of}
use Rattle.words.proofs.Places.{RecordAt, record_at, some_record}
use Rattle.words.proofs.Reading.{take_groups_groups_words, drop_groups_groups_words, whole_groups}
use Rattle.least.specs.Walk.{GroupsSkipped}

-- the records before a place, and those from it on
pub record Through (t : List ℕ) (passed : List TableRecord) (at : ℕ) : Type 0 where
  pub rest : List TableRecord
  pub split : records_of t ≡ passed ++ rest
  pub here : drop at t ≡ words_of rest
  pub inside : at ≤ length t
  pub place : at ≡ length (words_of passed)

pub through_start : (N : ℕ) (t : List ℕ) → AcceptedTable N t → Through t [] 0
unfolding words_of
through_start N t a =
    record { rest = records_of t; split = refl; here = sym (words_of_records_of N t a); inside = omega arith; place = refl }

-- the record at the place
pub record This (t : List ℕ) (P : List TableRecord) (at : ℕ) (w : Through t P at) : Type 0 where
  pub this : TableRecord
  pub others : List TableRecord
  pub rest_is : w.rest ≡ this ∷ others
  pub rule_is : rule_at t at ≡ this.rule
  pub body_inside : body_at at ≤ length t
  pub whole : WholeGroups (groups_in t at) (body_from t at)
  pub after_is : drop_groups (groups_in t at) (body_from t at) ≡ words_of others

pub this_record : (t : List ℕ) (P : List TableRecord) (at : ℕ) → at < length t → (w : Through t P at) → This t P at w
this_record t P at lt w =
    let q = some_record t at w.rest lt w.here in
    let r : TableRecord = q.0 in
    let Q : List TableRecord = q.1 in
    let p : RecordAt t at r Q = record_at t at r Q (w.here ∙ ap words_of q.2) in
    let groups : take_groups (groups_in t at) (body_from t at) ≡ r.rule.groups =
    ap₂ take_groups p.count p.groups ∙ take_groups_groups_words r.rule.groups (words_of Q)
    in
    record {
      this = r;
      others = Q;
      rest_is = q.2;
      rule_is = ap₂ (λ (h : ℕ) (βs : List (List ℕ)). record { head = h; groups = βs }) p.head groups;
      body_inside = omega (arith, p.inside);
      whole = rw (p.count, p.groups) (whole_groups r.rule.groups (words_of Q));
      after_is = ap₂ drop_groups p.count p.groups ∙ drop_groups_groups_words r.rule.groups (words_of Q);
    }

map_behind : (P : List TableRecord) (r : TableRecord) (Q : List TableRecord) → r.rule ∈ rules_in (P ++ r ∷ Q)
map_behind [] r Q = Memᴰ.head refl
map_behind (p ∷ P) r Q = Memᴰ.tail (map_behind P r Q)

-- its rule is one of the table's
pub this_of_table : (t : List ℕ) (P : List TableRecord) (at : ℕ) (w : Through t P at) → This t P at w → rule_at t at ∈ rules_of t
this_of_table t P at w h =
    subst⁻¹ (λ (ρ : Rule). ρ ∈ rules_of t) h.rule_is
    (subst⁻¹ (λ (R : List TableRecord). h.this.rule ∈ rules_in R) (w.split ∙ ap (λ (R : List TableRecord). P ++ R) h.rest_is)
    (map_behind P h.this h.others))

length_behind : (P : List TableRecord) (r : TableRecord) → length (words_of (P ++ r ∷ [])) ≡ length (words_of P) + length (record_words r)
unfolding words_of
length_behind [] r = ap length (append-nil (record_words r)) ∙ sym (zero-add (length (record_words r)))
length_behind (p ∷ P) r =
    let e = length_behind P r in
    let a = length-append (record_words p) (words_of (P ++ r ∷ [])) in
    let b = length-append (record_words p) (words_of P) in
    omega arith

length_front : (r : TableRecord) (Q : List TableRecord) → length (words_of (r ∷ Q)) ≡ length (record_words r) + length (words_of Q)
unfolding words_of
length_front r Q = length-append (record_words r) (words_of Q)

-- it is passed
pub through_next : (t : List ℕ) (P : List TableRecord) (at next : ℕ) (w : Through t P at) (h : This t P at w)
    → GroupsSkipped t (body_at at) (groups_in t at) next → Through t (P ++ h.this ∷ []) next
through_next t P at next w h s =
    let e : drop next t ≡ words_of h.others = s.after ∙ h.after_is in
    record {
      rest = h.others;
      split = w.split ∙ ap (λ (R : List TableRecord). P ++ R) h.rest_is ∙ sym (append_assoc P (h.this ∷ []) h.others);
      here = e;
      inside = s.inside;
      place =
          let a = length_behind P h.this in
          let b = length_front h.this h.others in
          let c : length (drop next t) ≡ length (words_of h.others) = ap length e in
          let d : length (drop at t) ≡ length (words_of (h.this ∷ h.others)) = ap length (w.here ∙ ap words_of h.rest_is) in
          let f = length-drop next t in
          let g = length-drop at t in
          let i = w.place in
          let j = w.inside in
          let k = s.inside in
          omega arith;
    }

-- at the end all are passed
pub through_end : (t : List ℕ) (P : List TableRecord) (at : ℕ) → length t ≤ at → Through t P at → records_of t ≡ P
unfolding words_of
through_end t P at le w = w.split ∙ ap (λ (R : List TableRecord). P ++ R) (none w.rest w.here) ∙ append-nil P
  where
    none : (Q : List TableRecord) → drop at t ≡ words_of Q → Q ≡ []
    none [] e = refl
    none (r ∷ Q) e =
        let a = length_front r Q in
        let b : length (drop at t) ≡ length (words_of (r ∷ Q)) = ap length e in
        let c = length-drop at t in
        absurd (omega arith)

-- where the record at the place begins, told by how many stand before it
pub place_of : (t : List ℕ) (P : List TableRecord) (at : ℕ) → Through t P at → at ≡ length (words_of (take (length P) (records_of t)))
place_of t P at w =
    w.place ∙ ap (λ (R : List TableRecord). length (words_of R)) (sym (ap (take (length P)) w.split ∙ take-append_seam P w.rest))
