-- The lines of a text matched with the literals that want them: one turn of the loop, and its end. Assumes nothing.
use mathlib.Core.Bool.{Bool, true, false, true≢false, cond}
use mathlib.Core.List.Memᴰ
use mathlib.Core.List.{List, [], ◌∷◌, ◌++◌, map-append, append_assoc, append-nil, cons≢nil, head-eq_of_cons-eq, tail-eq_of_cons-eq}
use mathlib.Core.Logic.{⊎_elim}
use mathlib.Core.Path.{◌≡◌, refl, sym, ap, ap₂, ◌∙◌, subst}
use Prim.Native.Nat.{ℕ, zero, suc, ◌+◌, ◌*◌, ◌≤◌, ◌<◌}
use native.Mathlib.Numerals.{add-one}
use native.Mathlib.Omega.{arith}
use native.Mathlib.Decide.{ℕ_discrete}
use lib.Dec.{eqb}
use lib.ListN.{length, get_or, set, replicate, length-append}
use Rattle.std.specs.Prelude.{Some, None, Ok, Err}
use lib.Seq.{get_or-set_same, get_or-set_other}
use borrow.Author.Tests.{eq-eqb, ne_eqb}
use Rattle.sets.specs.Sets.{◌∈◌}
use Rattle.paper.specs.Definitions.{Interpretation}
use Rattle.justified.specs.declared.Line.{Line}
use Rattle.justified.specs.ByLiteral.{no_line, line_in}
use Rattle.reasontext.specs.ReasonSheet.{ReasonLine}
use Rattle.refusal.specs.Checks.{Checked}
use Rattle.refusal.specs.Numbers.{line_not_justified}
use Rattle.reasoncheck.specs.ReasonCheck.{literals_below, FirstApart, out_of_order, missing, surplus, further, codes_of, in_line_of}
use Rattle.reasoncheck.specs.Matching.{line_numbered, MatchedOne, wants_none, has_its_own, has_not, NumbersHold, LinesHold, MatchAllows, all_matched, apart, LinesAllow, all_pass, first_fails}

-- literals below n stand in order, and those from l on behind the ones below l
pub below_less : (I : Interpretation) (n x : ℕ) → x ∈ literals_below I n → x < n
unfolding literals_below
below_less I zero x m = absurd (Memᴰ.not-nil m)
below_less I (suc n) x m =
    ⊎_elim (λ (k : x ∈ literals_below I n). let q = below_less I n x k in omega arith) (λ k. last (I n) k)
    (Memᴰ.append_cases (literals_below I n) m)
  where
    last : (b : Bool) → x ∈ cond b (n ∷ []) [] → x < suc n
    last true k = ⊎_elim (λ (e : x ≡ n). omega arith) (λ (j : x ∈ []). absurd (Memᴰ.not-nil j)) (Memᴰ.cases_cons k)
    last false k = absurd (Memᴰ.not-nil k)

pub below_in : (I : Interpretation) (n x : ℕ) → x ∈ literals_below I n → I x ≡ true
unfolding literals_below
below_in I zero x m = absurd (Memᴰ.not-nil m)
below_in I (suc n) x m = ⊎_elim (λ (k : x ∈ literals_below I n). below_in I n x k) (λ k. last (I n) refl k)
    (Memᴰ.append_cases (literals_below I n) m)
  where
    last : (b : Bool) → I n ≡ b → x ∈ cond b (n ∷ []) [] → I x ≡ true
    last true e k = ⊎_elim (λ (s : x ≡ n). rw s e) (λ (j : x ∈ []). absurd (Memᴰ.not-nil j)) (Memᴰ.cases_cons k)
    last false e k = absurd (Memᴰ.not-nil k)

pub below_length : (I : Interpretation) (n : ℕ) → length (literals_below I n) ≤ n
unfolding literals_below
below_length I zero = omega arith
below_length I (suc n) = go (I n) (below_length I n)
  where
    go : (b : Bool) → length (literals_below I n) ≤ n → length (literals_below I n ++ cond b (n ∷ []) []) ≤ suc n
    go true h = let e = length-append (literals_below I n) (n ∷ []) in omega arith
    go false h = let e = length-append (literals_below I n) [] in omega arith

pub below_split : (I : Interpretation) (n l : ℕ) → l ≤ n → (rest : List ℕ) × (literals_below I n ≡ literals_below I l ++ rest)
unfolding literals_below
below_split I zero l h = ([], (let e : l ≡ 0 = omega arith in rw e refl))
below_split I (suc n) l h =
    elim (ℕ_discrete l (suc n)) [
      | yes e ↦ ([], rw e (sym (append-nil (literals_below I (suc n)))))
      | no f ↦ (let q = below_split I n l (omega arith) in (
        q.0 ++ cond (I n) (n ∷ []) [],
        ap (λ (x : List ℕ). x ++ cond (I n) (n ∷ []) []) q.1 ∙ append_assoc (literals_below I l) q.0
            (cond (I n) (n ∷ []) []),
      ))
    ]

pub below_next : (I : Interpretation) (l : ℕ) → I l ≡ true → literals_below I (suc l) ≡ literals_below I l ++ l ∷ []
unfolding literals_below
below_next I l e = rw e refl

below_same : (I : Interpretation) (l : ℕ) → I l ≡ false → literals_below I (suc l) ≡ literals_below I l
unfolding literals_below
below_same I l e = (rw e refl) ∙ append-nil (literals_below I l)

-- the first apart stands behind what is the same
pub apart_behind : (l : List ℕ) {xs ys : List ℕ} → FirstApart xs ys 0 → FirstApart (l ++ xs) (l ++ ys) (length l)
apart_behind [] f = f
apart_behind (x ∷ l) f = further (apart_behind l f)

-- apart behind a number that both begin with
apart_further : {x : ℕ} {xs ys us vs : List ℕ} {m : ℕ} → FirstApart us vs m → us ≡ x ∷ xs → vs ≡ x ∷ ys
    → (n : ℕ) × (m ≡ suc n) × FirstApart xs ys n
apart_further (out_of_order f) e e' = absurd (f (head-eq_of_cons-eq e ∙ sym (head-eq_of_cons-eq e')))
apart_further missing e e' = absurd (cons≢nil (sym e'))
apart_further surplus e e' = absurd (cons≢nil (sym e))
apart_further {xs = xs} {ys = ys} (further {xs = us} {n = n} b) e e' = (
  n,
  refl,
  subst (λ (z : List ℕ). FirstApart z ys n) (tail-eq_of_cons-eq e)
      (subst (λ (z : List ℕ). FirstApart us z n) (tail-eq_of_cons-eq e') b),
)

pub apart_determined : {xs ys : List ℕ} {n m : ℕ} → FirstApart xs ys n → FirstApart xs ys m → n ≡ m
apart_determined (out_of_order f) (out_of_order g) = refl
apart_determined (out_of_order f) (further b) = absurd (f refl)
apart_determined missing missing = refl
apart_determined surplus surplus = refl
apart_determined (further a) b = let q = apart_further b refl refl in ap suc (apart_determined a q.2) ∙ sym q.1

pub same_not_apart : {xs ys : List ℕ} {n : ℕ} → FirstApart xs ys n → xs ≡ ys → ⊥
same_not_apart (out_of_order f) e = f (head-eq_of_cons-eq e)
same_not_apart missing e = cons≢nil e
same_not_apart surplus e = cons≢nil (sym e)
same_not_apart (further a) e = same_not_apart a (tail-eq_of_cons-eq e)

-- a number in the line of a literal
pub in_line : (f : ReasonLine → ℕ) (done : List ReasonLine) (y : ReasonLine) (rest : List ReasonLine) (l : ℕ)
    → ((z : ReasonLine) → z ∈ done → z.literal ≡ l → ⊥) → y.literal ≡ l → in_line_of f (done ++ y ∷ rest) l ≡ f y
unfolding in_line_of
in_line f [] y rest l n e = rw (eq-eqb y.literal l e) refl
in_line f (z ∷ done) y rest l n e =
    rw (ne_eqb z.literal l (n z (Memᴰ.head refl))) (in_line f done y rest l (λ w m. n w (Memᴰ.tail m)) e)

in_others : (f : ReasonLine → ℕ) (done : List ReasonLine) (y : ReasonLine) (l : ℕ) → (y.literal ≡ l → ⊥) → in_line_of f
    (done ++ y ∷ []) l ≡ in_line_of f done l
unfolding in_line_of
in_others f [] y l n = rw (ne_eqb y.literal l n) refl
in_others f (z ∷ done) y l n = ap (cond (eqb z.literal l) (f z)) (in_others f done y l n)

in_none : (f : ReasonLine → ℕ) (l : ℕ) → in_line_of f [] l ≡ 0
unfolding in_line_of
in_none f l = refl

-- a line stored by its literal
module _ (lines : List Line) (l : ℕ) (x : Line) where
  stored_other : (i : ℕ) → (i ≡ l → ⊥) → line_in (set lines l x) i ≡ line_in lines i
  stored_other i n = get_or-set_other lines l i x no_line n

  stored_same : l < length lines → line_in (set lines l x) l ≡ x
  stored_same lt = get_or-set_same lines l x no_line lt

-- the lines matched so far with the literals below l, and those to come
pub record Matching (I : Interpretation) (ls : List ReasonLine) (l k : ℕ) (lines : List Line) : Type 0 where
  pub done : List ReasonLine
  pub left : List ReasonLine
  pub split : ls ≡ done ++ left
  pub count_is : k ≡ length done
  pub codes : codes_of done ≡ literals_below I l
  pub hold : LinesHold lines done

none_at : (n i : ℕ) → line_in (replicate n no_line) i ≡ no_line
none_at zero i = refl
none_at (suc n) zero = refl
none_at (suc n) (suc i) = none_at n i

pub matching_start : (I : Interpretation) (ls : List ReasonLine) → Matching I ls 0 0 (replicate 1024 no_line)
unfolding literals_below
matching_start I ls =
    record {
      done = [];
      left = ls;
      split = refl;
      count_is = refl;
      codes = refl;
      hold = record {
        ranks = λ x. ap (λ (z : Line). z.rank) (none_at 1024 x) ∙ sym (in_none (λ y. y.rank) x);
        heads = λ x. ap (λ (z : Line). z.head) (none_at 1024 x) ∙ sym (in_none (λ y. y.rule_head) x);
        groups = λ x. ap (λ (z : Line). z.group) (none_at 1024 x) ∙ sym (in_none (λ y. y.group) x);
      };
    }

pub length_codes : (ls : List ReasonLine) → length (codes_of ls) ≡ length ls
length_codes [] = refl
length_codes (x ∷ ls) = ap suc (length_codes ls)

module _ (I : Interpretation) (numbers : List ℕ) (count : ℕ) (ls : List ReasonLine) (holds : NumbersHold numbers count ls) where
  module _ (l k : ℕ) (lines : List Line) (w : Matching I ls l k lines) (small : k < 1024) where
    -- the next line, where there is one
    next_line : k < count → (y : ReasonLine) × (rest : List ReasonLine) × (w.left ≡ y ∷ rest)
    next_line lt = go w.left refl
      where
        go : (left : List ReasonLine) → w.left ≡ left → (y : ReasonLine) × (rest : List ReasonLine) × (w.left ≡ y ∷ rest)
        go (y ∷ rest) e = (y, rest, e)
        go [] e =
            let a : length ls ≡ length w.done = ap length (w.split ∙ ap (λ (z : List ReasonLine). w.done ++ z) e ∙ append-nil w.done) in
            let b = w.count_is in
            let c = holds.count_is in
            absurd (omega arith)

    its_numbers : (y : ReasonLine) (rest : List ReasonLine) → w.left ≡ y ∷ rest
        → (get_or numbers (4 * k) 0 ≡ y.literal) × (get_or numbers (4 * k + 1) 0 ≡ y.rank)
        × (get_or numbers (4 * k + 2) 0 ≡ y.rule_head) × (get_or numbers (4 * k + 3) 0 ≡ y.group)
    its_numbers y rest e =
        let b = w.count_is in
        rw w.count_is (holds.line_is w.done y rest (w.split ∙ ap (λ (z : List ReasonLine). w.done ++ z) e) (omega arith))

    not_before : (z : ReasonLine) → z ∈ w.done → z.literal ≡ l → ⊥
    not_before z m e =
        let i : z.literal ∈ codes_of w.done = Memᴰ.map (λ (x : ReasonLine). x.literal) m in
        let q = below_less I l z.literal (subst (λ (c : List ℕ). z.literal ∈ c) w.codes i) in
        omega arith

    taken : (y : ReasonLine) (rest : List ReasonLine) → w.left ≡ y ∷ rest → I l ≡ true → get_or numbers (4 * k) 0 ≡ l
        → l < length lines → Matching I ls (suc l) (k + 1) (set lines l (line_numbered numbers k))
    taken y rest e wants own fits =
        let q = its_numbers y rest e in
        let el : y.literal ≡ l = sym q.0 ∙ own in
        record {
          done = w.done ++ y ∷ [];
          left = rest;
          split = w.split ∙ ap (λ (z : List ReasonLine). w.done ++ z) e ∙ sym (append_assoc w.done (y ∷ []) rest);
          count_is = let a = length-append w.done (y ∷ []) in let b = w.count_is in omega arith;
          codes = map-append (λ (x : ReasonLine). x.literal) w.done (y ∷ []) ∙ ap₂ (λ (c : List ℕ) (x : ℕ). c ++ x ∷ []) w.codes el
              ∙ sym (below_next I l wants);
          hold = record {
            ranks = λ x. elim (ℕ_discrete x l) [
              | yes s ↦ rw s (ap (λ (z : Line). z.rank) (stored_same lines l _ fits) ∙ q.1 ∙ sym (in_line (λ v. v.rank) w.done y [] l not_before el))
              | no n ↦ ap (λ (z : Line). z.rank) (stored_other lines l _ x n) ∙ w.hold.ranks x
                  ∙ sym (in_others (λ v. v.rank) w.done y x (λ s. n (sym s ∙ el)))
            ];
            heads = λ x. elim (ℕ_discrete x l) [
              | yes s ↦
                  rw s (ap (λ (z : Line). z.head) (stored_same lines l _ fits) ∙ q.2
                  ∙ sym (in_line (λ v. v.rule_head) w.done y [] l not_before el))
              | no n ↦ ap (λ (z : Line). z.head) (stored_other lines l _ x n) ∙ w.hold.heads x
                  ∙ sym (in_others (λ v. v.rule_head) w.done y x (λ s. n (sym s ∙ el)))
            ];
            groups = λ x. elim (ℕ_discrete x l) [
              | yes s ↦ rw s (ap (λ (z : Line). z.group) (stored_same lines l _ fits) ∙ q.3 ∙ sym (in_line (λ v. v.group) w.done y [] l not_before el))
              | no n ↦ ap (λ (z : Line). z.group) (stored_other lines l _ x n) ∙ w.hold.groups x
                  ∙ sym (in_others (λ v. v.group) w.done y x (λ s. n (sym s ∙ el)))
            ];
          };
        }

    pub matching_next : {k' : ℕ} {lines' : List Line} → l < length lines → MatchedOne I numbers count lines l k (Some k') lines'
        → Matching I ls (suc l) k' lines'
    matching_next fits (wants_none e) =
        record { done = w.done; left = w.left; split = w.split; count_is = w.count_is; codes = w.codes ∙ sym (below_same I l e); hold = w.hold }
    matching_next fits (has_its_own e lt own) = let q = next_line lt in taken q.0 q.1 q.2 e own fits

    -- what is wanted and what is there, behind what was matched
    pub matching_apart : (n : ℕ) {lines' : List Line} → l < n → MatchedOne I numbers count lines l k None lines'
        → FirstApart (literals_below I n) (codes_of ls) k
    matching_apart n lt (has_not e f) =
        let q = below_split I n (suc l) (omega arith) in
        let wanted : literals_below I n ≡ codes_of w.done ++ l ∷ q.0 =
        q.1 ∙ ap (λ (x : List ℕ). x ++ q.0) (below_next I l e ∙ ap (λ (x : List ℕ). x ++ l ∷ []) (sym w.codes)) ∙ append_assoc
        (codes_of w.done) (l ∷ []) q.0
        in
        let there : codes_of ls ≡ codes_of w.done ++ codes_of w.left =
        ap codes_of w.split ∙ map-append (λ (x : ReasonLine). x.literal) w.done w.left
        in
        rw (wanted, there, w.count_is, sym (length_codes w.done)) (apart_behind (codes_of w.done) (go w.left refl))
      where
        go : {rest : List ℕ} (left : List ReasonLine) → w.left ≡ left → FirstApart (l ∷ rest) (codes_of left) 0
        go [] s = missing
        go (y ∷ rest) s = out_of_order (λ x. f (more y rest s) ((its_numbers y rest s).0 ∙ sym x))
          where
            more : (z : ReasonLine) (u : List ReasonLine) → w.left ≡ z ∷ u → k < count
            more z u v =
                let a = ap length (w.split ∙ ap (λ (r : List ReasonLine). w.done ++ r) v) in
                let b = length-append w.done (z ∷ u) in
                let c = w.count_is in
                let d = holds.count_is in
                omega arith

  -- all literals were looked at
  pub matching_surplus : (n l k : ℕ) (lines : List Line) → l ≡ n → Matching I ls l k lines → k < count → FirstApart (literals_below I n)
      (codes_of ls) k
  matching_surplus n l k lines el w lt =
      let there : codes_of ls ≡ codes_of w.done ++ codes_of w.left =
      ap codes_of w.split ∙ map-append (λ (x : ReasonLine). x.literal) w.done w.left
      in
      rw (ap (literals_below I) (sym el) ∙ sym w.codes ∙ sym (append-nil (codes_of w.done)), there, w.count_is, sym (length_codes w.done))
      (apart_behind (codes_of w.done) (go w.left refl))
    where
      go : (left : List ReasonLine) → w.left ≡ left → FirstApart [] (codes_of left) 0
      go (y ∷ rest) s = surplus
      go [] s =
          let a = ap length (w.split ∙ ap (λ (r : List ReasonLine). w.done ++ r) s ∙ append-nil w.done) in
          let b = w.count_is in
          let c = holds.count_is in
          absurd (omega arith)

  pub matching_all : (n l k : ℕ) (lines : List Line) → l ≡ n → Matching I ls l k lines → count ≤ k → MatchAllows I n ls (Ok tt) lines
  matching_all n l k lines el w le =
      let e : w.done ≡ ls = sym (w.split ∙ ap (λ (r : List ReasonLine). w.done ++ r) (none w.left refl) ∙ append-nil w.done) in
      all_matched (ap (literals_below I) (sym el) ∙ sym w.codes ∙ ap codes_of e) (subst (LinesHold lines) e w.hold)
    where
      none : (left : List ReasonLine) → w.left ≡ left → w.left ≡ []
      none [] s = s
      none (y ∷ rest) s =
          let a = ap length (w.split ∙ ap (λ (r : List ReasonLine). w.done ++ r) s) in
          let d = length-append w.done (y ∷ rest) in
          let b = w.count_is in
          let c = holds.count_is in
          absurd (omega arith)

-- the literals below l that want a line pass, and k of them do
pub record Passing (I : Interpretation) (passes : ℕ → Bool) (l k : ℕ) : Type 0 where
  pub count_is : k ≡ length (literals_below I l)
  pub pass : (m : ℕ) → m < l → I m ≡ true → passes m ≡ true

module _ (I : Interpretation) (passes : ℕ → Bool) where
  pub passing_start : Passing I passes 0 0
  unfolding literals_below
  passing_start = record { count_is = refl; pass = λ m lt. absurd (omega arith) }

  counted : (l k : ℕ) (b : Bool) → I l ≡ b → k ≡ length (literals_below I l) → cond b (k + 1) k ≡ length (literals_below I (suc l))
  counted l k true e h = let a = ap length (below_next I l e) in let c = length-append (literals_below I l) (l ∷ []) in omega arith
  counted l k false e h = h ∙ ap length (sym (below_same I l e))

  pub passing_unwanted : (l k : ℕ) → Passing I passes l k → I l ≡ false → Passing I passes (l + 1) k
  passing_unwanted l k w e =
      rw (add-one l) record {
        count_is = counted l k false e w.count_is;
        pass = λ m lt wants. elim (ℕ_discrete m l) [ yes s ↦ absurd (true≢false (sym (rw s at wants) ∙ e)) | no n ↦ w.pass m (omega arith) wants ];
      }

  pub passing_next : (l k : ℕ) → Passing I passes l k → I l ≡ true → passes l ≡ true → Passing I passes (l + 1) (k + 1)
  passing_next l k w e p =
      rw (add-one l) record {
        count_is = counted l k true e w.count_is;
        pass = λ m lt wants. elim (ℕ_discrete m l) [ yes s ↦ rw s p | no n ↦ w.pass m (omega arith) wants ];
      }

  pub passing_fails : (n l k : ℕ) → l < n → Passing I passes l k → I l ≡ true → passes l ≡ false
      → LinesAllow I passes n (Err (line_not_justified (k + 1)))
  passing_fails n l k lt w e p = rw (add-one k, w.count_is) (first_fails l lt e p w.pass)

  pub passing_end : (n l k : ℕ) → n ≤ l → Passing I passes l k → LinesAllow I passes n (Ok tt)
  passing_end n l k le w = all_pass (λ m lt wants. w.pass m (omega arith) wants)

pub one_count : {I : Interpretation} {numbers : List ℕ} {count : ℕ} {lines : List Line} {l k k' : ℕ} {lines' : List Line}
    → MatchedOne I numbers count lines l k (Some k') lines' → k' ≤ k + 1
one_count (wants_none e) = omega arith
one_count (has_its_own e lt o) = omega arith

pub apart_at : {I : Interpretation} {n : ℕ} {ls : List ReasonLine} {k : ℕ} {lines : List Line} {r : Checked} → r ≡ Err
    (line_not_justified (k + 1))
    → FirstApart (literals_below I n) (codes_of ls) k → MatchAllows I n ls r lines
apart_at {k = k} e f = rw (e, add-one k) (apart f)
