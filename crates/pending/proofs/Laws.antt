-- A literal's places gone through from the last to the first. Assumes nothing.
use mathlib.Core.Bool.{Bool, true, false, not, cond, ◌&&◌, ◌||◌, or-false, and-false, or-true}
use mathlib.Core.List.Memᴰ
use mathlib.Core.List.{List, [], ◌∷◌}
use mathlib.Core.Logic.{◌⊎◌, inl, inr, ⊎_elim}
use mathlib.Core.Path.{◌≡◌, refl, sym, ap, ap₂, ◌∙◌, subst, subst⁻¹}
use Prim.Native.Nat.{ℕ, suc, ◌+◌, ◌*◌, ◌≤◌, ◌<◌}
use native.Mathlib.Numerals.{add-one}
use native.Mathlib.Omega.{arith}
use native.Mathlib.Decide.{ℕ_discrete}
use lib.Dec.{T, eqb, ltb}
use lib.ListN.{length, get_or, length-set}
use lib.Seq.{get_or-set_same, get_or-set_other}
use borrow.Author.Tests.{lt-ltb, le-ltb, ne_eqb, eq-eqb, eqb-true}
use Rattle.sets.specs.Sets.{◌∈◌, ◌with◌, count}
use Rattle.sets.proofs.Tests.{T→true, not→false, true→T, or_cases}
use Rattle.sets.proofs.Besides.{with_itself, with_⊇}
use Rattle.sets.proofs.Counting.{count_≡, count_with, count_full, count_all, count≤}
use Rattle.bits.specs.Sets.{member, put_in}
use Rattle.bits.proofs.Laws.{member_put_in_same, member_put_in_other, length_put_in}
use Rattle.words.specs.Layout.{literals_at}
use Rattle.index.specs.Placed.{Placed, placed_of, LiteralAt}
use Rattle.index.specs.declared.Index.{Index}
use Rattle.index.specs.Index.{last_in, earlier_in, owner_in, Latest, IndexOf}
use Rattle.index.proofs.Placed.{table_words, literal_word, literal_inside, nth_member, group_short, head_below, table_short}
use Rattle.pending.specs.Pending.{Whole, CountsAre, Taken, with_one_more, with_whole}

-- a member of a list stands at some place of it
pub member_nth : (β : List ℕ) (l : ℕ) → l ∈ β → (i : ℕ) × (i < length β) × (get_or β i 0 ≡ l)
member_nth [] l m = absurd (Memᴰ.not-nil m)
member_nth (k ∷ β) l m =
    ⊎_elim (λ (e : l ≡ k). (0, omega arith, sym e)) (λ (n : l ∈ β). let q = member_nth β l n in (suc q.0, (let lt = q.1 in omega arith), q.2))
    (Memᴰ.cases_cons m)

-- the places whose literal was in the set, and those of l after place c
abbrev pub walked : List ℕ → (ℕ → Bool) → ℕ → ℕ → ℕ → Bool
walked t S l c q = S (get_or t q 0) || eqb (get_or t q 0) l && ltb c q

-- the places of l after place c are counted
pub record Walking (t : List ℕ) (x : Index) (S : ℕ → Bool) (l : ℕ) (ready₀ : List ℕ) (c : ℕ) (ready counts : List ℕ) : Type 0 where
  pub place : (c ≡ 0) ⊎ LiteralAt (placed_of t) l c
  pub room : length counts ≡ 8192
  pub each : (γ : Placed) → γ ∈ placed_of t
      → get_or counts γ.at 0 ≡ count (length γ.literals) (λ i. walked t S l c (literals_at γ.at + i))
  pub row : length ready ≡ length ready₀
  pub more : (h : ℕ) → T (member ready₀ h) → T (member ready h)
  pub whole : (γ : Placed) → γ ∈ placed_of t → ((i : ℕ) → i < length γ.literals → T (walked t S l c (literals_at γ.at + i)))
      → Whole S γ ⊎ T (member ready γ.head)
  pub sound : (h : ℕ) → T (member ready h) → T (member ready₀ h) ⊎ ((γ : Placed) × (γ ∈ placed_of t) × (γ.head ≡ h) × Whole (S with l) γ)

-- a literal of a group, by its number in the group
abbrev nth_at : (t : List ℕ) (γ : Placed) → γ ∈ placed_of t → (i : ℕ) → i < length γ.literals → LiteralAt (placed_of t) (get_or
    γ.literals i 0) (literals_at γ.at + i)
nth_at t γ m i lt = record { group = γ; one = m; number = i; inside = lt; place = refl; literal = refl }

module _ (t : List ℕ) (x : Index) (ix : IndexOf t x) (S : ℕ → Bool) (l : ℕ) (new : T (not (S l))) where
  word_of : (γ : Placed) → γ ∈ placed_of t → (i : ℕ) → i < length γ.literals → get_or t (literals_at γ.at + i) 0 ≡ get_or γ.literals i 0
  word_of γ m i lt = (table_words t ix.table γ m).literal i lt

  -- as a place of l itself
  at_l : (γ : Placed) → γ ∈ placed_of t → (i : ℕ) → i < length γ.literals → get_or t (literals_at γ.at + i) 0 ≡ l
      → LiteralAt (placed_of t) l (literals_at γ.at + i)
  at_l γ m i lt e =
      record { group = γ; one = m; number = i; inside = lt; place = refl; literal = sym (word_of γ m i lt) ∙ e }

  start_walked : (c : ℕ) → Latest (placed_of t) l (length t) c → (γ : Placed) → γ ∈ placed_of t → (i : ℕ) → i < length γ.literals
      → walked t S l c (literals_at γ.at + i) ≡ S (get_or t (literals_at γ.at + i) 0)
  start_walked c late γ m i lt =
      let q = literals_at γ.at + i in
      elim (ℕ_discrete (get_or t q 0) l) [
        | yes e ↦
            let a = at_l γ m i lt e in
            let le = late.none_after q a (literal_inside t ix.table l q a) in
            ap (λ (b : Bool). S (get_or t q 0) || eqb (get_or t q 0) l && b) (le-ltb c q le)
            ∙ ap (λ (b : Bool). S (get_or t q 0) || b) (and-false (eqb (get_or t q 0) l)) ∙ or-false (S (get_or t q 0))
        | no n ↦ ap (λ (b : Bool). S (get_or t q 0) || b && ltb c q) (ne_eqb (get_or t q 0) l n) ∙ or-false (S (get_or t q 0))
      ]

  end_walked : (c q : ℕ) → c ≡ 0 → 0 < q → walked t S l c q ≡ (S with l) (get_or t q 0)
  end_walked c q e lt =
      ap (λ (b : Bool). S (get_or t q 0) || eqb (get_or t q 0) l && b) (lt-ltb c q (omega arith)) ∙ by (S (get_or t q 0)) (eqb (get_or t q 0) l)
    where
      by : (a b : Bool) → (a || b && true) ≡ cond b true a
      by true true = refl
      by true false = refl
      by false true = refl
      by false false = refl

  -- one place more
  step_walked : (c : ℕ) → LiteralAt (placed_of t) l c → (γ : Placed) → γ ∈ placed_of t → (i : ℕ) → i < length γ.literals
      → walked t S l (earlier_in x c) (literals_at γ.at + i) ≡ (walked t S l c with c) (literals_at γ.at + i)
  step_walked c a γ m i lt =
      let q = literals_at γ.at + i in
      let y = get_or t q 0 in
      let late = ix.indexed.earlier l c a (literal_inside t ix.table l c a) in
      let falls : earlier_in x c < c =
      ⊎_elim (λ (e : earlier_in x c ≡ 0). omega (arith, a.place)) (λ (s : LiteralAt (placed_of t) l (earlier_in x c) ×
      (earlier_in x c < c)). s.1) late.stands in
      elim (ℕ_discrete q c) [
        | yes e ↦
            let w : get_or t q 0 ≡ l = ap (λ (z : ℕ). get_or t z 0) e ∙ literal_word t ix.table l c a in
            ap₂ (λ (b d : Bool). S y || b && d) (eq-eqb y l w) (lt-ltb (earlier_in x c) q (omega arith)) ∙ or-true (S y)
            ∙ sym (ap (λ (b : Bool). cond b true (walked t S l c q)) (eq-eqb q c e))
        | no n ↦ elim (ℕ_discrete y l) [
          | yes e ↦
              ap (λ (b : Bool). S y || eqb y l && b) (same_side q (at_l γ m i lt e) n late falls)
              ∙ sym (ap (λ (b : Bool). cond b true (walked t S l c q)) (ne_eqb q c n))
          | no k ↦ ap (λ (b : Bool). S y || b && ltb (earlier_in x c) q) (ne_eqb y l k) ∙ sym (ap (λ (b : Bool). S y || b && ltb c q) (ne_eqb y l k))
              ∙ sym (ap (λ (b : Bool). cond b true (walked t S l c q)) (ne_eqb q c n))
        ]
      ]
    where
      same_side : (q : ℕ) → LiteralAt (placed_of t) l q → (q ≡ c → ⊥) → Latest (placed_of t) l c (earlier_in x c) → earlier_in x c < c
          → ltb (earlier_in x c) q ≡ ltb c q
      same_side q b n late falls = ⊎_elim
          (λ (k : q < c). le-ltb (earlier_in x c) q (late.none_after q b k) ∙ sym (le-ltb c q (omega arith)))
          (λ (k : c < q). lt-ltb (earlier_in x c) q (omega arith) ∙ sym (lt-ltb c q k)) (either_side q n)
        where
          either_side : (q : ℕ) → (q ≡ c → ⊥) → (q < c) ⊎ (c < q)
          either_side q n = by (ltb q c) refl
            where
              by : (b : Bool) → ltb q c ≡ b → (q < c) ⊎ (c < q)
              by true e = inl (borrow.Author.Tests.ltb-true q c e)
              by false e = inr (let k = borrow.Author.Tests.ltb-false q c e in omega (arith, n))

  pub walk_starts : (l < 1024) → (ready counts : List ℕ) → CountsAre t S counts → (c : ℕ) → c ≡ last_in x l
      → Walking t x S l ready c ready counts
  walk_starts code ready counts cs c e =
      let late : Latest (placed_of t) l (length t) c = subst⁻¹ (Latest (placed_of t) l (length t)) e (ix.indexed.last l code) in
      record {
        place = ⊎_elim inl (λ (s : LiteralAt (placed_of t) l c × (c < length t)). inr s.0) late.stands;
        room = cs.room;
        each = λ γ m. cs.each γ m ∙ count_≡ (length γ.literals) _ _ (λ i lt. sym (start_walked c late γ m i lt));
        row = refl;
        more = λ h k. k;
        whole = λ γ m all. inl (λ ι n.
            let q = member_nth γ.literals ι n in
            subst (λ (y : ℕ). T (S y)) (word_of γ m q.0 q.1 ∙ q.2) (subst T (start_walked c late γ m q.0 q.1) (all q.0 q.1)));
        sound = λ h k. inl k;
      }

  pub walk_ends : (ready₀ ready counts : List ℕ) (c : ℕ) → c ≤ 0 → Walking t x S l ready₀ c ready counts → Taken t S l ready₀ ready counts
  walk_ends ready₀ ready counts c z w =
      let e : c ≡ 0 = omega arith in
      record {
        counts = record {
          room = w.room;
          each = λ γ m. w.each γ m ∙ count_≡ (length γ.literals) _ _ (λ i lt. end_walked c (literals_at γ.at + i) e (omega arith));
        };
        row = w.row;
        more = w.more;
        whole = λ γ m all. w.whole γ m (λ i lt. subst⁻¹ T (end_walked c (literals_at γ.at + i) e (omega arith))
            (subst⁻¹ (λ (y : ℕ). T ((S with l) y)) (word_of γ m i lt) (all (get_or γ.literals i 0) (nth_member γ.literals i lt))));
        sound = w.sound;
      }

  -- the group of a place of l
  module _ (ready₀ ready counts : List ℕ) (c g : ℕ) (w : Walking t x S l ready₀ c ready counts) (there : 0 < c) (g-is : g ≡ owner_in x c) where
    pub here : LiteralAt (placed_of t) l c
    here = ⊎_elim (λ (e : c ≡ 0). absurd (omega arith)) (λ a. a) w.place

    pub owner_is : g ≡ here.group.at
    owner_is =
        g-is ∙ ap (owner_in x) here.place
        ∙ ix.indexed.owner here.group here.one here.number here.inside
        (subst (λ (q : ℕ). q < length t) here.place (literal_inside t ix.table l c here))

    pub place_inside : c < 8192
    place_inside = let k = literal_inside t ix.table l c here in let s = table_short t ix.table in omega arith

    pub walk_falls : (c' : ℕ) → c' ≡ earlier_in x c → c' < c
    walk_falls c' e =
        ⊎_elim (λ (z : earlier_in x c ≡ 0). omega arith) (λ (s : LiteralAt (placed_of t) l (earlier_in x c) × (earlier_in x c < c)).
        (let k = s.1 in omega arith))
        (ix.indexed.earlier l c here (literal_inside t ix.table l c here)).stands

    pub group_inside : g < length t
    group_inside = let k = (table_words t ix.table here.group here.one).inside in let e = owner_is in omega arith

    c_new : walked t S l c c ≡ false
    c_new =
        ap (λ (b : Bool). S (get_or t c 0) || eqb (get_or t c 0) l && b) (le-ltb c c (omega arith))
        ∙ ap (λ (b : Bool). S (get_or t c 0) || b) (and-false (eqb (get_or t c 0) l)) ∙ or-false (S (get_or t c 0))
        ∙ ap S (literal_word t ix.table l c here) ∙ not→false (S l) new

    -- the counted places of a group at g
    module _ (γ : Placed) (m : γ ∈ placed_of t) (at_g : γ.at ≡ g) where
      number_inside : here.number < length γ.literals
      number_inside =
          let s = (table_words t ix.table γ m).size in
          let s' = (table_words t ix.table here.group here.one).size in
          let e : get_or t γ.at 0 ≡ get_or t here.group.at 0 = ap (λ (q : ℕ). get_or t q 0) (at_g ∙ owner_is) in
          omega (arith, here.inside)

      place_is : c ≡ literals_at γ.at + here.number
      place_is = here.place ∙ ap (λ (q : ℕ). literals_at q + here.number) (sym (at_g ∙ owner_is))

      same_number : (i : ℕ) → eqb (literals_at γ.at + i) c ≡ eqb i here.number
      same_number i = elim (ℕ_discrete i here.number) [
        | yes e ↦ eq-eqb (literals_at γ.at + i) c (let p = place_is in omega arith) ∙ sym (eq-eqb i here.number e)
        | no n ↦ ne_eqb (literals_at γ.at + i) c (λ e. n (let p = place_is in omega arith)) ∙ sym (ne_eqb i here.number n)
      ]

      pub counted_one : count (length γ.literals) (λ i. walked t S l (earlier_in x c) (literals_at γ.at + i))
          ≡ get_or counts g 0 + 1
      counted_one =
          count_≡ (length γ.literals) _ ((λ i. walked t S l c (literals_at γ.at + i)) with here.number)
          (λ i lt. step_walked c here γ m i lt ∙ ap (λ (b : Bool). cond b true (walked t S l c (literals_at γ.at + i))) (same_number i))
          ∙ count_with (length γ.literals) (λ i. walked t S l c (literals_at γ.at + i)) here.number number_inside
          (subst (λ (q : ℕ). T (not (walked t S l c q))) place_is (Rattle.sets.proofs.Tests.false→not _ c_new))
          ∙ ap suc (sym (w.each γ m) ∙ ap (λ (q : ℕ). get_or counts q 0) at_g) ∙ sym (add-one (get_or counts g 0))

    pub few : get_or counts g 0 < 64
    few =
        let e = counted_one here.group here.one (sym owner_is) in
        let k = count≤ (length here.group.literals) (λ i. walked t S l (earlier_in x c) (literals_at here.group.at + i)) in
        let s = group_short t ix.table here.group here.one in
        omega arith

    other_walked : (γ : Placed) → (m : γ ∈ placed_of t) → (γ.at ≡ g → ⊥) → (i : ℕ) → i < length γ.literals
        → walked t S l (earlier_in x c) (literals_at γ.at + i) ≡ walked t S l c (literals_at γ.at + i)
    other_walked γ m n i lt =
        step_walked c here γ m i lt
        ∙ ap (λ (b : Bool). cond b true (walked t S l c (literals_at γ.at + i))) (ne_eqb (literals_at γ.at + i) c (λ e. n
        (sym (ix.indexed.owner γ m i lt (literal_inside t ix.table _ _ (nth_at t γ m i lt))) ∙ ap (owner_in x) e ∙ sym g-is)))

    pub walk_goes_on : (ready' counts' : List ℕ) (c' : ℕ) → length ready ≡ 16 → counts' ≡ with_one_more counts g
        → ready' ≡ with_whole t x (with_one_more counts g) g ready
        → c' ≡ earlier_in x c → Walking t x S l ready₀ c' ready' counts'
    unfolding with_whole
    walk_goes_on ready' counts' c' rows ec er e =
        subst⁻¹ (λ (z : ℕ). Walking t x S l ready₀ z ready' counts') e
        (subst⁻¹ (λ (u : List ℕ). Walking t x S l ready₀ (earlier_in x c) u counts') er
        (subst⁻¹ (λ (u : List ℕ). Walking t x S l ready₀ (earlier_in x c) (with_whole t x (with_one_more counts g) g ready) u) ec
        (by (eqb (get_or (with_one_more counts g) g 0) (get_or t g 0)) refl)))
      where
        g_in : g < length counts
        g_in = let k = group_inside in let s = table_short t ix.table in let r = w.room in omega arith

        count_now : get_or (with_one_more counts g) g 0 ≡ get_or counts g 0 + 1
        count_now = get_or-set_same counts g (get_or counts g 0 + 1) 0 g_in

        head_is : owner_in x g ≡ here.group.head
        head_is =
            ap (owner_in x) owner_is ∙ ix.indexed.head here.group here.one (subst (λ (q : ℕ). q < length t) owner_is group_inside)

        head_of : (γ : Placed) → (m : γ ∈ placed_of t) → γ.at ≡ g → γ.head ≡ owner_in x g
        head_of γ m at_g = sym (ap (owner_in x) (sym at_g) ∙ ix.indexed.head γ m (subst⁻¹ (λ (q : ℕ). q < length t) at_g group_inside))

        place_now : (earlier_in x c ≡ 0) ⊎ LiteralAt (placed_of t) l (earlier_in x c)
        place_now = ⊎_elim inl (λ (s : LiteralAt (placed_of t) l (earlier_in x c) × (earlier_in x c < c)). inr s.0)
            (ix.indexed.earlier l c here (literal_inside t ix.table l c here)).stands

        each_now : (γ : Placed) → (m : γ ∈ placed_of t)
            → get_or (with_one_more counts g) γ.at 0 ≡ count (length γ.literals) (λ i. walked t S l (earlier_in x c) (literals_at γ.at + i))
        each_now γ m = elim (ℕ_discrete γ.at g) [
          | yes e ↦ ap (λ (q : ℕ). get_or (with_one_more counts g) q 0) e ∙ count_now ∙ sym (counted_one γ m e)
          | no n ↦ get_or-set_other counts g γ.at (get_or counts g 0 + 1) 0 n ∙ w.each γ m
              ∙ count_≡ (length γ.literals) _ _ (λ i lt. sym (other_walked γ m n i lt))
        ]

        size_at : (γ : Placed) → (m : γ ∈ placed_of t) → γ.at ≡ g → length γ.literals ≡ get_or t g 0
        size_at γ m e = sym (table_words t ix.table γ m).size ∙ ap (λ (q : ℕ). get_or t q 0) e

        -- all places of a group at g are walked: its count is its length
        all_counted : (γ : Placed) → (m : γ ∈ placed_of t) → γ.at ≡ g
            → ((i : ℕ) → i < length γ.literals → T (walked t S l (earlier_in x c) (literals_at γ.at + i))) → get_or
            (with_one_more counts g) g 0 ≡ get_or t g 0
        all_counted γ m e all =
            count_now ∙ sym (counted_one γ m e) ∙ count_all (length γ.literals) _ all ∙ size_at γ m e

        whole_now : get_or (with_one_more counts g) g 0 ≡ get_or t g 0 → Whole (S with l) here.group
        whole_now e ι n =
            let γ = here.group in
            let m = here.one in
            let q = member_nth γ.literals ι n in
            let full : length γ.literals ≤ count (length γ.literals) (λ i. walked t S l (earlier_in x c) (literals_at γ.at + i)) =
            (let s = size_at γ m (sym owner_is) in let k = counted_one γ m (sym owner_is) in let z = count_now in omega arith) in
            let k = count_full (length γ.literals) (λ i. walked t S l (earlier_in x c) (literals_at γ.at + i)) full q.0 q.1 in
            subst (λ (y : ℕ). T ((S with l) y)) (word_of γ m q.0 q.1 ∙ q.2) (inside (literals_at γ.at + q.0) k)
          where
            inside : (p : ℕ) → T (walked t S l (earlier_in x c) p) → T ((S with l) (get_or t p 0))
            inside p k = ⊎_elim (with_⊇ S l (get_or t p 0))
                (λ (b : T (eqb (get_or t p 0) l && ltb (earlier_in x c) p)).
                subst⁻¹ (λ (y : ℕ). T ((S with l) y))
                (eqb-true (get_or t p 0) l (T→true _ (Rattle.sets.proofs.Tests.and_left (eqb (get_or t p 0) l) (ltb (earlier_in x c) p) b)))
                (with_itself S l))
                (or_cases (S (get_or t p 0)) (eqb (get_or t p 0) l && ltb (earlier_in x c) p) k)

        other_whole : (γ : Placed) → (m : γ ∈ placed_of t) → (γ.at ≡ g → ⊥)
            → ((i : ℕ) → i < length γ.literals → T (walked t S l (earlier_in x c) (literals_at γ.at + i))) → Whole S γ ⊎ T
            (member ready γ.head)
        other_whole γ m n all = w.whole γ m (λ i lt. subst T (other_walked γ m n i lt) (all i lt))

        by : (b : Bool) → eqb (get_or (with_one_more counts g) g 0) (get_or t g 0) ≡ b
            → Walking t x S l ready₀ (earlier_in x c) (cond b (put_in ready (owner_in x g)) ready) (with_one_more counts g)
        by false q =
            record {
              place = place_now;
              room = length-set counts g (get_or counts g 0 + 1) ∙ w.room;
              each = each_now;
              row = w.row;
              more = w.more;
              whole = λ γ m all. elim (ℕ_discrete γ.at g) [
                | yes e ↦ absurd (mathlib.Core.Bool.true≢false (sym (eq-eqb _ _ (all_counted γ m e all)) ∙ q))
                | no n ↦ other_whole γ m n all
              ];
              sound = w.sound;
            }
        by true q =
            let small : owner_in x g < 64 * length ready = (let k = head_below t ix.table here.group here.one in let e = head_is in omega arith) in
            let kept : ((h : ℕ) → T (member ready h) → T (member (put_in ready (owner_in x g)) h)) = λ h k.
            elim (ℕ_discrete h (owner_in x g)) [
              | yes e ↦ subst⁻¹ (λ (y : ℕ). T (member (put_in ready (owner_in x g)) y)) e (true→T _ (member_put_in_same ready (owner_in x g) small))
              | no n ↦ subst⁻¹ T (member_put_in_other ready (owner_in x g) h n) k
            ] in
            record {
              place = place_now;
              room = length-set counts g (get_or counts g 0 + 1) ∙ w.room;
              each = each_now;
              row = length_put_in ready (owner_in x g) ∙ w.row;
              more = λ h k. kept h (w.more h k);
              whole = λ γ m all. elim (ℕ_discrete γ.at g) [
                | yes e ↦ inr (subst⁻¹ (λ (y : ℕ). T (member (put_in ready (owner_in x g)) y)) (head_of γ m e)
                    (true→T _ (member_put_in_same ready (owner_in x g) small)))
                | no n ↦ ⊎_elim inl (λ k. inr (kept γ.head k)) (other_whole γ m n all)
              ];
              sound = λ h k. elim (ℕ_discrete h (owner_in x g)) [
                | yes e ↦ inr (here.group, here.one, sym (e ∙ head_is), whole_now (eqb-true _ _ q))
                | no n ↦ w.sound h (subst T (member_put_in_other ready (owner_in x g) h n) k)
              ];
            }

-- the last place of a group puts its head into the row, and another place does not
module _ (t : List ℕ) (x : Index) (counts ready : List ℕ) (g k : ℕ) (inside : g < length counts) (k-is : k ≡ get_or t g 0) where
  now_is : get_or (with_one_more counts g) g 0 ≡ get_or counts g 0 + 1
  now_is = get_or-set_same counts g (get_or counts g 0 + 1) 0 inside

  pub whole_put : (head : ℕ) (ready' : List ℕ) → get_or counts g 0 + 1 ≡ k → head ≡ owner_in x g → ready' ≡ put_in ready head
      → ready' ≡ with_whole t x (with_one_more counts g) g ready
  unfolding with_whole
  whole_put head ready' e eh er =
      er ∙ ap (put_in ready) eh
      ∙ sym (ap (λ (b : Bool). cond b (put_in ready (owner_in x g)) ready) (eq-eqb _ _ (now_is ∙ e ∙ k-is)))

  pub not_whole : (get_or counts g 0 + 1 ≡ k → ⊥) → ready ≡ with_whole t x (with_one_more counts g) g ready
  unfolding with_whole
  not_whole n = sym (ap (λ (b : Bool). cond b (put_in ready (owner_in x g)) ready) (ne_eqb _ _ (λ e. n (sym now_is ∙ e ∙ sym k-is))))
