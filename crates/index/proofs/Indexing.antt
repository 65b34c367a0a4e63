-- The index grows by a place at a time, and the row of facts by a record. Assumes nothing.
use mathlib.Core.List.Memᴰ
use mathlib.Core.List.{List, [], ◌∷◌}
use mathlib.Core.Logic.{◌⊎◌, ◌↔◌, inl, inr, ⊎_elim}
use mathlib.Core.Path.{◌≡◌, refl, sym, ap, ap₂, ◌∙◌, subst, subst⁻¹}
use Prim.Native.Nat.{ℕ, zero, suc, ◌+◌, ◌≤◌, ◌<◌}
use native.Mathlib.Omega.{arith}
use native.Mathlib.Decide.{ℕ_discrete}
use lib.Dec.{T}
use lib.ListN.{length, get_or, set, drop, replicate, length-set, length-replicate, get_or-replicate, drop_of_length-le}
use Rattle.std.proofs.lemmas.List.{nil_from_length}
use lib.Seq.{get_or-set_same, get_or-set_other, drop-cons, drop-drop}
use Rattle.paper.specs.Rules.{Rule, HeadsBelow}
use Rattle.sets.specs.Sets.{◌∈◌}
use Rattle.sets.proofs.Tests.{true→T}
use Rattle.bits.specs.Sets.{member, put_in}
use Rattle.bits.proofs.Laws.{member_put_in_same, member_put_in_other, length_put_in, member_of_zeros}
use Rattle.words.specs.Layout.{words_of, rules_in, rules_of, take_groups, drop_groups, body_at, groups_at, literals_at, line_number_at}
use Rattle.words.proofs.Reading.{take_groups_groups_words, records_of_record, records_of_nothing}
use Rattle.index.specs.Placed.{Placed, placed, end_of, placed_of, Table, LiteralAt, Cursor}
use Rattle.index.specs.declared.Index.{Index}
use Rattle.index.specs.Index.{empty, last_in, earlier_in, owner_in, with_owner, with_place, Latest, Indexed, FactIn, with_fact, with_fact_in, FactsTo, IndexedTo, IndexOf, FactsOf}
use Rattle.index.proofs.Placed.{Front, cursor_starts, cursor_front, cursor_record, cursor_anew, record_alone, literal_word, literal_inside, nth_member, code_below, head_below, table_short}

pub indexed_starts : (G : List Placed) → Indexed G empty 0
indexed_starts G =
    record {
      lasts = length-replicate {A = ℕ} 1024 0;
      earliers = length-replicate {A = ℕ} 8192 0;
      owners = length-replicate {A = ℕ} 8192 0;
      last = λ l lt. record { none_after = λ c a k. absurd (omega arith); stands = inl (get_or-replicate {A = ℕ} 1024 l 0 0 lt) };
      earlier = λ l c a k. absurd (omega arith);
      owner = λ γ m i lt k. absurd (omega arith);
      head = λ γ m k. absurd (omega arith);
    }

-- nothing stands between two places
pub indexed_on : (G : List Placed) (x : Index) (p q : ℕ) → Indexed G x p → p ≤ q → ((l c : ℕ) → LiteralAt G l c → c < q → c < p)
    → ((γ : Placed) → γ ∈ G → γ.at < q → γ.at < p) → Indexed G x q
indexed_on G x p q ix le literals groups =
    record {
      lasts = ix.lasts;
      earliers = ix.earliers;
      owners = ix.owners;
      last = λ l lt.
          let w = ix.last l lt in
          record {
            none_after = λ c a k. w.none_after c a (literals l c a k);
            stands = ⊎_elim inl (λ (s : LiteralAt G l (last_in x l) × (last_in x l < p)). inr (s.0, (let k = s.1 in omega arith))) w.stands;
          };
      earlier = λ l c a k. ix.earlier l c a (literals l c a k);
      owner = λ γ m i lt k.
          ix.owner γ m i lt (literals (get_or γ.literals i 0) (literals_at γ.at + i)
          (record { group = γ; one = m; number = i; inside = lt; place = refl; literal = refl }) k);
      head = λ γ m k. ix.head γ m (groups γ m k);
    }

module _ (t : List ℕ) (table : Table t) where
  short : length t ≤ 8192
  short = table_short t table

  -- before a group all of another one stands, or it stands after it
  pub indexed_group : (g h m : ℕ) (x : Index) → Front t g h m → Indexed (placed_of t) x g → Indexed (placed_of t) (with_owner x g h) (g + 1)
  indexed_group g h m x f ix =
      let G = placed_of t in
      let sized : g < 8192 = (let w = f.words.inside in let s = short in omega arith) in
      let before : ((l c : ℕ) → LiteralAt G l c → c < g + 1 → c < g) = λ l c a k.
      ⊎_elim (λ (e : end_of a.group ≤ g). omega (arith, a.place, a.inside))
      (⊎_elim (λ (e : a.group ≡ placed h g f.literals). absurd (let e' = ap (λ (δ : Placed). δ.at) e in omega (arith, a.place)))
      (λ (e : literals_at g + length f.literals ≤ a.group.at). absurd (omega (arith, a.place))))
      (f.alone a.group a.one) in
      record {
        lasts = ix.lasts;
        earliers = ix.earliers;
        owners = length-set x.owner g h ∙ ix.owners;
        last = λ l lt.
            let w = ix.last l lt in
            record {
              none_after = λ c a k. w.none_after c a (before l c a k);
              stands = ⊎_elim inl (λ (s : LiteralAt G l (last_in x l) × (last_in x l < g)). inr (s.0, (let k = s.1 in omega arith))) w.stands;
            };
        earlier = λ l c a k. ix.earlier l c a (before l c a k);
        owner = λ γ i n lt k.
            let less = before (get_or γ.literals n 0) (literals_at γ.at + n)
            (record { group = γ; one = i; number = n; inside = lt; place = refl; literal = refl }) k in
            get_or-set_other x.owner g (literals_at γ.at + n) h 0 (λ e. omega arith) ∙ ix.owner γ i n lt less;
        head = λ γ i k.
            elim (ℕ_discrete γ.at g) [
              | yes e ↦ ap (λ (q : ℕ). get_or (set x.owner g h) q 0) e
                  ∙ get_or-set_same x.owner g h 0 (let s = ix.owners in omega arith)
                  ∙ ⊎_elim (λ (e' : end_of γ ≤ g). absurd (omega arith)) (⊎_elim (λ (e' : γ ≡ placed h g f.literals). sym (ap (λ
                  (δ : Placed). δ.head) e'))
                  (λ (e' : literals_at g + length f.literals ≤ γ.at). absurd (omega arith))) (f.alone γ i)
              | no n ↦ get_or-set_other x.owner g γ.at h 0 n ∙ ix.head γ i (omega arith)
            ];
      }

  pub indexed_literal : (g h m i : ℕ) (x : Index) (f : Front t g h m) → i < length f.literals → get_or f.literals i 0 < 1024
      → Indexed (placed_of t) x (literals_at g + i)
      → Indexed (placed_of t) (with_place x (get_or f.literals i 0) (literals_at g + i) g) (literals_at g + i + 1)
  indexed_literal g h m i x f lt code ix =
      let G = placed_of t in
      let l = get_or f.literals i 0 in
      let p = literals_at g + i in
      let place : p < 8192 = (let w = f.words.inside in let s = short in omega arith) in
      let here : LiteralAt G l p = record { group = placed h g f.literals; one = f.one; number = i; inside = lt; place = refl; literal = refl } in
      let only : ((k : ℕ) → LiteralAt G k p → k ≡ l) = λ k a. sym (literal_word t table k p a) ∙ literal_word t table l p here in
      let inside : ((γ : Placed) → γ ∈ G → (γ.at ≤ p) → (p < end_of γ) → γ.at ≡ g) = λ γ n le less.
      ⊎_elim (λ (e : end_of γ ≤ g). absurd (omega arith)) (⊎_elim (λ (e : γ ≡ placed h g f.literals). ap (λ (δ : Placed). δ.at) e)
      (λ (e : literals_at g + length f.literals ≤ γ.at). absurd (omega arith))) (f.alone γ n) in
      record {
        lasts = length-set x.last l p ∙ ix.lasts;
        earliers = length-set x.earlier p (last_in x l) ∙ ix.earliers;
        owners = length-set x.owner p g ∙ ix.owners;
        last = λ k kt. elim (ℕ_discrete k l) [
          | yes e ↦ subst⁻¹ (λ (y : ℕ). Latest G y (p + 1) (last_in (with_place x l p g) y)) e
              (subst⁻¹ (Latest G l (p + 1)) (get_or-set_same x.last l p 0 (let s = ix.lasts in omega (arith, code)))
              (record { none_after = λ c a less. omega arith; stands = inr (here, omega arith) }))
          | no n ↦ subst⁻¹ (Latest G k (p + 1)) (get_or-set_other x.last l k p 0 n) (later k kt n)
        ];
        earlier = λ k c a less. elim (ℕ_discrete c p) [
          | yes e ↦
              let a' : LiteralAt G k p = subst (LiteralAt G k) e a in
              subst⁻¹ (λ (y : ℕ). Latest G k y (earlier_in (with_place x l p g) y)) e
              (subst⁻¹ (Latest G k p) (get_or-set_same x.earlier p (last_in x l) 0 (let s = ix.earliers in omega arith))
              (subst⁻¹ (λ (y : ℕ). Latest G y p (last_in x l)) (only k a') (ix.last l code)))
          | no n ↦ subst⁻¹ (Latest G k c) (get_or-set_other x.earlier p c (last_in x l) 0 n) (ix.earlier k c a (omega arith))
        ];
        owner = λ γ n j jt less. elim (ℕ_discrete (literals_at γ.at + j) p) [
          | yes e ↦ ap (owner_in (with_place x l p g)) e ∙ get_or-set_same x.owner p g 0 (let s = ix.owners in omega arith)
              ∙ sym (inside γ n (omega arith) (omega arith))
          | no e ↦ get_or-set_other x.owner p (literals_at γ.at + j) g 0 e ∙ ix.owner γ n j jt (omega arith)
        ];
        head = λ γ n less. elim (ℕ_discrete γ.at p) [
          | yes e ↦ absurd (let q = inside γ n (omega arith) (omega arith) in omega arith)
          | no e ↦ get_or-set_other x.owner p γ.at g 0 e ∙ ix.head γ n (omega arith)
        ];
      }
    where
      later : (k : ℕ) → k < 1024 → (k ≡ get_or f.literals i 0 → ⊥) → Latest (placed_of t) k (literals_at g + i + 1) (last_in x k)
      later k kt n =
          let w = ix.last k kt in
          record {
            none_after = λ c a less. elim (ℕ_discrete c (literals_at g + i)) [
              | yes e ↦ absurd (n (sym (literal_word t table k (literals_at g + i) (subst (LiteralAt (placed_of t) k) e a))
                  ∙ f.words.literal i lt))
              | no e ↦ w.none_after c a (omega arith)
            ];
            stands = ⊎_elim inl (λ (s : LiteralAt (placed_of t) k (last_in x k) × (last_in x k < literals_at g + i)). inr (
              s.0,
              (let u = s.1 in omega arith),
            )) w.stands;
          }

  -- all of a record's words before its first group are passed
  pub indexed_record : (p h : ℕ) (x : Index) → Cursor t p h 0 → Indexed (placed_of t) x p → Indexed (placed_of t) x (body_at p)
  indexed_record p h x c ix =
      let before : ((γ : Placed) → γ ∈ placed_of t → (end_of γ ≤ p) ⊎ (body_at p ≤ γ.at)) = record_alone t p h c in
      indexed_on (placed_of t) x p (body_at p) ix (omega arith)
      (λ l c a k. ⊎_elim (λ (e : end_of a.group ≤ p). omega (arith, a.place, a.inside))
      (λ (e : body_at p ≤ a.group.at). absurd (omega (arith, a.place))) (before a.group a.one))
      (λ γ m k. ⊎_elim (λ (e : end_of γ ≤ p). omega arith) (λ (e : body_at p ≤ γ.at). absurd (omega arith)) (before γ m))

  pub indexed_ends : (p : ℕ) (x : Index) → length t ≤ p → Indexed (placed_of t) x p → IndexOf t x
  indexed_ends p x le ix =
      record {
        table = table;
        indexed = record {
          lasts = ix.lasts;
          earliers = ix.earliers;
          owners = ix.owners;
          last = λ l lt.
              let w = ix.last l lt in
              record {
                none_after = λ c a k. w.none_after c a (omega arith);
                stands = ⊎_elim inl (λ (s : LiteralAt (placed_of t) l (last_in x l) × (last_in x l < p)). inr (
                  s.0,
                  literal_inside t table l
                      (last_in x l) s.0,
                )) w.stands;
              };
          earlier = λ l c a k. ix.earlier l c a (omega arith);
          owner = λ γ m i lt k. ix.owner γ m i lt (omega arith);
          head = λ γ m k. ix.head γ m (omega arith);
        };
      }

-- a group of a rule is gone through
module _ (t : List ℕ) (table : Table t) (g h m : ℕ) (c : Cursor t g h (suc m)) where
  abbrev front : Front t g h m
  front = cursor_front t g h m c

  pub size_is : get_or t g 0 ≡ length front.literals
  size_is = front.words.size

  pub group_inside : literals_at g + get_or t g 0 ≤ length t
  group_inside = let w = front.words.inside in let s = size_is in omega arith

  pub head_small : h < 1024
  head_small = head_below t table (placed h g front.literals) front.one

  pub code_small : (i : ℕ) → i < get_or t g 0 → get_or t (literals_at g + i) 0 < 1024
  code_small i lt =
      let k : i < length front.literals = (let s = size_is in omega arith) in
      subst⁻¹ (λ (x : ℕ). x < 1024) (front.words.literal i k)
      (code_below t table (placed h g front.literals) front.one (get_or front.literals i 0) (nth_member front.literals i k))

  pub group_starts : (x x' : Index) → Indexed (placed_of t) x g → x' ≡ with_owner x g h → Indexed (placed_of t) x' (literals_at g + 0)
  group_starts x x' ix e =
      subst⁻¹ (λ (u : Index). Indexed (placed_of t) u (literals_at g + 0)) e
      (subst (Indexed (placed_of t) (with_owner x g h)) (omega arith) (indexed_group t table g h m x front ix))

  pub literal_turn : (i l : ℕ) (x x' : Index) → i < get_or t g 0 → l ≡ get_or t (literals_at g + i) 0 → Indexed (placed_of t) x (literals_at g + i)
      → x' ≡ with_place x l (literals_at g + i) g → Indexed (placed_of t) x' (literals_at g + (i + 1))
  literal_turn i l x x' lt e ix e' =
      let k : i < length front.literals = (let s = size_is in omega arith) in
      let q : l ≡ get_or front.literals i 0 = e ∙ front.words.literal i k in
      let code : get_or front.literals i 0 < 1024 = subst (λ (y : ℕ). y < 1024) (front.words.literal i k) (code_small i lt) in
      subst⁻¹ (λ (u : Index). Indexed (placed_of t) u (literals_at g + (i + 1))) (e' ∙ ap (λ (y : ℕ). with_place x y (literals_at g + i) g) q)
      (subst (Indexed (placed_of t) (with_place x (get_or front.literals i 0) (literals_at g + i) g)) (omega arith)
      (indexed_literal t table g h m i x front k code ix))

  pub group_next : (next : ℕ) → next ≡ literals_at g + get_or t g 0 → Cursor t next h m
  group_next next e = subst⁻¹ (λ (x : ℕ). Cursor t x h m) (e ∙ ap (λ (k : ℕ). literals_at g + k) size_is) front.next

  pub group_dropped : (next : ℕ) → next ≡ literals_at g + get_or t g 0 → drop_groups m (drop next t) ≡ drop_groups (suc m) (drop g t)
  unfolding drop_groups
  group_dropped next e =
      ap (λ (x : ℕ). drop_groups m (drop x t)) e ∙ ap (drop_groups m) (sym (drop-drop (get_or t g 0) (literals_at g) t))
      ∙ sym (ap (drop_groups (suc m)) (drop-cons t g 0 (let w = group_inside in omega arith)
      ∙ ap (λ (x : ℕ). get_or t g 0 ∷ drop x t) (sucs g)))
    where
      sucs : (n : ℕ) → suc n ≡ literals_at n
      sucs n = omega arith

-- no groups to drop
pub done : (t : List ℕ) (m at : ℕ) → m ≡ 0 → drop at t ≡ drop_groups m (drop at t)
unfolding drop_groups
done t m at e = sym (ap (λ (n : ℕ). drop_groups n (drop at t)) e)

-- the rule of the record at a place, and the rules after it
pub rules_at : (t : List ℕ) (p next : ℕ) → groups_at p < length t → drop next t ≡ drop_groups (get_or t (groups_at p) 0) (drop (body_at p) t)
    → rules_of (drop p t) ≡ record { head = get_or t p 0; groups = take_groups (get_or t (groups_at p) 0) (drop (body_at p) t) } ∷ rules_of (drop next t)
rules_at t p next lt e =
    let word : ((i j : ℕ) → i < length t → suc i ≡ j → drop i t ≡ get_or t i 0 ∷ drop j t) = λ i j k q.
    drop-cons t i 0 k ∙ ap (λ (x : ℕ). get_or t i 0 ∷ drop x t) q in
    let three : drop p t ≡ get_or t p 0 ∷ get_or t (line_number_at p) 0 ∷ get_or t (groups_at p) 0 ∷ drop (body_at p) t =
    word p (line_number_at p) (omega arith) (omega arith)
    ∙ ap (λ (u : List ℕ). get_or t p 0 ∷ u) (word (line_number_at p) (groups_at p) (omega arith) (omega arith)
    ∙ ap (λ (u : List ℕ). get_or t (line_number_at p) 0 ∷ u) (word (groups_at p) (body_at p) lt (omega arith))) in
    ap rules_of three
    ∙ ap rules_in (records_of_record (get_or t p 0) (get_or t (line_number_at p) 0) (get_or t (groups_at p) 0) (drop (body_at p) t))
    ∙ ap (λ (u : List ℕ). record { head = get_or t p 0; groups = take_groups (get_or t (groups_at p) 0) (drop (body_at p) t) } ∷ rules_of u) (sym e)

-- the groups of a cursor are read from the words
pub cursor_groups : (t : List ℕ) (p h m : ℕ) (c : Cursor t p h m) → take_groups m (drop p t) ≡ c.groups
cursor_groups t p h m c =
    ap₂ take_groups (sym c.many) c.words ∙ take_groups_groups_words c.groups (words_of c.records)

pub facts_start : (t : List ℕ) → FactsTo t (replicate 16 0) 0
facts_start t =
    record {
      row = length-replicate {A = ℕ} 16 0;
      rules = λ ρ m. m;
      facts = λ l. ((⊎_elim (λ (h : T (member (replicate 16 0) l)). absurd (subst T (member_of_zeros 16 l) h)) (λ f. f)), λ f. inr f);
    }

length_with_fact : (f : List ℕ) (h m : ℕ) → length (with_fact f h m) ≡ length f
unfolding with_fact
length_with_fact f h zero = length_put_in f h
length_with_fact f h (suc m) = refl

-- the facts of a record more
module _ (t : List ℕ) (f : List ℕ) (p next : ℕ) (ρ : Rule) (split : rules_of (drop p t) ≡ ρ ∷ rules_of (drop next t))
    (heads : HeadsBelow 512 (rules_of t)) where
  first_or_later : (l : ℕ) → FactIn (rules_of (drop p t)) l → ((ρ.head ≡ l) × (ρ.groups ≡ [])) ⊎ FactIn (rules_of (drop next t)) l
  first_or_later l k =
      ⊎_elim (λ (e : k.rule ≡ ρ). inl (ap (λ (σ : Rule). σ.head) (sym e) ∙ k.head, ap (λ (σ : Rule). σ.groups) (sym e) ∙ k.fact))
      (λ (i : k.rule ∈ rules_of (drop next t)). inr (record { rule = k.rule; one = i; head = k.head; fact = k.fact }))
      (Memᴰ.cases_cons (subst (λ (R : List Rule). k.rule ∈ R) split k.one))

  later : (l : ℕ) → FactIn (rules_of (drop next t)) l → FactIn (rules_of (drop p t)) l
  later l k = record { rule = k.rule; one = rw split (Memᴰ.tail k.one); head = k.head; fact = k.fact }

  pub facts_go_on : (m : ℕ) → length ρ.groups ≡ m → FactsTo t f p → FactsTo t (with_fact f ρ.head m) next
  unfolding with_fact
  facts_go_on m many to =
      record { row = length_with_fact f ρ.head m ∙ to.row; rules = λ σ i. to.rules σ (rw split (Memᴰ.tail i)); facts = λ l. by l m many }
    where
      by : (l m : ℕ) → length ρ.groups ≡ m
          → (T (member (with_fact f ρ.head m) l) ⊎ FactIn (rules_of (drop next t)) l) ↔ FactIn (rules_of t) l
      by l (suc m) e = (
        ⊎_elim (λ (h : T (member f l)). (to.facts l).0 (inl h)) (λ k. (to.facts l).0 (inr (later l k))),
        λ k. ⊎_elim inl (λ (j : FactIn (rules_of (drop p t)) l). ⊎_elim
            (λ (q : (ρ.head ≡ l) × (ρ.groups ≡ [])). absurd (let z = ap length q.1 in omega arith)) inr (first_or_later l j)) ((to.facts l).1 k),
      )
      by l zero e = (
        ⊎_elim (λ (h : T (member (put_in f ρ.head) l)). elim (ℕ_discrete l ρ.head) [
          | yes q ↦ (to.facts l).0 (inr (record { rule = ρ; one = rw split (Memᴰ.head refl); head = sym q; fact = nil_from_length ρ.groups e }))
          | no n ↦ (to.facts l).0 (inl (subst T (member_put_in_other f ρ.head l n) h))
        ]) (λ k. (to.facts l).0 (inr (later l k))),
        λ k. ⊎_elim (λ (h : T (member f l)). inl (kept l h)) (λ (j : FactIn (rules_of (drop p t)) l).
            ⊎_elim (λ (q : (ρ.head ≡ l) × (ρ.groups ≡ [])). inl (subst (λ (y : ℕ). T (member (put_in f ρ.head) y))
            q.0 itself)) inr (first_or_later l j))
            ((to.facts l).1 k),
      )
        where
          itself : T (member (put_in f ρ.head) ρ.head)
          itself = true→T _ (member_put_in_same f ρ.head (let s = to.row in let k = heads ρ (to.rules ρ (rw split
              (Memᴰ.head refl))) in omega arith))

          kept : (l : ℕ) → T (member f l) → T (member (put_in f ρ.head) l)
          kept l h = elim (ℕ_discrete l ρ.head) [
            | yes q ↦ subst⁻¹ (λ (y : ℕ). T (member (put_in f ρ.head) y)) q itself
            | no n ↦ subst⁻¹ T (member_put_in_other f ρ.head l n) h
          ]

pub facts_end : (t f : List ℕ) (p : ℕ) → length t ≤ p → FactsTo t f p → FactsOf t f
facts_end t f p le to =
    let none : ((l : ℕ) → FactIn (rules_of (drop p t)) l → ⊥) = λ l k.
    Memᴰ.not-nil (subst (λ (R : List Rule). k.rule ∈ R) (ap rules_of (drop_of_length-le t le) ∙ ap rules_in records_of_nothing) k.one) in
    record {
      row = to.row;
      facts = λ l. ((λ h. (to.facts l).0 (inl h)), λ k. ⊎_elim (λ (h : T (member f l)). h) (λ j. absurd (none l j)) ((to.facts l).1 k));
    }

-- a record is gone through
module _ (t : List ℕ) (table : Table t) (at : ℕ) (inside : at < length t) (x : Index) (to : IndexedTo t x at)
    (head m : ℕ) (head_is : head ≡ get_or t at 0) (many_is : m ≡ get_or t (groups_at at) 0) where
  pub record_comes : Cursor t (body_at at) head m
  record_comes = rw (head_is, many_is) (cursor_record t at 0 to.cursor inside).1

  -- the index with the record's fact has all that the index had
  pub with_fact_indexed : (x' : Index) → x' ≡ with_fact_in x head m → Indexed (placed_of t) x' (body_at at)
  with_fact_indexed x' e =
      let ix = indexed_record t table at 0 x to.cursor to.indexed in
      subst⁻¹ (λ (y : Index). Indexed (placed_of t) y (body_at at)) e (record {
        lasts = ix.lasts;
        earliers = ix.earliers;
        owners = ix.owners;
        last = ix.last;
        earlier = ix.earlier;
        owner = ix.owner;
        head = ix.head;
      })

  pub record_turn : (next : ℕ) (x' : Index) → x'.facts ≡ with_fact x.facts head m → Cursor t next head 0 → Indexed (placed_of t) x' next
      → drop next t ≡ drop_groups m (drop (body_at at) t) → IndexedTo t x' next
  record_turn next x' ef c ix e =
      record {
        cursor = cursor_anew t next head c;
        indexed = ix;
        facts = subst⁻¹ (λ (u : List ℕ). FactsTo t u next) (ef ∙ ap (λ (h : ℕ). with_fact x.facts h m) head_is)
            (facts_go_on t x.facts at next
            (record { head = get_or t at 0; groups = take_groups (get_or t (groups_at at) 0) (drop (body_at at) t) })
            (rules_at t at next (cursor_record t at 0 to.cursor inside).0 (e ∙ ap (λ (n : ℕ). drop_groups n (drop (body_at at) t)) many_is))
            table.within.heads_below_lem m
            (ap (λ (n : ℕ). length (take_groups n (drop (body_at at) t))) (sym many_is) ∙ ap length (cursor_groups t (body_at at) head m record_comes)
            ∙ record_comes.many) to.facts);
      }

pub to_starts : (t : List ℕ) → Table t → (x : Index) → x ≡ empty → IndexedTo t x 0
to_starts t table x e =
    subst⁻¹ (λ (y : Index). IndexedTo t y 0) e
    (record { cursor = cursor_starts t table; indexed = indexed_starts (placed_of t); facts = facts_start t })
