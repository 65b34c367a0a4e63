-- The groups of a table by their places: their words, their rules, and going through them. Assumes nothing.
use mathlib.Core.List.Memᴰ
use mathlib.Core.List.{List, [], ◌∷◌, ◌++◌, append_assoc}
use mathlib.Core.Logic.{◌⊎◌, inl, inr, ⊎_elim}
use mathlib.Core.Path.{◌≡◌, refl, sym, ap, ap₂, ◌∙◌, subst, subst⁻¹}
use Prim.Native.Nat.{ℕ, zero, suc, ◌+◌, ◌≤◌, ◌<◌}
use native.Mathlib.Nat.{add-zero}
use native.Mathlib.Omega.{arith}
use lib.ListN.{length, get_or, drop, length-drop, length-append, get_or-append}
use lib.Seq.{drop-drop, get_or-drop, drop-append_seam}
use Rattle.paper.specs.Rules.{Rule}
use Rattle.sets.specs.Sets.{◌∈◌}
use Rattle.words.specs.Layout.{TableRecord, groups_words, words_of, records_of, rules_in, body_at, groups_at, literals_at}
use Rattle.words.specs.Check.{AcceptedTable}
use Rattle.words.proofs.Places.{word_at, record_at, some_record}
use Rattle.words.proofs.Laws.{words_of_records_of, accepted_within}
use Rattle.index.specs.Placed.{Placed, placed, end_of, placed_groups, placed_in, placed_of, Table, LiteralAt, Cursor}

-- an accepted table can be gone through
pub accepted_table : (N : ℕ) (t : List ℕ) → AcceptedTable N t → Table t
accepted_table N t a =
    let w = accepted_within N t a in
    record {
      words = sym (words_of_records_of N t a);
      within = record {
        at_most_512 = omega arith;
        at_most_8192 = w.at_most_8192;
        each_line = w.each_line;
        heads_below_lem = λ ρ m. let h = w.heads_below_lem ρ m in let k = w.at_most_512 in omega arith;
        distinct_heads = w.distinct_heads;
        each_body = λ ρ m.
            let b = w.each_body ρ m in
            record {
              at_most_64 = b.at_most_64;
              each_group = λ β i.
                  let g = b.each_group β i in
                  record {
                    not_empty = g.not_empty;
                    at_most_64 = g.at_most_64;
                    literals_below_lem = λ l n. let h = g.literals_below_lem l n in let k = w.at_most_512 in omega arith;
                  };
            };
      };
    }

-- groups from p on begin at p or later, and those of records later still
pub groups_from : (h p : ℕ) (βs : List (List ℕ)) (γ : Placed) → γ ∈ placed_groups h p βs → p ≤ γ.at
unfolding placed_groups
groups_from h p [] γ m = absurd (Memᴰ.not-nil m)
groups_from h p (β ∷ βs) γ m =
    ⊎_elim (λ (e : γ ≡ placed h p β). let e' = ap (λ (δ : Placed). δ.at) e in omega arith)
    (λ (k : γ ∈ placed_groups h (literals_at p + length β) βs). let le = groups_from h (literals_at p + length β) βs γ k in omega arith)
    (Memᴰ.cases_cons m)

pub records_from : (p : ℕ) (Q : List TableRecord) (γ : Placed) → γ ∈ placed_in p Q → body_at p ≤ γ.at
unfolding placed_in
records_from p [] γ m = absurd (Memᴰ.not-nil m)
records_from p (r ∷ Q) γ m =
    ⊎_elim (groups_from r.rule.head (body_at p) r.rule.groups γ)
    (λ (k : γ ∈ placed_in (body_at p + length (groups_words r.rule.groups)) Q).
    let le = records_from (body_at p + length (groups_words r.rule.groups)) Q γ k in omega arith)
    (Memᴰ.append_cases (placed_groups r.rule.head (body_at p) r.rule.groups) m)

-- the words at the place of a group
abbrev pub StandsAt : List ℕ → Placed → Type 0
StandsAt t γ = (rest : List ℕ) × (drop γ.at t ≡ length γ.literals ∷ γ.literals ++ rest)

-- the words after a group at the front
pub after_group : (t : List ℕ) (p : ℕ) (β : List ℕ) (βs : List (List ℕ)) (rest : List ℕ) → drop p t ≡ groups_words (β ∷ βs) ++ rest
    → drop (literals_at p + length β) t ≡ groups_words βs ++ rest
unfolding groups_words
after_group t p β βs rest e =
    let one = word_at t p (length β) (β ++ (groups_words βs ++ rest))
    (e ∙ ap (λ (u : List ℕ). length β ∷ u) (append_assoc β (groups_words βs) rest)) in
    sym (drop-drop (length β) (literals_at p) t) ∙ ap (drop (length β)) one.after ∙ drop-append_seam β (groups_words βs ++ rest)

pub groups_stand : (t : List ℕ) (h p : ℕ) (βs : List (List ℕ)) (rest : List ℕ) → drop p t ≡ groups_words βs ++ rest
    → (γ : Placed) → γ ∈ placed_groups h p βs → StandsAt t γ
unfolding placed_groups groups_words
groups_stand t h p [] rest e γ m = absurd (Memᴰ.not-nil m)
groups_stand t h p (β ∷ βs) rest e γ m =
    ⊎_elim (λ (q : γ ≡ placed h p β). subst⁻¹ (StandsAt t) q (here e))
    (groups_stand t h (literals_at p + length β) βs rest (after_group t p β βs rest e) γ)
    (Memᴰ.cases_cons m)
  where
    here : drop p t ≡ groups_words (β ∷ βs) ++ rest → StandsAt t (placed h p β)
    here f = (groups_words βs ++ rest, f ∙ ap (λ (u : List ℕ). length β ∷ u) (append_assoc β (groups_words βs) rest))

-- the words after groups
pub after_groups : (t : List ℕ) (p : ℕ) (βs : List (List ℕ)) (rest : List ℕ) → drop p t ≡ groups_words βs ++ rest
    → drop (p + length (groups_words βs)) t ≡ rest
after_groups t p βs rest e = sym (drop-drop (length (groups_words βs)) p t) ∙ ap (drop (length (groups_words βs))) e ∙ drop-append_seam
    (groups_words βs) rest

pub records_stand : (t : List ℕ) (p : ℕ) (Q : List TableRecord) → drop p t ≡ words_of Q → (γ : Placed) → γ ∈ placed_in p Q → StandsAt t γ
unfolding placed_in
records_stand t p [] e γ m = absurd (Memᴰ.not-nil m)
records_stand t p (r ∷ Q) e γ m =
    let at = record_at t p r Q e in
    ⊎_elim (groups_stand t r.rule.head (body_at p) r.rule.groups (words_of Q) at.groups γ)
    (records_stand t (body_at p + length (groups_words r.rule.groups)) Q (after_groups t (body_at p) r.rule.groups (words_of Q) at.groups) γ)
    (Memᴰ.append_cases (placed_groups r.rule.head (body_at p) r.rule.groups) m)

-- the words of a group of the table
pub record GroupWords (t : List ℕ) (γ : Placed) : Type 0 where
  pub inside : end_of γ ≤ length t
  pub size : get_or t γ.at 0 ≡ length γ.literals
  pub literal : (i : ℕ) → i < length γ.literals → get_or t (literals_at γ.at + i) 0 ≡ get_or γ.literals i 0

pub stands_words : (t : List ℕ) (γ : Placed) → StandsAt t γ → GroupWords t γ
stands_words t γ s =
    let one = word_at t γ.at (length γ.literals) (γ.literals ++ s.0) s.1 in
    record {
      inside = omega (arith, one.inside, length-drop (literals_at γ.at) t, ap length one.after, length-append γ.literals s.0);
      size = one.word;
      literal = λ i lt.
          sym (get_or-drop (literals_at γ.at) t i 0) ∙ ap (λ (u : List ℕ). get_or u i 0) one.after ∙ get_or-append γ.literals s.0 0 i lt;
    }

pub table_words : (t : List ℕ) → Table t → (γ : Placed) → γ ∈ placed_of t → GroupWords t γ
table_words t table γ m = stands_words t γ (records_stand t 0 (records_of t) table.words γ m)

-- a place holds one literal
pub literal_word : (t : List ℕ) → Table t → (l c : ℕ) → LiteralAt (placed_of t) l c → get_or t c 0 ≡ l
literal_word t table l c a =
    ap (λ (x : ℕ). get_or t x 0) a.place ∙ (table_words t table a.group a.one).literal a.number a.inside ∙ a.literal

pub literal_inside : (t : List ℕ) → Table t → (l c : ℕ) → LiteralAt (placed_of t) l c → c < length t
literal_inside t table l c a = omega (arith, a.place, a.inside, (table_words t table a.group a.one).inside)

-- the rule of a group
pub record RuleOf (R : List Rule) (γ : Placed) : Type 0 where
  pub rule : Rule
  pub one : rule ∈ R
  pub head : rule.head ≡ γ.head
  pub group : γ.literals ∈ rule.groups

groups_of : (h p : ℕ) (βs : List (List ℕ)) (γ : Placed) → γ ∈ placed_groups h p βs → (h ≡ γ.head) × (γ.literals ∈ βs)
unfolding placed_groups
groups_of h p [] γ m = absurd (Memᴰ.not-nil m)
groups_of h p (β ∷ βs) γ m =
    ⊎_elim (λ (e : γ ≡ placed h p β). (ap (λ (δ : Placed). δ.head) (sym e), Memᴰ.head (ap (λ (δ : Placed). δ.literals) e)))
    (λ k. let q = groups_of h (literals_at p + length β) βs γ k in (q.0, Memᴰ.tail q.1))
    (Memᴰ.cases_cons m)

pub rule_in : (p : ℕ) (Q : List TableRecord) (γ : Placed) → γ ∈ placed_in p Q → RuleOf (rules_in Q) γ
unfolding placed_in
rule_in p [] γ m = absurd (Memᴰ.not-nil m)
rule_in p (r ∷ Q) γ m =
    ⊎_elim (λ k.
    let q = groups_of r.rule.head (body_at p) r.rule.groups γ k in
    record { rule = r.rule; one = Memᴰ.head refl; head = q.0; group = q.1 })
    (λ k. let q = rule_in (body_at p + length (groups_words r.rule.groups)) Q γ k in
    record { rule = q.rule; one = Memᴰ.tail q.one; head = q.head; group = q.group })
    (Memᴰ.append_cases (placed_groups r.rule.head (body_at p) r.rule.groups) m)

-- the group of a rule
pub record GroupOf (G : List Placed) (h : ℕ) (β : List ℕ) : Type 0 where
  pub group : Placed
  pub one : group ∈ G
  pub head : group.head ≡ h
  pub literals : group.literals ≡ β

group_among : (h p : ℕ) (βs : List (List ℕ)) (β : List ℕ) → β ∈ βs → GroupOf (placed_groups h p βs) h β
unfolding placed_groups
group_among h p [] β m = absurd (Memᴰ.not-nil m)
group_among h p (β' ∷ βs) β m =
    ⊎_elim (λ (e : β ≡ β'). record { group = placed h p β'; one = Memᴰ.head refl; head = refl; literals = sym e })
    (λ k. let q = group_among h (literals_at p + length β') βs β k in
    record { group = q.group; one = Memᴰ.tail q.one; head = q.head; literals = q.literals })
    (Memᴰ.cases_cons m)

pub group_in_lem : (p : ℕ) (Q : List TableRecord) (ρ : Rule) (β : List ℕ) → ρ ∈ rules_in Q → β ∈ ρ.groups
    → GroupOf (placed_in p Q) ρ.head β
unfolding placed_in
group_in_lem p [] ρ β m n = absurd (Memᴰ.not-nil m)
group_in_lem p (r ∷ Q) ρ β m n =
    ⊎_elim (λ (e : ρ ≡ r.rule).
    let q = group_among r.rule.head (body_at p) r.rule.groups β (subst (λ (σ : Rule). β ∈ σ.groups) e n) in
    record {
      group = q.group;
      one = Memᴰ.append_left _ q.one;
      head = q.head ∙ ap (λ (σ : Rule). σ.head) (sym e);
      literals = q.literals;
    })
    (λ k. let q = group_in_lem (body_at p + length (groups_words r.rule.groups)) Q ρ β k n in
    record {
      group = q.group;
      one = Memᴰ.append_right (placed_groups r.rule.head (body_at p) r.rule.groups) q.one;
      head = q.head;
      literals = q.literals;
    })
    (Memᴰ.cases_cons m)

-- going through the groups
pub cursor_starts : (t : List ℕ) → Table t → Cursor t 0 0 0
unfolding placed_groups groups_words
cursor_starts t table =
    record { groups = []; records = records_of t; words = table.words; many = refl; past = λ γ m. inr m; come = λ γ m. m }

pub cursor_record : (t : List ℕ) (p h : ℕ) → Cursor t p h 0 → p < length t → (groups_at p < length t) × Cursor t (body_at p) (get_or t p 0)
    (get_or t (groups_at p) 0)
unfolding placed_groups groups_words placed_in
cursor_record t p h c lt = by c.groups c.many c.words c.past c.come
  where
    by : (βs : List (List ℕ)) → length βs ≡ 0 → drop p t ≡ groups_words βs ++ words_of c.records
        → ((γ : Placed) → γ ∈ placed_of t → (end_of γ ≤ p)
        ⊎ (γ ∈ placed_groups h p βs ++ placed_in (p + length (groups_words βs)) c.records))
        → ((γ : Placed) → γ ∈ placed_groups h p βs ++ placed_in (p + length (groups_words βs)) c.records → γ ∈ placed_of t)
        → (groups_at p < length t) × Cursor t (body_at p) (get_or t p 0) (get_or t (groups_at p) 0)
    by (β ∷ βs) none w past come = absurd (omega arith)
    by [] none w past come =
        let q = some_record t p c.records lt w in
        let r = q.0 in
        let Q = q.1 in
        let at = record_at t p r Q (w ∙ ap words_of q.2) in
        let zero_more : p + 0 ≡ p = add-zero p in (
          at.inside,
          record {
            groups = r.rule.groups;
            records = Q;
            words = at.groups;
            many = sym at.count;
            past = λ γ m. ⊎_elim (λ (le : end_of γ ≤ p). inl (omega arith))
                (λ k. inr (rw at.head (subst (λ (X : List Placed). γ ∈ X) (ap₂ placed_in zero_more q.2) k))) (past γ m);
            come = λ γ m. come γ (subst⁻¹ (λ (X : List Placed). γ ∈ X) (ap₂ placed_in zero_more q.2)
                (subst (λ (x : ℕ). γ ∈ placed_groups x (body_at p) r.rule.groups ++ placed_in (body_at p + length (groups_words
                r.rule.groups)) Q) at.head m));
          },
        )

-- where no group is left the head does not matter
pub cursor_anew : (t : List ℕ) (p h : ℕ) → Cursor t p h 0 → Cursor t p 0 0
unfolding placed_groups
cursor_anew t p h c =
    let e = same c.groups c.many in
    record {
      groups = c.groups;
      records = c.records;
      words = c.words;
      many = c.many;
      past = λ γ m. rw e (c.past γ m);
      come = λ γ m. c.come γ (rw (sym e) m);
    }
  where
    same : (βs : List (List ℕ)) → length βs ≡ 0 → placed_groups 0 p βs ≡ placed_groups h p βs
    same [] e = refl
    same (β ∷ βs) e = absurd (omega arith)

-- no group begins in the first words of a record
pub record_alone : (t : List ℕ) (p h : ℕ) → Cursor t p h 0 → (γ : Placed) → γ ∈ placed_of t → (end_of γ ≤ p) ⊎ (body_at p ≤ γ.at)
unfolding placed_groups groups_words
record_alone t p h c γ m = by c.groups c.many (c.past γ m)
  where
    by : (βs : List (List ℕ)) → length βs ≡ 0
        → (end_of γ ≤ p) ⊎ (γ ∈ placed_groups h p βs ++ placed_in (p + length (groups_words βs)) c.records) → (end_of γ ≤ p) ⊎
        (body_at p ≤ γ.at)
    by (β ∷ βs) none k = absurd (omega arith)
    by [] none k = ⊎_elim inl (λ j. inr (let le = records_from (p + 0) c.records γ j in omega arith)) k

-- the group at the front
pub record Front (t : List ℕ) (g h m : ℕ) : Type 0 where
  pub literals : List ℕ
  pub one : placed h g literals ∈ placed_of t
  pub words : GroupWords t (placed h g literals)
  pub alone : (γ : Placed) → γ ∈ placed_of t → (end_of γ ≤ g) ⊎ ((γ ≡ placed h g literals) ⊎ (literals_at g + length literals ≤ γ.at))
  pub next : Cursor t (literals_at g + length literals) h m

pub cursor_front : (t : List ℕ) (g h m : ℕ) → Cursor t g h (suc m) → Front t g h m
unfolding placed_groups groups_words
cursor_front t g h m c = by c.groups c.many c.words c.past c.come
  where
    by : (βs : List (List ℕ)) → length βs ≡ suc m → drop g t ≡ groups_words βs ++ words_of c.records
        → ((γ : Placed) → γ ∈ placed_of t → (end_of γ ≤ g)
        ⊎ (γ ∈ placed_groups h g βs ++ placed_in (g + length (groups_words βs)) c.records))
        → ((γ : Placed) → γ ∈ placed_groups h g βs ++ placed_in (g + length (groups_words βs)) c.records → γ ∈ placed_of t)
        → Front t g h m
    by [] none w past come = absurd (omega arith)
    by (β ∷ βs) many w past come =
        let Q = c.records in
        let e : literals_at g + length β + length (groups_words βs) ≡ g + length (groups_words (β ∷ βs)) =
        omega (arith, length-append β (groups_words βs)) in
        let later = placed_groups h (literals_at g + length β) βs in
        record {
          literals = β;
          one = come (placed h g β) (Memᴰ.head refl);
          words = stands_words t (placed h g β) (groups_stand t h g (β ∷ βs) (words_of Q) w (placed h g β) (Memᴰ.head refl));
          alone = λ γ i. ⊎_elim inl (λ k. inr (⊎_elim inl
              (λ k'. inr (⊎_elim (groups_from h (literals_at g + length β) βs γ)
              (λ j. let le = records_from (g + length (groups_words (β ∷ βs))) Q γ j in omega (arith, length-append β (groups_words βs)))
              (Memᴰ.append_cases later k')))
              (Memᴰ.cases_cons k))) (past γ i);
          next = record {
            groups = βs;
            records = Q;
            words = after_group t g β βs (words_of Q) w;
            many = (let e' = many in omega arith);
            past = λ γ i. ⊎_elim (λ (le : end_of γ ≤ g). inl (omega arith)) (λ k. ⊎_elim
                (λ (q : γ ≡ placed h g β). inl (let q' = ap end_of q in omega arith))
                (λ k'. inr (subst⁻¹ (λ (x : ℕ). γ ∈ later ++ placed_in x Q) e k')) (Memᴰ.cases_cons k)) (past γ i);
            come = λ γ i. come γ (Memᴰ.tail (subst (λ (x : ℕ). γ ∈ later ++ placed_in x Q) e i));
          };
        }

pub nth_member : (β : List ℕ) (i : ℕ) → i < length β → get_or β i 0 ∈ β
nth_member [] i lt = absurd (omega arith)
nth_member (l ∷ β) zero lt = Memᴰ.head refl
nth_member (l ∷ β) (suc i) lt = Memᴰ.tail (nth_member β i (omega arith))

-- the codes of a group are those of 512 atoms
pub code_below : (t : List ℕ) → Table t → (γ : Placed) → γ ∈ placed_of t → (l : ℕ) → l ∈ γ.literals → l < 1024
code_below t table γ m l k =
    let r = rule_in 0 (records_of t) γ m in
    ((table.within.each_body r.rule r.one).each_group γ.literals r.group).literals_below_lem l k

pub group_short : (t : List ℕ) → Table t → (γ : Placed) → γ ∈ placed_of t → length γ.literals ≤ 64
group_short t table γ m =
    let r = rule_in 0 (records_of t) γ m in
    ((table.within.each_body r.rule r.one).each_group γ.literals r.group).at_most_64

pub head_below : (t : List ℕ) → Table t → (γ : Placed) → γ ∈ placed_of t → γ.head < 1024
head_below t table γ m =
    let r = rule_in 0 (records_of t) γ m in
    subst (λ (x : ℕ). x < 1024) r.head (table.within.heads_below_lem r.rule r.one)

pub table_short : (t : List ℕ) → Table t → length t ≤ 8192
table_short t table = subst⁻¹ (λ (u : List ℕ). length u ≤ 8192) table.words table.within.at_most_8192

-- a group has a literal
pub group_nonempty : (t : List ℕ) → Table t → (γ : Placed) → γ ∈ placed_of t → (l : ℕ) × (l ∈ γ.literals)
group_nonempty t table γ m =
    let r = rule_in 0 (records_of t) γ m in
    let k = ((table.within.each_body r.rule r.one).each_group γ.literals r.group).not_empty in
    (get_or γ.literals 0 0, nth_member γ.literals 0 (omega arith))
