-- The records of a table have numbers: at most 1,024, since no head comes twice. Assumes nothing.
use mathlib.Core.Bool.{Bool, false}
use mathlib.Core.List.Memᴰ
use mathlib.Core.List.{List, [], ◌∷◌, ◌++◌, cons≢nil}
use mathlib.Core.Logic.{◌≢◌, ⊎_elim}
use mathlib.Core.Path.{◌≡◌, refl, sym, ap, ap₂, ◌∙◌, subst}
use Prim.Native.Nat.{ℕ, zero, suc, ◌+◌, ◌≤◌, ◌<◌}
use native.Mathlib.Omega.{arith}
use lib.Dec.{T}
use lib.ListN.{length, get_or, drop, length-set}
use lib.Seq.{drop-nil, get_or-set_same, get_or-set_other}
use Rattle.sets.specs.Sets.{◌∈◌, ◌with◌, count}
use Rattle.sets.proofs.Besides.{with_cases}
use Rattle.sets.proofs.Counting.{count_none, count_with, count≤}
use Rattle.sets.proofs.Tests.{refuted→false, false→not}
use Rattle.paper.specs.Rules.{Rule, HeadsBelow}
use Rattle.words.specs.Layout.{TableRecord, words_of, records_of, rules_in, rules_of, body_at}
use Rattle.words.specs.RecordAt.{groups_in, rule_at}
use Rattle.words.specs.Within.{DistinctHeads}
use Rattle.least.specs.Walk.{GroupsSkipped}
use Rattle.valued.proofs.Through.{Through, This, this_record, this_of_table, through_next, through_end}
use Rattle.index.specs.Placed.{Table}
use Rattle.ranks.specs.Found.{RecordStands}
use Rattle.waiting.specs.declared.Order.{Order}
use Rattle.waiting.specs.Waiting.{number_for, place_for, with_record, NumberedRecord, Numbered}

-- the heads of rules as a set
abbrev heads_of : List Rule → ℕ → Bool
heads_of [] = λ l. false
heads_of (ρ ∷ R) = heads_of R with ρ.head

head_of : (R : List Rule) (l : ℕ) → T (heads_of R l) → (σ : Rule) × (σ ∈ R) × (σ.head ≡ l)
head_of [] l h = absurd h
head_of (ρ ∷ R) l h =
    ⊎_elim (λ (e : l ≡ ρ.head). (ρ, Memᴰ.head refl, sym e))
    (λ (k : T (heads_of R l)). let q = head_of R l k in (q.0, Memᴰ.tail q.1, q.2))
    (with_cases (heads_of R) ρ.head l h)

-- as many heads as rules
heads_counted : (R : List Rule) → HeadsBelow 512 R → DistinctHeads R → length R ≡ count 1024 (heads_of R)
unfolding DistinctHeads
heads_counted [] below distinct = sym (count_none 1024 (heads_of []) (λ a lt. tt))
heads_counted (ρ ∷ R) below distinct =
    let new = false→not (heads_of R ρ.head)
    (refuted→false (heads_of R ρ.head) (λ k. let q = head_of R ρ.head k in distinct.0 q.0 q.1 q.2)) in
    ap suc (heads_counted R (λ σ m. below σ (Memᴰ.tail m)) distinct.1)
    ∙ sym (count_with 1024 (heads_of R) ρ.head (below ρ (Memᴰ.head refl)) new)

pub at_most_1024_rules : (t : List ℕ) → Table t → length (rules_of t) ≤ 1024
at_most_1024_rules t table =
    let e = heads_counted (rules_of t) table.within.heads_below_lem table.within.distinct_heads in
    let k = count≤ 1024 (heads_of (rules_of t)) in
    omega arith

-- the rule of number k
pub in_drop : (k : ℕ) (R : List Rule) {σ : Rule} {Q : List Rule} → drop k R ≡ σ ∷ Q → σ ∈ R
in_drop zero [] e = absurd (cons≢nil (sym e))
in_drop (suc k) [] e = absurd (cons≢nil (sym e))
in_drop zero (τ ∷ R) {σ} e = let q : σ ≡ τ = cc in Memᴰ.head q
in_drop (suc k) (τ ∷ R) e = Memᴰ.tail (in_drop k R e)

-- a later rule has another head
later_head : (R : List Rule) → DistinctHeads R → (j k : ℕ) → j < k → {ρ σ : Rule} {P Q : List Rule} → drop j R ≡ ρ ∷ P
    → drop k R ≡ σ ∷ Q → σ.head ≢ ρ.head
unfolding DistinctHeads
later_head [] distinct j k lt d e = absurd (cons≢nil (sym d ∙ drop-nil j))
later_head (τ ∷ R) distinct zero zero lt d e = absurd (omega arith)
later_head (τ ∷ R) distinct (suc j) zero lt d e = absurd (omega arith)
later_head (τ ∷ R) distinct zero (suc k) lt {ρ} {σ} d e =
    λ same. let q : τ ≡ ρ = cc in distinct.0 σ (in_drop k R e) (same ∙ ap (λ (x : Rule). x.head) (sym q))
later_head (τ ∷ R) distinct (suc j) (suc k) lt d e = later_head R distinct.1 j k (omega arith) d e

-- each rule stands somewhere
pub record StandsIn (R : List Rule) (ρ : Rule) : Type 0 where
  pub number : ℕ
  pub below : number < length R
  pub rule : drop number R ≡ ρ ∷ drop (suc number) R

stands_in : (R : List Rule) (ρ : Rule) → ρ ∈ R → StandsIn R ρ
stands_in [] ρ m = absurd (Memᴰ.not-nil m)
stands_in (τ ∷ R) ρ m =
    ⊎_elim (λ (e : ρ ≡ τ). record { number = 0; below = omega arith; rule = ap (λ (x : Rule). x ∷ R) (sym e) })
    (λ (k : ρ ∈ R). let q = stands_in R ρ k in record { number = suc q.number; below = omega (arith, q.below); rule = q.rule })
    (Memᴰ.cases_cons m)

-- the number of a rule's head is that of its record
pub record NumberOf (t : List ℕ) (o : Order) (ρ : Rule) : Type 0 where
  pub below : number_for o ρ.head < length (rules_of t)
  pub rule : ρ ≡ rule_at t (place_for o (number_for o ρ.head))

pub number_of : (t : List ℕ) (o : Order) → Numbered t o → (ρ : Rule) → ρ ∈ rules_of t → NumberOf t o ρ
number_of t o numbered ρ m =
    let q = stands_in (rules_of t) ρ m in
    let r = numbered.each q.number q.below in
    let R : List Rule = drop q.number (rules_of t) in
    let a = q.rule in
    let b = r.rule in
    let e : ρ ≡ rule_at t (place_for o q.number) = cc in
    let n : number_for o ρ.head ≡ q.number = ap (λ (x : Rule). number_for o x.head) e ∙ r.number in
    record { below = omega (arith, q.below); rule = e ∙ ap (λ (j : ℕ). rule_at t (place_for o j)) (sym n) }

-- records are numbered as they are passed
pub record NumberedTo (t : List ℕ) (o : Order) (at : ℕ) : Type 0 where
  pub gone : List TableRecord
  pub through : Through t gone at
  pub many : o.count ≡ length gone
  pub number_room : length o.numbers ≡ 1024
  pub place_room : length o.places ≡ 1024
  pub each : (j : ℕ) → j < o.count → NumberedRecord t o j

pub numbers_start : (t : List ℕ) (o : Order) → Table t → o.count ≡ 0 → length o.numbers ≡ 1024 → length o.places ≡ 1024 → NumberedTo t o 0
unfolding words_of
numbers_start t o table none number_room place_room =
    record {
      gone = [];
      through = record { rest = records_of t; split = refl; here = table.words; inside = omega arith; place = refl };
      many = none;
      number_room = number_room;
      place_room = place_room;
      each = λ j lt. absurd (omega arith);
    }

length_rules : (Q : List TableRecord) → length (rules_in Q) ≡ length Q
length_rules [] = refl
length_rules (r ∷ Q) = ap suc (length_rules Q)

drop_this : (P : List TableRecord) (r : TableRecord) (Q : List TableRecord) → drop (length P) (rules_in (P ++ r ∷ Q)) ≡ r.rule ∷ rules_in Q
drop_this [] r Q = refl
drop_this (p ∷ P) r Q = drop_this P r Q

drop_after : (P : List TableRecord) (r : TableRecord) (Q : List TableRecord) → drop (suc (length P)) (rules_in (P ++ r ∷ Q)) ≡ rules_in Q
drop_after [] r Q = refl
drop_after (p ∷ P) r Q = drop_after P r Q

length_through : (P : List TableRecord) (r : TableRecord) (Q : List TableRecord) → length P < length (P ++ r ∷ Q)
length_through [] r Q = omega arith
length_through (p ∷ P) r Q = omega (arith, length_through P r Q)

length_behind : (P : List TableRecord) (r : TableRecord) → length (P ++ r ∷ []) ≡ length P + 1
length_behind [] r = omega arith
length_behind (p ∷ P) r = omega (arith, length_behind P r)

module _ (t : List ℕ) (o : Order) {at : ℕ} (table : Table t) (lt : at < length t) (p : NumberedTo t o at) where
  this : This t p.gone at p.through
  this = this_record t p.gone at lt p.through

  pub this_stands : RecordStands t at
  this_stands =
      record {
        inside = this.body_inside;
        whole = this.whole;
        head_literal = table.within.heads_below_lem (rule_at t at) (this_of_table t p.gone at p.through this);
      }

  split : records_of t ≡ p.gone ++ this.this ∷ this.others
  split = p.through.split ∙ ap (λ (Q : List TableRecord). p.gone ++ Q) this.rest_is

  pub number_below : o.count < 1024
  number_below =
      let k = at_most_1024_rules t table in
      let l = length_rules (records_of t) in
      let e = ap length split in
      let h = length_through p.gone this.this this.others in
      let m = p.many in
      omega arith

  -- its number and its place fit
  pub number_fits : {head : ℕ} → head ≡ get_or t at 0 → (head < 1024) × (o.count < 1024) × (at < 65536)
  number_fits e =
      let w = ap length table.words in
      let l = table.within.at_most_8192 in
      (rw e this_stands.head_literal, number_below, omega arith)

  this_rule : drop o.count (rules_of t) ≡ rule_at t at ∷ drop (suc o.count) (rules_of t)
  this_rule =
      let R : rules_of t ≡ rules_in (p.gone ++ this.this ∷ this.others) = ap rules_in split in
      let after = ap₂ (λ (k : ℕ) (Q : List Rule). drop (suc k) Q) p.many R ∙ drop_after p.gone this.this this.others in
      ap₂ drop p.many R ∙ drop_this p.gone this.this this.others
      ∙ ap₂ (λ (ρ : Rule) (Q : List Rule). ρ ∷ Q) (sym this.rule_is) (sym after)

  module _ {o' : Order} {head : ℕ} (head_is : head ≡ get_or t at 0) (put : o' ≡ with_record o head at) where
    head_below : head < 1024
    head_below = rw head_is this_stands.head_literal

    place_same : place_for o' o.count ≡ at
    place_same =
        ap (λ (x : Order). place_for x o.count) put
        ∙ get_or-set_same o.places o.count at 0 (omega (arith, p.place_room, number_below))

    place_other : (j : ℕ) → j < o.count → place_for o' j ≡ place_for o j
    place_other j less =
        ap (λ (x : Order). place_for x j) put ∙ get_or-set_other o.places o.count j at 0 (λ e. omega arith)

    number_same : number_for o' head ≡ o.count
    number_same =
        ap (λ (x : Order). number_for x head) put
        ∙ get_or-set_same o.numbers head o.count 0 (omega (arith, p.number_room, head_below))

    number_other : (h : ℕ) → h ≢ head → number_for o' h ≡ number_for o h
    number_other h ne = ap (λ (x : Order). number_for x h) put ∙ get_or-set_other o.numbers head h o.count 0 ne

    earlier : (j : ℕ) → j < o.count → NumberedRecord t o' j
    earlier j less =
        let q = p.each j less in
        let e = place_other j less in
        let ne : get_or t (place_for o j) 0 ≢ head = λ f.
        later_head (rules_of t) table.within.distinct_heads j o.count less q.rule this_rule (sym (f ∙ head_is)) in
        record {
          stands = rw e q.stands;
          rule = rw e q.rule;
          number = rw e (number_other (get_or t (place_for o j) 0) ne ∙ q.number);
        }

    last : NumberedRecord t o' o.count
    last =
        record {
          stands = rw place_same this_stands;
          rule = rw place_same this_rule;
          number = rw place_same (ap (number_for o') (sym head_is) ∙ number_same);
        }

    pub numbers_go_on : {next : ℕ} → GroupsSkipped t (body_at at) (groups_in t at) next → NumberedTo t o' next
    numbers_go_on {next} skipped =
        record {
          gone = p.gone ++ this.this ∷ [];
          through = through_next t p.gone at next p.through this skipped;
          many = (let e = length_behind p.gone this.this in let m = p.many in let f = ap (λ (x : Order). x.count) put in omega arith);
          number_room = ap (λ (x : Order). length x.numbers) put ∙ length-set o.numbers head o.count ∙ p.number_room;
          place_room = ap (λ (x : Order). length x.places) put ∙ length-set o.places o.count at ∙ p.place_room;
          each = λ j less. let f = ap (λ (x : Order). x.count) put in elim (native.Mathlib.Decide.ℕ_discrete j o.count) [
            | yes e ↦ subst (NumberedRecord t o') (sym e) last
            | no ne ↦ earlier j (omega arith)
          ];
        }

module _ (t : List ℕ) (o : Order) {at : ℕ} (le : length t ≤ at) (p : NumberedTo t o at) where
  all_counted : o.count ≡ length (rules_of t)
  all_counted = p.many ∙ ap length (sym (through_end t p.gone at le p.through)) ∙ sym (length_rules (records_of t))

  pub numbers_end : Numbered t o
  numbers_end = record { count = all_counted; each = λ j lt. p.each j (omega (arith, all_counted)) }
