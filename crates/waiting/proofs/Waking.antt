-- Literals get lines: their places are counted, and the records of the groups that become whole wait. Assumes nothing.
use mathlib.Core.Bool.{Bool}
use mathlib.Core.List.{List}
use mathlib.Core.Logic.{inl, inr, ⊎_elim}
use mathlib.Core.Path.{◌≡◌, sym, ap, ◌∙◌, subst, subst⁻¹}
use Prim.Native.Nat.{ℕ, ◌+◌, ◌-◌, ◌≤◌, ◌<◌}
use native.Mathlib.Decide.{ℕ_discrete}
use native.Mathlib.Omega.{arith}
use lib.Dec.{T}
use lib.ListN.{length, replicate, length-replicate}
use Rattle.sets.specs.Sets.{◌∈◌}
use Rattle.sets.proofs.Besides.{with_itself, with_⊇, with_cases}
use Rattle.sets.proofs.Tests.{true→T}
use Rattle.bits.specs.Sets.{member, put_in}
use Rattle.bits.specs.Rows.{lowest_from}
use Rattle.bits.proofs.Least.{lowest_from_found, lowest_from_none}
use Rattle.bits.proofs.Laws.{member_of_zeros}
use Rattle.words.specs.Layout.{records_of, rules_of}
use Rattle.index.specs.Placed.{Placed, placed_of, Table}
use Rattle.index.proofs.Placed.{rule_in}
use Rattle.waiting.specs.declared.Order.{Order}
use Rattle.waiting.specs.Waiting.{number_for, Numbered, AllBelow, Woke, Stirred}
use Rattle.ranks.specs.Counted.{Counted}
use Rattle.ranks.proofs.Counted.{put_with, put_row}
use Rattle.ranks.proofs.Lines.{row_below}
use Rattle.waiting.proofs.Numbering.{at_most_1024_rules, number_of}
use Rattle.std.specs.Prelude.{Some, None}

-- what is found is not before the place where it is looked for, and below 1,024
module _ {h l : ℕ} (p : ℕ → Bool) (lt : h < 1024) (found : Some l ≡ lowest_from (1024 - h) h p) where
  pub found_from : h ≤ l
  found_from = (lowest_from_found (1024 - h) h l p (sym found)).from

  pub found_below : l < 1024
  found_below = let b = (lowest_from_found (1024 - h) h l p (sym found)).below in omega arith

-- the records of the heads in a row wait
module _ (o : Order) (woken : List ℕ) where
  pub woke_none : {w : List ℕ} → length w ≡ 16 → Woke o woken 0 0 w w
  woke_none r = record { row = r; more = λ j m. m; heads = λ x a b. absurd (omega arith); only = λ j m. inl m }

  pub woke_on : {h k : ℕ} {w w₁ w₂ : List ℕ} → Woke o woken 0 h w w₁ → Woke o woken h k w₁ w₂ → Woke o woken 0 k w w₂
  woke_on {h} p q =
      record {
        row = q.row;
        more = λ j m. q.more j (p.more j m);
        heads = λ x a b m. elim (native.Mathlib.Decide.dec_lt x h) [
          | yes lt ↦ q.more (number_for o x) (p.heads x a lt m)
          | no ge ↦ q.heads x (omega arith) b m
        ];
        only = λ j m. ⊎_elim (p.only j) inr (q.only j m);
      }

  pub woke_all : {h : ℕ} {w w' : List ℕ} → 1024 ≤ h → Woke o woken 0 h w w' → Woke o woken 0 1024 w w'
  woke_all le p = record { row = p.row; more = p.more; heads = λ x a b m. p.heads x a (omega arith) m; only = p.only }

  module _ (h : ℕ) (lt : h < 1024) {w : List ℕ} (row : length w ≡ 16) where
    pub woke_next : {l n : ℕ} {w' : List ℕ} → ((x : ℕ) → T (member woken x) → number_for o x < 1024)
        → Some l ≡ lowest_from (1024 - h) h (member woken) → n ≡ number_for o l → w' ≡ put_in w n → Woke o woken h (l + 1) w w'
    woke_next {l} {n} {w'} small found number put =
        let q = lowest_from_found (1024 - h) h l (member woken) (sym found) in
        let waits = true→T (member woken l) q.passes in
        let fits : n < 1024 = rw number (small l waits) in
        let e = put_with w n row fits put in
        record {
          row = put_row w n row fits put;
          more = λ j m. rw e (with_⊇ (member w) n j m);
          heads = λ x a b m. elim (ℕ_discrete x l) [
            | yes same ↦ subst⁻¹ (λ (k : ℕ). T (member w' k)) (ap (number_for o) same ∙ sym number) (rw e (with_itself (member w) n))
            | no other ↦ absurd (subst T (q.none_before x a (omega arith)) m)
          ];
          only = λ j m.
              ⊎_elim (λ (same : j ≡ n). inr (l, waits, sym (same ∙ number))) inl
              (with_cases (member w) n j (subst (λ (S : ℕ → Bool). T (S j)) e m));
        }

    pub woke_last : None ≡ lowest_from (1024 - h) h (member woken) → Woke o woken h 1024 w w
    woke_last found =
        record {
          row = row;
          more = λ j m. m;
          heads = λ x a b m. absurd (subst T (lowest_from_none (1024 - h) h (member woken) (sym found) x a (omega arith)) m);
          only = λ j m. inl m;
        }

-- both, one after the other
module _ {t : List ℕ} {o : Order} {s s' woken counts' : List ℕ} (numbered : Numbered t o) (counted : Counted t s s' (replicate 16 0) woken counts') where
  -- the heads are those of records
  woken_numbers : (h : ℕ) → T (member woken h) → number_for o h < length (rules_of t)
  woken_numbers h m =
      ⊎_elim (λ (k : T (member (replicate 16 0) h)). absurd (subst T (member_of_zeros 16 h) k))
      (λ (q : (γ : Placed) × (γ ∈ placed_of t) × (γ.head ≡ h)).
      let r = rule_in 0 (records_of t) q.0 q.1 in
      subst (λ (x : ℕ). number_for o x < length (rules_of t)) (r.head ∙ q.2) (number_of t o numbered r.rule r.one).below)
      (counted.sound h m)

  pub woken_small : Table t → (h : ℕ) → T (member woken h) → number_for o h < 1024
  woken_small table h m = let k = woken_numbers h m in let few = at_most_1024_rules t table in omega arith

  pub stirred : {w w' : List ℕ} → Woke o woken 0 1024 w w' → Stirred t o s s' w w' counts'
  stirred {w} woke =
      record {
        counts = counted.counts;
        row = woke.row;
        more = woke.more;
        whole = λ γ m k.
            ⊎_elim inl (λ (h : T (member woken γ.head)). inr (woke.heads γ.head (omega arith) (row_below woken counted.row γ.head h) h))
            (counted.whole γ m k);
        only = λ j m.
            ⊎_elim inl (λ (q : (x : ℕ) × T (member woken x) × (number_for o x ≡ j)).
            inr (subst (λ (i : ℕ). i < length (rules_of t)) q.2 (woken_numbers q.0 q.1))) (woke.only j m);
      }

-- a row with all numbers below n
pub none_below : AllBelow 0 (replicate 16 0)
none_below =
    record { row = length-replicate {A = ℕ} 16 0; each = λ j lt. absurd (omega arith); only = λ j m. absurd (subst T (member_of_zeros 16 j) m) }

pub one_more_below : {i : ℕ} {w w' : List ℕ} → i < 1024 → AllBelow i w → w' ≡ put_in w i → AllBelow (i + 1) w'
one_more_below {i} {w} lt all put =
    let e = put_with w i all.row lt put in
    record {
      row = put_row w i all.row lt put;
      each = λ j less. elim (ℕ_discrete j i) [
        | yes same ↦ rw (same, e) (with_itself (member w) i)
        | no other ↦ rw e (with_⊇ (member w) i j (all.each j (omega arith)))
      ];
      only = λ j m.
          ⊎_elim (λ (same : j ≡ i). omega arith) (λ (k : T (member w j)). let less = all.only j k in omega arith)
          (with_cases (member w) i j (subst (λ (S : ℕ → Bool). T (S j)) e m));
    }
