-- From an accepted walk to the records whose words it has read.
use mathlib.Core.Path.{◌≡◌, refl, sym, ap, ap₂, ◌∙◌, subst}
use mathlib.Core.Logic.{⊎_elim}
use mathlib.Core.List.Memᴰ
use mathlib.Core.List.{List, [], ◌∷◌, ◌++◌, append_assoc}
use mathlib.Core.Bool.{Bool, false, not, ◌&&◌}
use Prim.Native.Nat.{ℕ, zero, suc, ◌*◌, ◌≤◌, ◌<◌}
use native.Mathlib.Nat.{not-suc-le-zero}
use native.Mathlib.Omega.{arith}
use lib.Dec.{ltb, leb}
use lib.ListN.{length, length-append}
use borrow.Author.Tests.{ltb-true, leb-true, not-true}
use Rattle.sets.proofs.Tests.{and_both}
use Rattle.sets.specs.Sets.{◌∈◌, ◌with◌}
use Rattle.refusal.specs.Numbers.{cut_short, out_of_range, second_rule}
use Rattle.words.specs.declared.Due.TheVariants.{Head, Line, Count}
use Rattle.words.specs.Layout.{TableRecord, groups_words, words_of}
use Rattle.refusal.specs.Checks.{asking}
use Rattle.words.specs.Check.{code_fault, range_fault, fault, groups_due, literals_due, walk}
use Rattle.words.specs.Within.{GroupWithin}
use Rattle.refusal.proofs.Laws.{refused≢accepted, asking_accepted, or_else_accepted}
use Rattle.words.proofs.Steps.{head_below}
use Rattle.words.proofs.Good.{Good}
use Rattle.std.specs.Prelude.{Ok}

literal_below : (N p w : ℕ) → code_fault N p w ≡ Ok tt → w < 2 * N
literal_below N p w e = ltb-true w (2 * N) (asking_accepted (ltb w (2 * N)) _ (Ok tt) e).0

in_range : (least most p w : ℕ) → range_fault least most p w ≡ Ok tt → (least ≤ w) × (w ≤ most)
in_range least most p w e =
    let both = and_both (leb least w) (leb w most) (asking_accepted (leb least w && leb w most) (out_of_range p) (Ok tt) e).0 in
    (leb-true least w both.0, leb-true w most both.1)

head_unseen : (N : ℕ) (seen : ℕ → Bool) (p w : ℕ) → fault N seen Head p w ≡ Ok tt → seen w ≡ false
head_unseen N seen p w e =
    not-true (seen w)
    (asking_accepted (not (seen w)) (second_rule p) (Ok tt)
    (or_else_accepted (code_fault N p w) (asking (not (seen w)) (second_rule p) (Ok tt)) e).1).0

group_cons : (N l : ℕ) (β : List ℕ) → l < 2 * N → ((x : ℕ) → x ∈ β → x < 2 * N) → (x : ℕ) → x ∈ l ∷ β → x < 2 * N
group_cons N l β h hs x m = ⊎_elim (λ (e : x ≡ l). subst (λ (y : ℕ). y < 2 * N) (sym e) h) (hs x) (Memᴰ.cases_cons m)

body_cons : (N : ℕ) (β : List ℕ) (βs : List (List ℕ)) → GroupWithin N β → ((γ : List ℕ) → γ ∈ βs → GroupWithin N γ)
    → (γ : List ℕ) → γ ∈ β ∷ βs → GroupWithin N γ
body_cons N β βs h hs γ m = ⊎_elim (λ (e : γ ≡ β). subst (GroupWithin N) (sym e) h) (hs γ) (Memᴰ.cases_cons m)

record Literals (N : ℕ) (seen : ℕ → Bool) (k g : ℕ) (t : List ℕ) : Type 0 where
  β : List ℕ
  rest : List ℕ
  place : ℕ
  split : t ≡ β ++ rest
  size : length β ≡ k
  below : (l : ℕ) → l ∈ β → l < 2 * N
  goes_on : walk N seen (groups_due g) place rest ≡ Ok tt

literals : (N : ℕ) (seen : ℕ → Bool) (k g p : ℕ) (t : List ℕ) → walk N seen (literals_due k g) p t ≡ Ok tt → Literals N seen k g t
unfolding walk
literals N seen zero g p t e =
    record { β = []; rest = t; place = p; split = refl; size = refl; below = λ l m. absurd (Memᴰ.not-nil m); goes_on = e }
literals N seen (suc k) g p [] e = absurd (refused≢accepted _ e)
literals N seen (suc k) g p (w ∷ t) e =
    let both = or_else_accepted _ _ e in
    let ih = literals N seen k g (suc p) t both.1 in
    record {
      β = w ∷ ih.β;
      rest = ih.rest;
      place = ih.place;
      split = ap (λ (u : List ℕ). w ∷ u) ih.split;
      size = ap suc ih.size;
      below = group_cons N w ih.β (literal_below N p w both.0) ih.below;
      goes_on = ih.goes_on;
    }

record Groups (N : ℕ) (seen : ℕ → Bool) (g : ℕ) (t : List ℕ) : Type 0 where
  βs : List (List ℕ)
  rest : List ℕ
  place : ℕ
  split : t ≡ groups_words βs ++ rest
  size : length βs ≡ g
  each : (β : List ℕ) → β ∈ βs → GroupWithin N β
  goes_on : walk N seen Head place rest ≡ Ok tt

groups : (N : ℕ) (seen : ℕ → Bool) (g p : ℕ) (t : List ℕ) → walk N seen (groups_due g) p t ≡ Ok tt → Groups N seen g t
unfolding walk groups_words
groups N seen zero p t e =
    record { βs = []; rest = t; place = p; split = refl; size = refl; each = λ β m. absurd (Memᴰ.not-nil m); goes_on = e }
groups N seen (suc g) p [] e = absurd (refused≢accepted _ e)
groups N seen (suc g) p (k ∷ t) e =
    let both = or_else_accepted _ _ e in
    let sizes = in_range 1 64 p k both.0 in
    let one = literals N seen k g (suc p) t both.1 in
    let ih = groups N seen g one.place one.rest one.goes_on in
    record {
      βs = one.β ∷ ih.βs;
      rest = ih.rest;
      place = ih.place;
      split = ap₂ (λ (x : ℕ) (u : List ℕ). x ∷ u) (sym one.size)
          (one.split ∙ ap (λ (u : List ℕ). one.β ++ u) ih.split ∙ sym (append_assoc one.β (groups_words ih.βs) ih.rest));
      size = ap suc ih.size;
      each = body_cons N one.β ih.βs
          (record { not_empty = omega (arith, one.size); at_most_64 = omega (arith, one.size); literals_below_lem = one.below }) ih.each;
      goes_on = ih.goes_on;
    }

-- head, line, number of groups, groups, and the words of the other records
record_words_lem : (w x m : ℕ) (t : List ℕ) (βs : List (List ℕ)) (rest : List ℕ) (Q : List TableRecord)
    → length βs ≡ m → t ≡ groups_words βs ++ rest → rest ≡ words_of Q
    → w ∷ x ∷ m ∷ t ≡ words_of (record { line = x; rule = record { head = w; groups = βs } } ∷ Q)
unfolding words_of
record_words_lem w x m t βs rest Q size split more =
    ap₂ (λ (y : ℕ) (u : List ℕ). w ∷ x ∷ y ∷ u) (sym size) (split ∙ ap (λ (u : List ℕ). groups_words βs ++ u) more)

pub record Records (N : ℕ) (seen : ℕ → Bool) (t : List ℕ) : Type 0 where
  pub Q : List TableRecord
  pub split : t ≡ words_of Q
  pub good : Good N seen Q

pub records : (N : ℕ) (seen : ℕ → Bool) (n p : ℕ) (t : List ℕ) → length t ≤ n → walk N seen Head p t ≡ Ok tt → Records N seen t
unfolding walk words_of
records N seen zero p [] h e = record { Q = []; split = refl; good = tt }
records N seen (suc n) p [] h e = record { Q = []; split = refl; good = tt }
records N seen zero p (w ∷ t) h e = absurd (not-suc-le-zero h)
records N seen (suc n) p (w ∷ []) h e =
    absurd (refused≢accepted (cut_short (suc p)) (or_else_accepted (fault N seen Head p w) (walk N (seen with w) Line (suc p) []) e).1)
records N seen (suc n) p (w ∷ x ∷ []) h e =
    let first = or_else_accepted (fault N seen Head p w) (walk N (seen with w) Line (suc p) (x ∷ [])) e in
    absurd (refused≢accepted (cut_short (suc (suc p)))
    (or_else_accepted (fault N (seen with w) Line (suc p) x) (walk N (seen with w) Count (suc (suc p)) []) first.1).1)
records N seen (suc n) p (w ∷ x ∷ m ∷ t) h e =
    let seen' = seen with w in
    let first = or_else_accepted (fault N seen Head p w) (walk N seen' Line (suc p) (x ∷ m ∷ t)) e in
    let second = or_else_accepted (fault N seen' Line (suc p) x) (walk N seen' Count (suc (suc p)) (m ∷ t)) first.1 in
    let third = or_else_accepted (fault N seen' Count (suc (suc p)) m) (walk N seen' (groups_due m) (suc (suc (suc p))) t) second.1 in
    let body = groups N seen' m (suc (suc (suc p))) t third.1 in
    let ih = records N seen' n body.place body.rest
    (omega (arith, ap length body.split, length-append (groups_words body.βs) body.rest)) body.goes_on in
    record {
      Q = record { line = x; rule = record { head = w; groups = body.βs } } ∷ ih.Q;
      split = record_words_lem w x m t body.βs body.rest ih.Q body.size body.split ih.split;
      good = (
        head_below N seen p w first.0,
        head_unseen N seen p w first.0,
        (in_range 0 32768 (suc p) x second.0).1,
        record { at_most_64 = omega (arith, body.size, (in_range 0 64 (suc (suc p)) m third.0).1); each_group = body.each },
        ih.good,
      );
    }
