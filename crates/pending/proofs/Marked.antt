-- Held and Clean as closures: Held starts with facts and marked literals, Clean with the facts alone. Assumes nothing.
use mathlib.Core.Bool.{Bool, true, false, not, ◌&&◌, ◌||◌, or-false, or-true}
use mathlib.Core.List.{List}
use mathlib.Core.Logic.{◌⊎◌, inl, inr, ⊎_elim}
use mathlib.Core.Path.{◌≡◌, refl, sym, ap, ◌∙◌, subst, subst⁻¹}
use Prim.Native.Nat.{ℕ, ◌+◌, ◌≤◌, ◌<◌}
use native.Mathlib.Omega.{arith}
use native.Mathlib.Decide.{ℕ_discrete}
use lib.Dec.{T, ltb}
use lib.ListN.{length, get_or, replicate, length-replicate, get_or-replicate, get_or-eq_default}
use borrow.Author.Tests.{lt-ltb, le-ltb}
use Rattle.paper.specs.Rules.{atom, positive, negative}
use Rattle.paper.specs.Marking.{Marks, Marked, from_base, by_fact, by_group, Held, Clean, IsHeld, IsClean}
use Rattle.paper.proofs.Leasts.{least_contained}
use Rattle.sets.proofs.Counting.{count_none}
use Rattle.sets.proofs.Tests.{false→not, or_left, or_right, or_cases, same_tests→≡}
use Rattle.bits.specs.Sets.{member, put_in}
use Rattle.bits.proofs.Laws.{member_put_in_same, member_put_in_other, length_put_in, member_past, member_of_zeros}
use Rattle.words.specs.Layout.{rules_of}
use Rattle.index.specs.Placed.{Table}
use Rattle.index.specs.Index.{FactsOf}
use Rattle.index.proofs.Placed.{group_nonempty}
use Rattle.pending.specs.declared.Taking.{Taking}
use Rattle.pending.specs.Pending.{Whole, begun, CountsAre, due, Working, LeastOf, Closed, PairsOf, WithMarked, with_pair}

-- the marked atoms below a have their literals in the set
pub record Marking-below (A : Marks) (s s' : List ℕ) (a : ℕ) : Type 0 where
  pub length_same : length s' ≡ length s
  pub members : (l : ℕ) → member s' l ≡ (member s l || ltb (atom l) a && A (atom l))

pub marking_starts : (A : Marks) (s : List ℕ) → Marking-below A s s 0
marking_starts A s = record { length_same = refl; members = λ l. rw (le-ltb (atom l) 0 (omega arith)) (sym (or-false (member s l))) }

pub length_pair : (s : List ℕ) (a : ℕ) (b : Bool) → length (with_pair s a b) ≡ length s
length_pair s a true = length_put_in (put_in s (positive a)) (negative a) ∙ length_put_in s (positive a)
length_pair s a false = refl

pub marking_goes_on : (A : Marks) (s s₁ s₂ : List ℕ) (a : ℕ) → length s₁ ≡ 16 → a < 512
    → Marking-below A s s₁ a → s₂ ≡ with_pair s₁ a (A a) → Marking-below A s s₂ (a + 1)
marking_goes_on A s s₁ s₂ a len lt m e =
    record {
      length_same = ap length e ∙ length_pair s₁ a (A a) ∙ m.length_same;
      members = λ l. ap (λ (u : List ℕ). member u l) e ∙ pair l (A a) refl;
    }
  where
    same : (l : ℕ) → (atom l ≡ a → A a ≡ false) → member s₁ l ≡ (member s l || ltb (atom l) (a + 1) && A (atom l))
    same l f = m.members l ∙ elim (ℕ_discrete (atom l) a) [
      | yes p ↦ rw (p, f p) (ap (λ (x : Bool). member s l || x) (both (ltb a a) (ltb a (a + 1))))
      | no n ↦ ap (λ (x : Bool). member s l || x && A (atom l)) (same_tests→≡ (ltb (atom l) a) (ltb (atom l) (a + 1))
          (λ h. lib.Dec.lt→ltb (atom l) (a + 1) (let k = lib.Dec.ltb→lt (atom l) a h in omega arith))
          (λ h. lib.Dec.lt→ltb (atom l) a (let k = lib.Dec.ltb→lt (atom l) (a + 1) h in omega arith)))
    ]
      where
        both : (x y : Bool) → (x && false) ≡ (y && false)
        both true true = refl
        both true false = refl
        both false true = refl
        both false false = refl

    here : (l : ℕ) → atom l ≡ a → A a ≡ true → true ≡ (member s l || ltb (atom l) (a + 1) && A (atom l))
    here l p f = rw (p, f, lt-ltb a (a + 1) (omega arith)) (sym (or-true (member s l)))

    pair : (l : ℕ) (b : Bool) → A a ≡ b → member (with_pair s₁ a b) l ≡ (member s l || ltb (atom l) (a + 1) && A (atom l))
    pair l false f = same l (λ p. f)
    pair l true f =
        let len₂ : length (put_in s₁ (positive a)) ≡ 16 = length_put_in s₁ (positive a) ∙ len in
        elim (ℕ_discrete l (negative a)) [
          | yes p ↦ rw p (member_put_in_same (put_in s₁ (positive a)) (negative a) (omega arith) ∙ here (negative a) (omega arith) f)
          | no n ↦ member_put_in_other (put_in s₁ (positive a)) (negative a) l n ∙ elim (ℕ_discrete l (positive a)) [
            | yes p ↦ rw p (member_put_in_same s₁ (positive a) (omega arith) ∙ here (positive a) (omega arith) f)
            | no k ↦ member_put_in_other s₁ (positive a) l k ∙ same l (λ p. absurd (omega arith))
          ]
        ]

pub marking_ends : (s s' t : List ℕ) (a : ℕ) → length t ≡ 8 → 512 ≤ a → Marking-below (member t) s s' a → WithMarked (member t) s s'
marking_ends s s' t a len h m =
    record { length_same = m.length_same; members = λ l. m.members l ∙ ap (λ (x : Bool). member s l || x) (below l (ltb (atom l) a) refl) }
  where
    below : (l : ℕ) (b : Bool) → ltb (atom l) a ≡ b → (b && member t (atom l)) ≡ member t (atom l)
    below l true e = refl
    below l false e = sym (member_past t (atom l) (let k = borrow.Author.Tests.ltb-false (atom l) a e in omega arith))

-- nothing is taken yet, and nothing counted
pub none_counted : (t : List ℕ) → CountsAre t (member (replicate 16 0)) (replicate 8192 0)
none_counted t =
    record {
      room = length-replicate {A = ℕ} 8192 0;
      each = λ γ m. zeros γ.at ∙ sym (count_none (length γ.literals) _ (λ i lt. false→not _ (member_of_zeros 16 _)));
    }
  where
    zeros : (i : ℕ) → ◌≡◌ {A = ℕ} (get_or (replicate 8192 0) i 0) 0
    zeros i = by (ltb i 8192) refl
      where
        by : (b : Bool) → ltb i 8192 ≡ b → ◌≡◌ {A = ℕ} (get_or (replicate 8192 0) i 0) 0
        by true e = get_or-replicate {A = ℕ} 8192 i 0 0 (borrow.Author.Tests.ltb-true i 8192 e)
        by false e = get_or-eq_default (replicate 8192 0) 0 {n = i}
            (let k = borrow.Author.Tests.ltb-false i 8192 e in let r = length-replicate {A = ℕ} 8192 0 in omega arith)

-- facts are ready, and nothing is taken
pub working_starts : (t f ready shut : List ℕ) → Table t → FactsOf t f → length ready ≡ 16 → ((l : ℕ) → T (member f l) → T (member ready l))
    → Working t (begun ready) shut
working_starts t f ready shut table facts row more =
    record {
      taken_row = length-replicate {A = ℕ} 16 0;
      ready_row = row;
      counted = none_counted t;
      facts = λ h k. or_left (member ready h) (member (replicate 16 0) h || member shut h) (more h ((facts.facts h).1 k));
      groups = λ γ m w. absurd (let q = group_nonempty t table γ m in subst T (member_of_zeros 16 q.0) (w q.0 q.1));
    }

-- more may be pending
pub working_more : (t : List ℕ) (p p' : Taking) (shut : List ℕ) → p'.taken ≡ p.taken → p'.counts ≡ p.counts → length p'.ready ≡ 16
    → ((l : ℕ) → T (member p.ready l) → T (member p'.ready l)) → Working t p shut → Working t p' shut
working_more t p p' shut et ec row more w =
    record {
      taken_row = ap length et ∙ w.taken_row;
      ready_row = row;
      counted = subst⁻¹ (λ (u : List ℕ). CountsAre t (member u) p'.counts) et (subst⁻¹ (CountsAre t (member p.taken)) ec w.counted);
      facts = λ h f. still h (w.facts h f);
      groups = λ γ m k. still γ.head (w.groups γ m (subst (λ (u : List ℕ). Whole (member u) γ) et k));
    }
  where
    still : (h : ℕ) → T (due p shut h) → T (due p' shut h)
    still h k = ⊎_elim (λ (r : T (member p.ready h)). or_left (member p'.ready h) (member p'.taken h || member shut h) (more h r))
        (λ (r : T (member p.taken h || member shut h)). or_right (member p'.ready h) (member p'.taken h || member shut h)
        (subst⁻¹ (λ (u : List ℕ). T (member u h || member shut h)) et r))
        (or_cases (member p.ready h) (member p.taken h || member shut h) k)

-- what is taken and pending is held, the marked literals among it, and nothing is shut out: closed, it is Held
pub closed_held : (A : Marks) (t : List ℕ) (p : Taking) (shut : List ℕ) (p' : Taking) → ((l : ℕ) → member shut l ≡ false)
    → ((l : ℕ) → T (member p.taken l) → Held (rules_of t) A l) → ((l : ℕ) → T (member p.ready l) → Held (rules_of t) A l)
    → ((l : ℕ) → Marked A (atom l) → T (member p.taken l) ⊎ T (member p.ready l))
    → Closed t p shut p' → IsHeld (rules_of t) A (member p'.taken)
closed_held A t p shut p' none held held' marked c l = (
  (λ h. least_contained (Held (rules_of t) A) (λ x. ⊎_elim (held x) (λ (k : T (member p.ready x) × T (not (member shut x))). held' x k.0))
      (λ x ρ m e u n. by_fact ρ m e tt n) (λ x ρ β m e u g all. by_group ρ β m e tt g all) ((c.least l).0 h)),
  λ h. (c.least l).1 (least_contained (LeastOf t p shut)
      (λ x k. from_base (⊎_elim inl (λ (r : T (member p.ready x)). inr (r, allowed x)) (marked x k)))
      (λ x ρ m e u n. by_fact ρ m e (allowed x) n) (λ x ρ β m e u g all. by_group ρ β m e (allowed x) g all) h),
)
  where
    allowed : (x : ℕ) → T (not (member shut x))
    allowed x = false→not (member shut x) (none x)

-- facts are held
pub facts_held : (t f : List ℕ) (A : Marks) → FactsOf t f → (l : ℕ) → T (member f l) → Held (rules_of t) A l
facts_held t f A facts l h = let k = (facts.facts l).0 h in by_fact k.rule k.one k.head tt k.fact

-- put into an empty row, they are all that it has
pub marked_pairs : (A : Marks) (s' : List ℕ) → WithMarked A (replicate 16 0) s' → PairsOf s' A
marked_pairs A s' w l = w.members l ∙ ap (λ (b : Bool). b || A (atom l)) (member_of_zeros 16 l)

pub facts_ready : (A : Marks) (s s' : List ℕ) → WithMarked A s s' → (l : ℕ) → T (member s l) → T (member s' l)
facts_ready A s s' w l h = subst⁻¹ T (w.members l) (or_left (member s l) (A (atom l)) h)

-- from facts and marked literals
pub held_there : (A : Marks) (t f ready : List ℕ) (p' : Taking) → FactsOf t f → WithMarked A f ready
    → Closed t (begun ready) (replicate 16 0) p' → IsHeld (rules_of t) A (member p'.taken)
held_there A t f ready p' facts w c =
    closed_held A t (begun ready) (replicate 16 0) p' (member_of_zeros 16)
    (λ l h. absurd (subst T (member_of_zeros 16 l) h))
    (λ l h. ⊎_elim (facts_held t f A facts l) (λ (k : T (A (atom l))). from_base k) (or_cases (member f l) (A (atom l)) (subst T (w.members l) h)))
    (λ l k. inr (subst⁻¹ T (w.members l) (or_right (member f l) (A (atom l)) k))) c

-- from the facts alone, with the marked literals shut out
pub clean_there : (A : Marks) (t f shut : List ℕ) (p' : Taking) → FactsOf t f → PairsOf shut A
    → Closed t (begun f) shut p' → IsClean (rules_of t) A (member p'.taken)
clean_there A t f shut p' facts pairs c l = (
  (λ h. least_contained (Clean (rules_of t) A)
      (λ x. ⊎_elim (λ (k : T (member (replicate 16 0) x)). absurd (subst T (member_of_zeros 16 x) k))
      (λ (k : T (member f x) × T (not (member shut x))).
      let q = (facts.facts x).0 k.0 in by_fact q.rule q.one q.head (subst (λ (b : Bool). T (not b)) (pairs x) k.1) q.fact))
      (λ x ρ m e u n. by_fact ρ m e (subst (λ (b : Bool). T (not b)) (pairs x) u) n)
      (λ x ρ β m e u g all. by_group ρ β m e (subst (λ (b : Bool). T (not b)) (pairs x) u) g all) ((c.least l).0 h)),
  λ h. (c.least l).1 (least_contained (LeastOf t (begun f) shut) (λ x k. absurd k)
      (λ x ρ m e u n. by_fact ρ m e (subst⁻¹ (λ (b : Bool). T (not b)) (pairs x) u) n)
      (λ x ρ β m e u g all. by_group ρ β m e (subst⁻¹ (λ (b : Bool). T (not b)) (pairs x) u) g all) h),
)
