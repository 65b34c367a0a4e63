-- A settled marking is found by computation: mark the first atom that can be marked, until there is none. Assumes nothing.
use mathlib.Core.Bool.{Bool, true, false, not, cond, ◌&&◌, ◌||◌}
use mathlib.Core.List.Memᴰ
use mathlib.Core.List.{List, [], ◌∷◌}
use mathlib.Core.Logic.{◌⊎◌, inl, inr, ⊎_elim}
use mathlib.Core.Path.{◌≡◌, refl, subst⁻¹}
use Prim.Native.Nat.{ℕ, zero, suc, ◌≤◌, ◌<◌, ◌+◌, max}
use native.Mathlib.Omega.{arith}
use lib.Dec.{T, T_not}
use Rattle.paper.specs.Rules.{Rule, HeadsBelow, atom, positive, negative}
use Rattle.sets.specs.Sets.{◌∈◌, ◌with◌, count}
use Rattle.paper.specs.Marking.{Marks, Held, HeldNotClean, CanBeMarked, Settled, Marking, none, one_more, no_marks, Pass, end, marks, leaves, Passes, no_pass, then_pass, Marked}
use Rattle.sets.proofs.Tests.{either, and_intro, and_left, and_right, or_left, or_right, or_cases}
use Rattle.paper.proofs.Closure.{held_set, held_set_is, clean_set, clean_set_is}
use Rattle.sets.proofs.Counting.{count_full, count_less}
use Rattle.paper.proofs.Order.{marking_count, can_be_marked_below, all_marked→settled, pass_⊇, pass_marks}

-- held and not clean, as a test
abbrev held_not_clean : List Rule → Marks → ℕ → Bool
held_not_clean R A l = held_set R A l && not (clean_set R A l)

-- can be marked, as a test
abbrev pub can_be_marked : List Rule → Marks → ℕ → Bool
can_be_marked R A a =
    not (A a) && (held_set R A (positive a) && held_set R A (negative a) || (held_not_clean R A (positive a) || held_not_clean R A (negative a)))

module _ (R : List Rule) (A : Marks) where
  held_not_clean→ : (l : ℕ) → T (held_not_clean R A l) → HeldNotClean R A l
  held_not_clean→ l h = (
    (held_set_is R A l).0 (and_left (held_set R A l) (not (clean_set R A l)) h),
    λ c. T_not (clean_set R A l) (and_right (held_set R A l) (not (clean_set R A l)) h) ((clean_set_is R A l).1 c),
  )

  →held_not_clean : (l : ℕ) → HeldNotClean R A l → T (held_not_clean R A l)
  →held_not_clean l h =
      and_intro (held_set R A l) (not (clean_set R A l)) ((held_set_is R A l).1 h.0)
      (lib.Dec.not_T (clean_set R A l) (λ c. h.1 ((clean_set_is R A l).0 c)))

  pub can_be_marked→ : (a : ℕ) → T (can_be_marked R A a) → CanBeMarked R A a
  can_be_marked→ a h =
      let p : ℕ = positive a in
      let n : ℕ = negative a in
      let b = and_right (not (A a)) (held_set R A p && held_set R A n || (held_not_clean R A p || held_not_clean R A n)) h in
      record {
        unmarked = and_left (not (A a)) (held_set R A p && held_set R A n || (held_not_clean R A p || held_not_clean R A n)) h;
        because =
            ⊎_elim
            (λ (x : T (held_set R A p && held_set R A n)).
            inl ((held_set_is R A p).0 (and_left (held_set R A p) (held_set R A n) x), (held_set_is R A n).0 (and_right (held_set R A p) (held_set R A n) x)))
            (λ (x : T (held_not_clean R A p || held_not_clean R A n)).
            inr (⊎_elim (λ (y : T (held_not_clean R A p)). inl (held_not_clean→ p y)) (λ (y : T (held_not_clean R A n)). inr (held_not_clean→ n y))
            (or_cases (held_not_clean R A p) (held_not_clean R A n) x)))
            (or_cases (held_set R A p && held_set R A n) (held_not_clean R A p || held_not_clean R A n) b);
      }

  pub →can_be_marked : (a : ℕ) → CanBeMarked R A a → T (can_be_marked R A a)
  →can_be_marked a c =
      let p : ℕ = positive a in
      let n : ℕ = negative a in
      and_intro (not (A a)) (held_set R A p && held_set R A n || (held_not_clean R A p || held_not_clean R A n)) c.unmarked
      (⊎_elim
      (λ (x : Held R A p × Held R A n).
      or_left (held_set R A p && held_set R A n) (held_not_clean R A p || held_not_clean R A n)
      (and_intro (held_set R A p) (held_set R A n) ((held_set_is R A p).1 x.0) ((held_set_is R A n).1 x.1)))
      (λ (x : HeldNotClean R A p ⊎ HeldNotClean R A n).
      or_right (held_set R A p && held_set R A n) (held_not_clean R A p || held_not_clean R A n)
      (⊎_elim (λ (y : HeldNotClean R A p). or_left (held_not_clean R A p) (held_not_clean R A n) (→held_not_clean p y))
      (λ (y : HeldNotClean R A n). or_right (held_not_clean R A p) (held_not_clean R A n) (→held_not_clean n y)) x))
      c.because)

-- an atom below N that passes a test, if there is one
pub data Found : Type 0 where
  nowhere : Found
  found : ℕ → Found

abbrev search : (ℕ → Bool) → ℕ → Found
search test zero = nowhere
search test (suc n) = cond (test n) (found n) (search test n)

FoundIs : (ℕ → Bool) → ℕ → Found → Type 0
FoundIs test N nowhere = (a : ℕ) → a < N → T (not (test a))
FoundIs test N (found a) = T (test a)

search_is : (test : ℕ → Bool) (N : ℕ) → FoundIs test N (search test N)
unfolding FoundIs
search_is test zero = λ a h. absurd (omega arith)
search_is test (suc n) = go (test n) refl (search test n) (search_is test n)
  where
    widen : (f : Found) → T (not (test n)) → FoundIs test n f → FoundIs test (suc n) f
    widen nowhere t h =
        λ a lt. ⊎_elim (λ (q : T (lib.Dec.eqb a n)). rw (lib.Dec.eqb→eq a n q) t)
        (λ (q : T (not (lib.Dec.eqb a n))).
        let ne : (a ≡ n → ⊥) = λ p. T_not (lib.Dec.eqb a n) q (subst⁻¹ (λ (z : ℕ). T (lib.Dec.eqb z n)) p (lib.Dec.eqb_refl n)) in
        h a (omega arith))
        (either (lib.Dec.eqb a n))
    widen (found a) t h = h

    go : (b : Bool) → test n ≡ b → (f : Found) → FoundIs test n f → FoundIs test (suc n) (cond b (found n) f)
    go true e f h = rw e tt
    go false e f h = widen f (rw e tt) h

abbrev and_on : (Marks → Marks) → Marks → Found → Marks
and_on k A nowhere = A
and_on k A (found a) = k (A with a)

-- at most `fuel` marks
abbrev settle : List Rule → ℕ → ℕ → Marks → Marks
settle R N zero A = A
settle R N (suc fuel) A = and_on (λ B. settle R N fuel B) A (search (can_be_marked R A) N)

-- the settled marking of N atoms
abbrev pub settled_marks : List Rule → ℕ → Marks
settled_marks R N = settle R N N no_marks

module _ (R : List Rule) (N : ℕ) (below : HeadsBelow N R) where
  settle_is : (fuel n : ℕ) (A : Marks) → Marking R n A → N ≤ n + fuel
      → (m : ℕ) × Marking R m (settle R N fuel A) × Settled R (settle R N fuel A)
  unfolding FoundIs
  settle_is zero n A k h =
      (n, k, all_marked→settled R N below A (count_full N A (let e = marking_count R N below k in omega arith)))
  settle_is (suc fuel) n A k h = go (search (can_be_marked R A) N) (search_is (can_be_marked R A) N) (λ m B k' h'. settle_is fuel m B k' h')
    where
      go : (f : Found) → FoundIs (can_be_marked R A) N f
          → ((m : ℕ) (B : Marks) → Marking R m B → N ≤ m + fuel
          → (m' : ℕ) × Marking R m' (settle R N fuel B) × Settled R (settle R N fuel B))
          → (m : ℕ) × Marking R m (and_on (λ B. settle R N fuel B) A f) × Settled R (and_on (λ B. settle R N fuel B) A f)
      go nowhere w next =
          (n, k, λ a c. T_not (can_be_marked R A a) (w a (can_be_marked_below R N below A a c)) (→can_be_marked R A a c))
      go (found a) w next = next (suc n) (A with a) (one_more a k (can_be_marked→ R A a w)) (omega arith)

  pub settled_marks_is : (m : ℕ) × Marking R m (settled_marks R N) × Settled R (settled_marks R N)
  settled_marks_is = settle_is N 0 no_marks none (omega arith)

-- atoms enough for a list of rules
unfoldable pub atoms_of : List Rule → ℕ
atoms_of [] = 0
atoms_of (ρ ∷ R) = max (suc (atom ρ.head)) (atoms_of R)

pub atoms_of_enough : (R : List Rule) → HeadsBelow (atoms_of R) R
unfolding atoms_of
atoms_of_enough [] ρ m = absurd (Memᴰ.not-nil m)
atoms_of_enough (σ ∷ R) ρ m =
    ⊎_elim (λ (e : ρ ≡ σ). rw e (omega arith)) (λ (k : ρ ∈ R). let h = atoms_of_enough R ρ k in omega arith) (Memᴰ.cases_cons m)

-- settled, or an atom that can be marked is at hand
module _ (R : List Rule) (N : ℕ) (below : HeadsBelow N R) where
  pub settled_or_one : (A : Marks) → Settled R A ⊎ ((a : ℕ) × CanBeMarked R A a)
  unfolding FoundIs
  settled_or_one A = go (search (can_be_marked R A) N) (search_is (can_be_marked R A) N)
    where
      go : (f : Found) → FoundIs (can_be_marked R A) N f → Settled R A ⊎ ((a : ℕ) × CanBeMarked R A a)
      go nowhere w = inl (λ a c. T_not (can_be_marked R A a) (w a (can_be_marked_below R N below A a c)) (→can_be_marked R A a c))
      go (found a) w = inr (a, can_be_marked→ R A a w)

  -- until settled a pass over all atoms marks at least one
  pub pass_marks_one : (A B : Marks) (l : List ℕ) → ((a : ℕ) → a < N → a ∈ l)
      → (Settled R A → ⊥) → Pass R A l B → (a : ℕ) × CanBeMarked R A a × Marked B a
  pass_marks_one A B l all n p =
      ⊎_elim (λ (s : Settled R A). absurd (n s))
      (λ (x : (a : ℕ) × CanBeMarked R A a). (x.0, x.1, pass_marks R p x.0 (all x.0 (can_be_marked_below R N below A x.0 x.1)) x.1))
      (settled_or_one A)

  settled_stays : {A B : Marks} {l : List ℕ} → Pass R A l B → Settled R A → Settled R B
  settled_stays end s = s
  settled_stays (marks {a = a} c p) s = absurd (s a c)
  settled_stays (leaves c p) s = settled_stays p s

  passes_count : {k : ℕ} {A B : Marks} → Passes R N k A B → Settled R B ⊎ (k ≤ count N B)
  passes_count no_pass = inr (omega arith)
  passes_count (then_pass {k = k} {B = B} {C = C} l ps all p) =
      ⊎_elim (λ (s : Settled R B). inl (settled_stays p s))
      (λ (h : k ≤ count N B).
      ⊎_elim (λ (s : Settled R B). inl (settled_stays p s))
      (λ (x : (a : ℕ) × CanBeMarked R B a).
      let lt = can_be_marked_below R N below B x.0 x.1 in
      let q = count_less N B C (pass_⊇ R p) x.0 lt x.1.unmarked (pass_marks R p x.0 (all x.0 lt) x.1) in
      inr (omega arith))
      (settled_or_one B))
      (passes_count ps)

  -- N passes settle
  pub passes_settle : {A B : Marks} → Passes R N N A B → Settled R B
  passes_settle {B = B} ps =
      ⊎_elim (λ (s : Settled R B). s) (λ (h : N ≤ count N B). all_marked→settled R N below B (count_full N B h)) (passes_count ps)
