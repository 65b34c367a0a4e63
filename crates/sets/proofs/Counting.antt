-- Counting the members of a set below N. Assumes nothing.
use mathlib.Core.Bool.{Bool, true, false, not, cond}
use mathlib.Core.Logic.{◌⊎◌, inl, inr, ⊎_elim}
use mathlib.Core.Path.{◌≡◌, refl, subst⁻¹, ap, ◌∙◌}
use Prim.Native.Nat.{ℕ, zero, suc, ◌≤◌, ◌<◌, ◌+◌}
use native.Mathlib.Nat.{add-zero, add-suc}
use native.Mathlib.Omega.{arith}
use lib.Dec.{T, T_not, eqb, eqb→eq, eqb_refl}
use Rattle.sets.specs.Sets.{count, ◌with◌}
use Rattle.sets.proofs.Tests.{either, T→true, not→false, refuted→false}
use Rattle.sets.proofs.Besides.{with_⊆}

-- equal sets below N have equal counts
pub count_≡ : (N : ℕ) (S S' : ℕ → Bool) → ((a : ℕ) → a < N → S a ≡ S' a) → count N S ≡ count N S'
unfolding count
count_≡ zero S S' f = refl
count_≡ (suc n) S S' f = rw (f n (omega arith), count_≡ n S S' (λ a h. f a (omega arith)))

pub count≤ : (N : ℕ) (S : ℕ → Bool) → count N S ≤ N
unfolding count
count≤ zero S = omega arith
count≤ (suc n) S = go (S n) (count≤ n S)
  where
    go : (b : Bool) → count n S ≤ n → cond b (suc (count n S)) (count n S) ≤ suc n
    go true h = omega arith
    go false h = omega arith

-- no members
pub count_none : (N : ℕ) (S : ℕ → Bool) → ((a : ℕ) → a < N → T (not (S a))) → count N S ≡ 0
unfolding count
count_none zero S f = refl
count_none (suc n) S f = rw (not→false (S n) (f n (omega arith))) (count_none n S (λ a h. f a (omega arith)))

-- the members below N, and those among the m numbers from N on
pub count_add : (N m : ℕ) (S : ℕ → Bool) → count (N + m) S ≡ count N S + count m (λ a. S (N + a))
unfolding count
count_add N zero S = omega (arith, ap (λ (x : ℕ). count x S) (add-zero N))
count_add N (suc m) S = ap (λ (x : ℕ). count x S) (add-suc N m) ∙ go (S (N + m)) (count_add N m S)
  where
    go : (b : Bool) → count (N + m) S ≡ count N S + count m (λ a. S (N + a))
        → cond b (suc (count (N + m) S)) (count (N + m) S) ≡ count N S + cond b (suc (count m (λ a. S (N + a)))) (count m (λ a. S (N + a)))
    go true e = omega arith
    go false e = e

-- as many as there are: all
pub count_full : (N : ℕ) (S : ℕ → Bool) → N ≤ count N S → (a : ℕ) → a < N → T (S a)
unfolding count
count_full zero S h a lt = absurd (omega arith)
count_full (suc n) S h a lt = go (S n) refl h (λ k b l. count_full n S k b l)
  where
    go : (c : Bool) → S n ≡ c → suc n ≤ cond c (suc (count n S)) (count n S) → (n ≤ count n S → (b : ℕ) → b < n → T (S b)) → T (S a)
    go true e k below =
        ⊎_elim (λ (q : T (eqb a n)). rw (eqb→eq a n q, e) tt)
        (λ (q : T (not (eqb a n))).
        let ne : (a ≡ n → ⊥) = λ p. T_not (eqb a n) q (subst⁻¹ (λ (z : ℕ). T (eqb z n)) p (eqb_refl n)) in
        below (omega arith) a (omega arith))
        (either (eqb a n))
    go false e k below = let b = count≤ n S in absurd (omega arith)

-- a mark at N or above is not counted
count_with_above : (N : ℕ) (S : ℕ → Bool) (a : ℕ) → N ≤ a → count N (S with a) ≡ count N S
count_with_above N S a h =
    count_≡ N (S with a) S (λ b lt. rw (refuted→false (eqb b a) (λ t. let e = eqb→eq b a t in absurd (omega arith))))

-- all of them are counted
pub count_all : (N : ℕ) (S : ℕ → Bool) → ((a : ℕ) → a < N → T (S a)) → count N S ≡ N
unfolding count
count_all zero S all = refl
count_all (suc n) S all =
    ap (λ (b : Bool). cond b (suc (count n S)) (count n S)) (T→true (S n) (all n (omega arith))) ∙ ap suc (count_all n S (λ a lt. all a (omega arith)))

-- one more member
pub count_with : (N : ℕ) (S : ℕ → Bool) (a : ℕ) → a < N → T (not (S a)) → count N (S with a) ≡ suc (count N S)
unfolding count
count_with zero S a h u = absurd (omega arith)
count_with (suc n) S a h u = go (either (eqb n a)) (λ lt. count_with n S a lt u)
  where
    go : T (eqb n a) ⊎ T (not (eqb n a)) → (a < n → count n (S with a) ≡ suc (count n S))
        → cond ((S with a) n) (suc (count n (S with a))) (count n (S with a)) ≡ suc (cond (S n) (suc (count n S)) (count n S))
    go (inl q) below =
        let e = eqb→eq n a q in
        let f : S n ≡ false = not→false (S n) (rw e u) in
        rw (T→true (eqb n a) q, f) (ap suc (count_with_above n S a (omega arith)))
    go (inr q) below =
        let ne : (n ≡ a → ⊥) = λ p. T_not (eqb n a) q (subst⁻¹ (λ (z : ℕ). T (eqb z a)) p (eqb_refl a)) in
        rw (not→false (eqb n a) q, below (omega arith)) (two (S n))
      where
        two : (b : Bool) → cond b (suc (suc (count n S))) (suc (count n S)) ≡ suc (cond b (suc (count n S)) (count n S))
        two true = refl
        two false = refl

-- more members, no smaller count
pub count_mono : (N : ℕ) (S S' : ℕ → Bool) → ((a : ℕ) → a < N → T (S a) → T (S' a)) → count N S ≤ count N S'
unfolding count
count_mono zero S S' f = omega arith
count_mono (suc n) S S' f = go (S n) (S' n) (f n (omega arith)) (count_mono n S S' (λ a h. f a (omega arith)))
  where
    go : (b c : Bool) → (T b → T c) → count n S ≤ count n S' → cond b (suc (count n S)) (count n S) ≤ cond c (suc (count n S')) (count n S')
    go true true g h = omega arith
    go true false g h = absurd (g tt)
    go false true g h = omega arith
    go false false g h = omega arith

-- one member more at the least, a larger count
pub count_less : (N : ℕ) (S S' : ℕ → Bool) → ((a : ℕ) → T (S a) → T (S' a))
    → (a : ℕ) → a < N → T (not (S a)) → T (S' a) → count N S < count N S'
count_less N S S' s a h u m =
    let e = count_with N S a h u in
    let k = count_mono N (S with a) S' (λ b lt x. with_⊆ S S' a s m b x) in
    omega arith
