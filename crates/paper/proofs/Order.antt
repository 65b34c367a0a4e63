-- The order of marking never matters. Assumes nothing.
use mathlib.Core.Bool.{not}
use mathlib.Core.List.Memᴰ
use mathlib.Core.List.{List}
use mathlib.Core.Logic.{◌⊎◌, inl, inr, ⊎_elim}
use mathlib.Core.Path.{◌≡◌, refl, subst, ap, ◌∙◌}
use Prim.Native.Nat.{ℕ, suc, ◌<◌}
use native.Mathlib.Omega.{arith}
use lib.Dec.{T, T_not}
use Rattle.paper.specs.Table1.{Value, 𝐟, 𝐮, 𝐢, 𝐭, code}
use Rattle.paper.specs.Rules.{Rule, HeadsBelow, atom, positive, negative}
use Rattle.sets.specs.Sets.{◌∈◌, ◌⊆◌, ◌with◌, count}
use Rattle.paper.specs.Definitions.{Interpretation, value}
use Rattle.paper.specs.Marking.{Marks, Marked, Unmarked, from_base, by_fact, by_group, Held, HeldNotClean, CanBeMarked, Settled, Marking, none, one_more, no_marks, Pass, end, marks, leaves, IsHeld, is_inconsistent, inconsistent}
use Rattle.sets.proofs.Tests.{either, same_tests→≡}
use Rattle.paper.proofs.Leasts.{can_be_marked_mono, atom_positive, atom_negative}
use Rattle.sets.proofs.Besides.{with_⊇, with_⊆, with_itself}
use Rattle.sets.proofs.Counting.{count_with, count_none}
use Rattle.paper.proofs.Settled.{marked→𝐢, 𝐢→marked}
use Rattle.paper.proofs.Values.{2≤→member}

module _ (R : List Rule) where
  -- what was marked from none is marked in every settled marking
  pub marking⊆settled : {n : ℕ} {A : Marks} (B : Marks) → Marking R n A → Settled R B → A ⊆ B
  marking⊆settled B none s = λ a h. absurd h
  marking⊆settled B (one_more {A = A} a k c) s =
      let below : A ⊆ B = marking⊆settled B k s in
      with_⊆ A B a below
      (⊎_elim (λ (m : T (B a)). m) (λ (u : T (not (B a))). absurd (s a (can_be_marked_mono A B below a u c))) (either (B a)))

  -- two settled markings so reached are equal
  pub settled_equal : {n m : ℕ} (A B : Marks) → Marking R n A → Settled R A → Marking R m B → Settled R B → (a : ℕ) → A a ≡ B a
  settled_equal A B k s k' s' a = same_tests→≡ (A a) (B a) (marking⊆settled B k s' a) (marking⊆settled A k' s a)

  -- a pass keeps the marks
  pub pass_⊇ : {A B : Marks} {l : List ℕ} → Pass R A l B → A ⊆ B
  pass_⊇ end a h = h
  pass_⊇ (marks {A = A} {a = x} c p) a h = pass_⊇ p a (with_⊇ A x a h)
  pass_⊇ (leaves n p) a h = pass_⊇ p a h

  -- a pass marks each of its atoms that could be marked when it began
  pub pass_marks : {A B : Marks} {l : List ℕ} → Pass R A l B → (a : ℕ) → a ∈ l → CanBeMarked R A a → Marked B a
  pass_marks end a m c = absurd (Memᴰ.not-nil m)
  pass_marks (marks {A = A} {B = B} {a = x} {rest = r} d p) a m c =
      go (either ((A with x) a)) (λ i c'. pass_marks p a i c')
    where
      go : T ((A with x) a) ⊎ T (not ((A with x) a)) → (a ∈ r → CanBeMarked R (A with x) a → Marked B a) → Marked B a
      go (inl h) below = pass_⊇ p a h
      go (inr u) below =
          ⊎_elim (λ (e : a ≡ x). absurd (T_not ((A with x) a) u (rw e (with_itself A x))))
          (λ (i : a ∈ r). below i (can_be_marked_mono A (A with x) (with_⊇ A x) a u c)) (Memᴰ.cases_cons m)
  pass_marks (leaves {A = A} {a = x} {rest = r} n p) a m c =
      ⊎_elim (λ (e : a ≡ x). absurd (n (subst (CanBeMarked R A) e c))) (λ (i : a ∈ r). pass_marks p a i c) (Memᴰ.cases_cons m)

  -- what passes make is a marking
  pub pass_marking : {n : ℕ} {A B : Marks} {l : List ℕ} → Marking R n A → Pass R A l B → (m : ℕ) × Marking R m B
  pass_marking {n} k end = (n, k)
  pass_marking {n = n} k (marks {a = a} c p) = pass_marking {n = suc n} (one_more a k c) p
  pass_marking k (leaves c p) = pass_marking k p

  module _ (N : ℕ) (below : HeadsBelow N R) where
    -- only atoms below N can be marked
    held_below : (A : Marks) (l : ℕ) → Unmarked A (atom l) → Held R A l → atom l < N
    held_below A l u (from_base h) = absurd (T_not (A (atom l)) u h)
    held_below A l u (by_fact ρ m e a n) = let b = below ρ m in omega arith
    held_below A l u (by_group ρ β m e a g all) = let b = below ρ m in omega arith

    pub can_be_marked_below : (A : Marks) (a : ℕ) → CanBeMarked R A a → a < N
    can_be_marked_below A a c =
        ⊎_elim (λ (h : Held R A (positive a) × Held R A (negative a)). pos h.0)
        (⊎_elim (λ (h : HeldNotClean R A (positive a)). pos h.0) (λ (h : HeldNotClean R A (negative a)). neg h.0)) c.because
      where
        pos : Held R A (positive a) → a < N
        pos h = subst (λ (z : ℕ). z < N) (atom_positive a) (held_below A (positive a) (rw (atom_positive a) c.unmarked) h)

        neg : Held R A (negative a) → a < N
        neg h = subst (λ (z : ℕ). z < N) (atom_negative a) (held_below A (negative a) (rw (atom_negative a) c.unmarked) h)

    -- with all N atoms marked nothing can be marked
    pub all_marked→settled : (A : Marks) → ((a : ℕ) → a < N → Marked A a) → Settled R A
    all_marked→settled A all a c = T_not (A a) c.unmarked (all a (can_be_marked_below A a c))

    -- the marks made are the marked atoms
    pub marking_count : {n : ℕ} {A : Marks} → Marking R n A → count N A ≡ n
    marking_count none = count_none N no_marks (λ a h. tt)
    marking_count (one_more {A = A} a k c) =
        count_with N A a (can_be_marked_below A a c) c.unmarked ∙ ap suc (marking_count k)

pub is𝐢→ : (v : Value) → T (is_inconsistent v) → v ≡ 𝐢
is𝐢→ 𝐟 h = absurd h
is𝐢→ 𝐮 h = absurd h
is𝐢→ 𝐢 h = refl
is𝐢→ 𝐭 h = absurd h

-- a settled marking marks exactly the inconsistent atoms
pub settled_inconsistent : (R : List Rule) (A : Marks) (I : Interpretation) → IsHeld R A I → Settled R A → (a : ℕ) → A a ≡ inconsistent I a
settled_inconsistent R A I is_held_lem s a =
    same_tests→≡ (A a) (inconsistent I a) (λ m. rw (marked→𝐢 R A I is_held_lem (positive a) (rw (atom_positive a) m)) tt)
    (λ h.
    let e : value I (positive a) ≡ 𝐢 = is𝐢→ (value I (positive a)) h in
    rw (atom_positive a)
    at (𝐢→marked R A I is_held_lem s (positive a) (2≤→member I (positive a) (let k : code (value I (positive a)) ≡ 2 = ap code e in omega arith)) e))
