-- Laws of the lowest number that passes a test.
use mathlib.Core.Path.{◌≡◌, refl, sym, ap, ap₂, ◌∙◌}
use mathlib.Core.Bool.{Bool, true, false, cond}
use Prim.Native.Nat.{ℕ, zero, suc, ◌+◌, ◌≤◌, ◌<◌}
use native.Mathlib.Decide.{ℕ_discrete}
use native.Mathlib.Omega.{arith}
use Rattle.bits.specs.Rows.{lowest_from}
use Rattle.std.specs.Prelude.{Some, None}

-- it is found where it stands
pub lowest_from_at : (n i m : ℕ) (p : ℕ → Bool) → i ≤ m → m < i + n → p m ≡ true
    → ((j : ℕ) → i ≤ j → j < m → p j ≡ false) → lowest_from n i p ≡ Some m
unfolding lowest_from
lowest_from_at zero i m p h l e none = absurd (omega arith)
lowest_from_at (suc n) i m p h l e none =
    elim (ℕ_discrete i m) [
      | yes q ↦ ap (λ (b : Bool). cond b (Some i) (lowest_from n (suc i) p)) (ap p q ∙ e) ∙ ap Some q
      | no q ↦
          ap (λ (b : Bool). cond b (Some i) (lowest_from n (suc i) p)) (none i (omega arith) (omega arith))
          ∙ lowest_from_at n (suc i) m p (omega arith) (omega arith) e (λ j a b. none j (omega arith) b)
    ]

pub lowest_from_nothing : (n i : ℕ) (p : ℕ → Bool) → ((j : ℕ) → i ≤ j → j < i + n → p j ≡ false) → lowest_from n i p ≡ None
unfolding lowest_from
lowest_from_nothing zero i p none = refl
lowest_from_nothing (suc n) i p none =
    ap (λ (b : Bool). cond b (Some i) (lowest_from n (suc i) p)) (none i (omega arith) (omega arith))
    ∙ lowest_from_nothing n (suc i) p (λ j a b. none j (omega arith) (omega arith))

-- it is looked for later if nothing passes before
pub lowest_from_later : (n i m k : ℕ) (p : ℕ → Bool) → i ≤ k → i + n ≡ k + m → ((j : ℕ) → i ≤ j → j < k → p j ≡ false)
    → lowest_from n i p ≡ lowest_from m k p
unfolding lowest_from
lowest_from_later zero i m k p h e none =
    let q : i ≡ k = omega arith in
    let z : 0 ≡ m = omega arith in
    ap₂ (λ (x y : ℕ). lowest_from x y p) z q
lowest_from_later (suc n) i m k p h e none =
    elim (ℕ_discrete i k) [
      | yes q ↦ let z : suc n ≡ m = omega arith in ap₂ (λ (x y : ℕ). lowest_from x y p) z q
      | no q ↦
          ap (λ (b : Bool). cond b (Some i) (lowest_from n (suc i) p)) (none i (omega arith) (omega arith))
          ∙ lowest_from_later n (suc i) m k p (omega arith) (omega arith) (λ j a b. none j (omega arith) b)
    ]

-- what is found passes, and nothing below it does
pub record LowestIs (n i m : ℕ) (p : ℕ → Bool) : Type 0 where
  pub from : i ≤ m
  pub below : m < i + n
  pub passes : p m ≡ true
  pub none_before : (j : ℕ) → i ≤ j → j < m → p j ≡ false

pub lowest_from_found : (n i m : ℕ) (p : ℕ → Bool) → lowest_from n i p ≡ Some m → LowestIs n i m p
unfolding lowest_from
lowest_from_found zero i m p e = absurd (let z : ◌≡◌ {A = ℕ} 0 1 = cc in omega arith)
lowest_from_found (suc n) i m p e = by (p i) refl (lowest_from_found n (suc i) m p) e
  where
    by : (b : Bool) → p i ≡ b → (lowest_from n (suc i) p ≡ Some m → LowestIs n (suc i) m p)
        → cond b (Some i) (lowest_from n (suc i) p) ≡ Some m → LowestIs (suc n) i m p
    by true q rest f =
        let same : i ≡ m = cc in
        record { from = omega arith; below = omega arith; passes = ap p (sym same) ∙ q; none_before = λ j a b. absurd (omega arith) }
    by false q rest f =
        let up = rest f in
        record {
          from = omega (arith, up.from);
          below = omega (arith, up.below);
          passes = up.passes;
          none_before = λ j a b. elim (ℕ_discrete j i) [ yes d ↦ ap p d ∙ q | no d ↦ up.none_before j (omega arith) b ];
        }

-- nothing is found: nothing passes
pub lowest_from_none : (n i : ℕ) (p : ℕ → Bool) → lowest_from n i p ≡ None → (j : ℕ) → i ≤ j → j < i + n → p j ≡ false
unfolding lowest_from
lowest_from_none zero i p e = λ j a b. absurd (omega arith)
lowest_from_none (suc n) i p e = by (p i) refl (lowest_from_none n (suc i) p) e
  where
    by : (b : Bool) → p i ≡ b → (lowest_from n (suc i) p ≡ None → (j : ℕ) → suc i ≤ j → j < suc i + n → p j ≡ false)
        → cond b (Some i) (lowest_from n (suc i) p) ≡ None → (j : ℕ) → i ≤ j → j < i + suc n → p j ≡ false
    by true q rest f j a b = absurd (let z : ◌≡◌ {A = ℕ} 0 1 = cc in omega arith)
    by false q rest f j a b = elim (ℕ_discrete j i) [ yes d ↦ ap p d ∙ q | no d ↦ rest f j (omega arith) (omega arith) ]
