-- What follows from a check that accepts.
use mathlib.Core.Path.{◌≡◌, refl}
use mathlib.Core.Bool.{Bool, true, false}
use Prim.Native.Nat.{ℕ}
use native.Mathlib.Omega.{arith}
use Rattle.refusal.specs.declared.Refusal.{Refusal}
use Rattle.refusal.specs.Checks.{Checked, demanding, asking, or_else}
use Rattle.std.specs.Prelude.{Ok, Err}

-- a refusal is no acceptance
pub refused≢accepted : (f : Refusal) → ◌≡◌ {A = Checked} (Err f) (Ok tt) → ⊥
refused≢accepted f e = let z : ◌≡◌ {A = ℕ} 0 1 = cc in omega arith

-- a demand whose answer is no refusal was met
pub demanding_met : {A : Type 0} (refuse : Refusal → A) (b : Bool) (r : Refusal) (rest x : A) → (refuse r ≡ x → ⊥) → demanding refuse b r rest ≡ x
    → (b ≡ true) × (rest ≡ x)
demanding_met refuse true r rest x n e = (refl, e)
demanding_met refuse false r rest x n e = absurd (n e)

-- what holds of the refusal and of the rest holds of the demand
pub demanding_holds : {A : Type 0} (P : A → Type 0) (refuse : Refusal → A) (b : Bool) (r : Refusal) (rest : A) → P (refuse r) → (b ≡ true → P rest)
    → P (demanding refuse b r rest)
demanding_holds P refuse true r rest h on = on refl
demanding_holds P refuse false r rest h on = h

pub asking_accepted : (b : Bool) (r : Refusal) (rest : Checked) → asking b r rest ≡ Ok tt → (b ≡ true) × (rest ≡ Ok tt)
asking_accepted b r rest e = demanding_met Err b r rest (Ok tt) (refused≢accepted r) e

pub or_else_accepted : (a b : Checked) → or_else a b ≡ Ok tt → (a ≡ Ok tt) × (b ≡ Ok tt)
or_else_accepted (Ok tt) b e = (refl, e)
or_else_accepted (Err r) b e = absurd (refused≢accepted r e)

-- what is known of two faults is known of the one that decides
pub or_else_known : (P : Checked → Type 0) (x y : Checked) → P x → P y → P (or_else x y)
or_else_known P (Ok tt) y h k = k
or_else_known P (Err f) y h k = h

-- nothing after it to refuse
pub or_else_nothing : (c : Checked) → or_else c (Ok tt) ≡ c
or_else_nothing (Ok tt) = refl
or_else_nothing (Err r) = refl
