-- A check whose refusals have small numbers and places: a number from 1 to 18, and a place up to b.
use mathlib.Core.Bool.{Bool}
use Prim.Native.Nat.{ℕ, ◌≤◌}
use native.Mathlib.Omega.{arith}
use Rattle.refusal.specs.declared.Refusal.{Refusal}
use Rattle.refusal.specs.Checks.{Checked, asking, or_else}
use Rattle.refusal.proofs.Laws.{demanding_holds, or_else_known}
use Rattle.std.specs.Prelude.{Ok, Err}

abbrev pub Small : ℕ → Refusal → Type 0
Small b f = (f.number ≤ 18) × (f.place ≤ b) × (1 ≤ f.number)

abbrev pub PlacesTo : ℕ → Checked → Type 0
PlacesTo b (Ok tt) = Unit {0}
PlacesTo b (Err f) = Small b f

pub asking_to : (b : ℕ) (t : Bool) (f : Refusal) (rest : Checked) → Small b f → PlacesTo b rest → PlacesTo b (asking t f rest)
asking_to b t f rest h k = demanding_holds (PlacesTo b) Err t f rest h (λ e. k)

pub or_else_to : (b : ℕ) (x y : Checked) → PlacesTo b x → PlacesTo b y → PlacesTo b (or_else x y)
or_else_to b = or_else_known (PlacesTo b)

pub to_more : (b c : ℕ) → b ≤ c → (x : Checked) → PlacesTo b x → PlacesTo c x
to_more b c h (Ok tt) k = tt
to_more b c h (Err f) k = (k.0, omega arith, k.2)
