-- Believed: the first of a list that does not pass, by how many pass before it.
use Rattle.std.specs.Prelude.{List, ◌∷◌, ℕ, suc}

pub data FirstNot {A : Type 0} (ok : A → Type 0) : List A → ℕ → Type 0 where
  this_one : {x : A} {xs : List A} → (ok x → ⊥) → FirstNot ok (x ∷ xs) 0
  later_one : {x : A} {xs : List A} {n : ℕ} → ok x → FirstNot ok xs n → FirstNot ok (x ∷ xs) (suc n)
