-- The values that evaluation leaves are those that the value sheet prints.
use mathlib.Core.Path.{◌≡◌, refl, sym, ap, ap₂, ◌∙◌}
use mathlib.Core.List.{List, [], ◌∷◌, ◌++◌}
use mathlib.Core.Bool.{Bool, true, false, cond}
use Prim.Native.Nat.{ℕ, suc, ◌+◌, ◌-◌, ◌<◌, ◌≤◌}
use native.Mathlib.Omega.{arith}
use lib.Dec.{leb}
use lib.ListN.{length, drop, replicate, length-append}
use borrow.Author.Tests.{le-leb, leb-true, leb-false}
use Rattle.refusal.specs.declared.Refusal.{Refusal}
use Rattle.refusal.specs.Numbers.{too_many_atoms, table_too_long, value_room_too_small, text_room_too_small}
use Rattle.refusal.specs.Checks.{asking, or_else}
use Rattle.words.specs.Check.{table_check, AcceptedTable}
use Rattle.words.proofs.Laws.{accepted_atoms, accepted_length}
use Rattle.evaluation.specs.Evaluation.{evaluation_fault}
use Rattle.buffers.specs.Padded.{padded}
use Rattle.valuesheet.specs.ValueSheet.{line_for, lines_from}
use Rattle.valuesheet.specs.Fitting.{printing, text_after}
use Rattle.std.specs.Prelude.{Ok, Err, Result}

-- the lines go by the values of their own atoms
pub same_lines : (s : List ℕ) (v v' : ℕ → ℕ) (a : ℕ) (es : List ℕ) → ((b : ℕ) → b < a + length es → v b ≡ v' b)
    → lines_from s v a es ≡ lines_from s v' a es
unfolding lines_from
same_lines s v v' a [] e = refl
same_lines s v v' a (x ∷ es) e =
    ap₂ (λ (y : ℕ) (t : List ℕ). line_for s x y ++ t) (e a (omega arith)) (same_lines s v v' (suc a) es (λ b h. e b (omega arith)))

-- evaluation takes an accepted table
pub no_fault : (N : ℕ) (t : List ℕ) (room : ℕ) → N ≤ room → AcceptedTable N t → evaluation_fault N t room ≡ Ok tt
unfolding evaluation_fault
no_fault N t room h accepted =
    ap (λ (b : Bool). or_else (asking b too_many_atoms (Ok tt))
    (or_else (asking (leb (length t) 8192) table_too_long (Ok tt)) (or_else (asking (leb N room) value_room_too_small (Ok tt)) (table_check N t))))
    (le-leb N 512 (accepted_atoms N t accepted))
    ∙ ap₂ (λ (b b' : Bool). or_else (asking b table_too_long (Ok tt)) (or_else (asking b' value_room_too_small (Ok tt)) (table_check N t)))
    (le-leb (length t) 8192 (accepted_length N t accepted)) (le-leb N room h)
    ∙ accepted

-- a list lies in its buffer
pub in_buffer : (n : ℕ) (l ws : List ℕ) → ws ≡ padded n l → length l ≤ length ws
unfolding padded
in_buffer n l ws e = omega (arith, ap length e, length-append l (replicate (n - length l) 0))

-- what printing has answered
whole_is_no_refusal : (n : ℕ) (r : Refusal) → Ok n ≡ Err r → ⊥
whole_is_no_refusal n r e = let z : ◌≡◌ {A = ℕ} 0 1 = cc in omega arith

module _ (out text text' : List ℕ) (p : Result ℕ Refusal) (answer : p ≡ printing out (length text)) (after : text' ≡ text_after out text) where
  pub printed_whole : (bytes : ℕ) → p ≡ Ok bytes
      → (length out ≤ length text) × (bytes ≡ length out) × (text' ≡ out ++ drop (length out) text)
  unfolding printing text_after
  printed_whole bytes e = by (leb (length out) (length text)) refl (sym e ∙ answer) after
    where
      by : (b : Bool) → leb (length out) (length text) ≡ b → Ok bytes ≡ cond b (Ok (length out)) (Err (text_room_too_small (length out)))
          → text' ≡ cond b (out ++ drop (length out) text) text
          → (length out ≤ length text) × (bytes ≡ length out) × (text' ≡ out ++ drop (length out) text)
      by true q f g = let same : bytes ≡ length out = cc in (leb-true (length out) (length text) q, same, g)
      by false q f g = absurd (whole_is_no_refusal bytes _ f)

  pub printed_nothing : (r : Refusal) → p ≡ Err r → (length text < length out) × (r ≡ text_room_too_small (length out)) × (text' ≡ text)
  unfolding printing text_after
  printed_nothing r e = by (leb (length out) (length text)) refl (sym e ∙ answer) after
    where
      by : (b : Bool) → leb (length out) (length text) ≡ b → Err r ≡ cond b (Ok (length out)) (Err (text_room_too_small (length out)))
          → text' ≡ cond b (out ++ drop (length out) text) text
          → (length text < length out) × (r ≡ text_room_too_small (length out)) × (text' ≡ text)
      by true q f g = absurd (whole_is_no_refusal _ r (sym f))
      by false q f g = let same : r ≡ text_room_too_small (length out) = cc in (leb-false (length out) (length text) q, same, g)
