-- A run of bytes that can belong to a name, a byte at a time.
use mathlib.Core.Path.{◌≡◌, refl, sym, ap, ◌∙◌}
use mathlib.Core.List.{List}
use mathlib.Core.Bool.{Bool, true, false, cond, true≢false}
use Prim.Native.Nat.{ℕ, zero, suc, ◌+◌, ◌-◌, ◌<◌, ◌≤◌}
use native.Mathlib.Omega.{arith}
use lib.Dec.{ltb}
use lib.ListN.{length, drop, drop_of_length-le, get_or-eq_default}
use lib.Seq.{drop-cons}
use borrow.Author.Tests.{ltb-true, ltb-false}
use Rattle.decimals.specs.Decimals.{is_digit}
use Rattle.reader.specs.Sheet.{byte_at, starts_name, continues_name, name_run, byte_before}

-- past the end stands 0, so a byte of a kind that 0 is not of is in the sheet
pub inside_by : (kind : ℕ → Bool) → kind 0 ≡ false → (s : List ℕ) (i : ℕ) → kind (byte_at s i) ≡ true → i < length s
inside_by kind z s i e = by (ltb i (length s)) refl
  where
    by : (b : Bool) → ltb i (length s) ≡ b → i < length s
    by true q = ltb-true i (length s) q
    by false q = absurd (true≢false (sym e ∙ ap kind (get_or-eq_default s 0 (ltb-false i (length s) q)) ∙ z))

pub name_inside : (s : List ℕ) (i : ℕ) → continues_name (byte_at s i) ≡ true → i < length s
unfolding continues_name starts_name is_digit
name_inside s i e = inside_by continues_name refl s i e

pub run_on : (s : List ℕ) (i : ℕ) → continues_name (byte_at s i) ≡ true → name_run (drop i s) ≡ suc (name_run (drop (suc i) s))
unfolding name_run
run_on s i e =
    ap name_run (drop-cons s i 0 (name_inside s i e)) ∙ ap (λ (b : Bool). cond b (suc (name_run (drop (suc i) s))) 0) e

run_stops : (s : List ℕ) (i : ℕ) → continues_name (byte_at s i) ≡ false → name_run (drop i s) ≡ 0
unfolding name_run
run_stops s i e = by (ltb i (length s)) refl
  where
    by : (b : Bool) → ltb i (length s) ≡ b → name_run (drop i s) ≡ 0
    by true q =
        ap name_run (drop-cons s i 0 (ltb-true i (length s) q)) ∙ ap (λ (b : Bool). cond b (suc (name_run (drop (suc i) s))) 0) e
    by false q = ap name_run (drop_of_length-le s (ltb-false i (length s) q))

run_front : (s : List ℕ) (q : ℕ) → 0 < name_run (drop q s) → continues_name (byte_at s q) ≡ true
run_front s q h = by (continues_name (byte_at s q)) refl
  where
    by : (b : Bool) → continues_name (byte_at s q) ≡ b → continues_name (byte_at s q) ≡ true
    by true e = e
    by false e = absurd (omega (arith, run_stops s q e))

-- every byte of a run continues a name
pub run_bytes : (s : List ℕ) (q i : ℕ) → i < name_run (drop q s) → continues_name (byte_at s (q + i)) ≡ true
run_bytes s q zero h = let here : q + 0 ≡ q = omega arith in ap (λ (x : ℕ). continues_name (byte_at s x)) here ∙ run_front s q h
run_bytes s q (suc i) h =
    let there : q + suc i ≡ suc q + i = omega arith in
    ap (λ (x : ℕ). continues_name (byte_at s x)) there ∙ run_bytes s (suc q) i (omega (arith, run_on s q (run_front s q (omega arith))))

-- one turn of the loop: a byte more
pub run_more : (s : List ℕ) (q n : ℕ) (test : Bool) → (n + name_run (drop (q + n) s) ≡ name_run (drop q s))
    → test ≡ continues_name (byte_at s (q + n)) → test ≡ true
    → (q + (n + 1) ≤ length s) × (n + 1 + name_run (drop (q + (n + 1)) s) ≡ name_run (drop q s))
run_more s q n test inv e taken =
    let goes = sym e ∙ taken in
    let more = run_on s (q + n) goes in
    let there : suc (q + n) ≡ q + (n + 1) = omega arith in (
      omega (arith, name_inside s (q + n) goes),
      omega (arith, inv, more, ap (λ (x : ℕ). name_run (drop x s)) there),
    )

-- the end of the loop
pub run_ended : (s : List ℕ) (q n : ℕ) (test : Bool) → (n + name_run (drop (q + n) s) ≡ name_run (drop q s))
    → test ≡ continues_name (byte_at s (q + n)) → test ≡ false → n ≡ name_run (drop q s)
run_ended s q n test inv e left = omega (arith, inv, run_stops s (q + n) (sym e ∙ left))

pub run_starts : (s : List ℕ) (q : ℕ) → 0 + name_run (drop (q + 0) s) ≡ name_run (drop q s)
run_starts s q = let here : q + 0 ≡ q = omega arith in omega (arith, ap (λ (x : ℕ). name_run (drop x s)) here)

pub byte_before_some : (s : List ℕ) (p : ℕ) → (p ≡ 0 → ⊥) → byte_at s (p - 1) ≡ byte_before s p
unfolding byte_before
byte_before_some s zero h = absurd (h refl)
byte_before_some s (suc p) h = let there : suc p - 1 ≡ p = omega arith in ap (byte_at s) there
