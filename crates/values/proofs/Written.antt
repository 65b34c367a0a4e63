-- The values written into a room, one after the other. Assumes nothing.
use mathlib.Core.List.{List, [], ◌∷◌, ◌++◌}
use mathlib.Core.Path.{◌≡◌, refl, sym, ap, ◌∙◌}
use Prim.Native.Nat.{ℕ, zero, suc, ◌+◌, ◌≤◌, ◌<◌}
use native.Mathlib.Nat.{zero-add, add-zero}
use native.Mathlib.Numerals.{add-one}
use native.Mathlib.Omega.{arith}
use lib.ListN.{length, get_or, drop, set, get_or-append}
use lib.Seq.{drop-cons, set_at, append_snoc}
use Rattle.paper.specs.Table1.{Value, code}
use Rattle.values.specs.Values.{codes_from, written}

pub length_codes : (v : ℕ → Value) (a n : ℕ) → length (codes_from v a n) ≡ n
unfolding codes_from
length_codes v a zero = refl
length_codes v a (suc n) = ap suc (length_codes v (suc a) n)

-- one more at the end
codes_snoc : (v : ℕ → Value) (a n : ℕ) → codes_from v a (suc n) ≡ codes_from v a n ++ (code (v (a + n)) ∷ [])
unfolding codes_from
codes_snoc v a zero = ap (λ (x : ℕ). code (v x) ∷ []) (sym (add-zero a))
codes_snoc v a (suc n) =
    ap (λ (l : List ℕ). code (v a) ∷ l) (codes_snoc v (suc a) n ∙ ap (λ (x : ℕ). codes_from v (suc a) n ++ (code (v x) ∷ [])) (omega arith))

pub writes_nothing : (v : ℕ → Value) (room : List ℕ) → room ≡ written v 0 room
unfolding codes_from
writes_nothing v room = refl

pub writes_one : (v : ℕ → Value) (a x : ℕ) (room now : List ℕ) → a < length room
    → x ≡ code (v a) → now ≡ written v a room → set now a x ≡ written v (a + 1) room
writes_one v a x room now h ex e =
    ap (λ (l : List ℕ). set l a x) (e ∙ ap (λ (l : List ℕ). codes_from v 0 a ++ l) (drop-cons room a 0 h))
    ∙ set_at (codes_from v 0 a) (get_or room a 0) (drop (suc a) room) x a (length_codes v 0 a)
    ∙ sym (append_snoc (codes_from v 0 a) x (drop (suc a) room))
    ∙ rw (add-one a, ex)
    (ap (λ (l : List ℕ). l ++ drop (suc a) room) (sym (codes_snoc v 0 a ∙ ap (λ (z : ℕ). codes_from v 0 a ++ (code (v z) ∷ [])) (zero-add a))))

pub writes_all : (v : ℕ → Value) (a n : ℕ) (room now : List ℕ) → a ≤ n → n ≤ a → now ≡ written v a room → now ≡ written v n room
writes_all v a n room now h k e = e ∙ ap (λ (x : ℕ). written v x room) (omega arith)

-- the code of an atom's value stands at its own place
code_at : (v : ℕ → Value) (a n b : ℕ) → b < n → get_or (codes_from v a n) b 0 ≡ code (v (a + b))
unfolding codes_from
code_at v a zero b h = absurd (omega arith)
code_at v a (suc n) zero h = ap (λ (x : ℕ). code (v x)) (sym (add-zero a))
code_at v a (suc n) (suc b) h =
    let there : suc a + b ≡ a + suc b = omega arith in code_at v (suc a) n b (omega arith) ∙ ap (λ (x : ℕ). code (v x)) there

pub written_at : (v : ℕ → Value) (n : ℕ) (room : List ℕ) (a : ℕ) → a < n → get_or (written v n room) a 0 ≡ code (v a)
written_at v n room a h =
    get_or-append (codes_from v 0 n) (drop n room) 0 a (omega (arith, length_codes v 0 n))
    ∙ code_at v 0 n a h ∙ ap (λ (x : ℕ). code (v x)) (zero-add a)
