-- A refusal's number and place are small, and its number is not 0: the place is at most 8,192. Assumes nothing.
use mathlib.Core.Bool.{Bool, not, ◌&&◌}
use mathlib.Core.List.{List, [], ◌∷◌}
use Prim.Native.Nat.{ℕ, suc, ◌+◌, ◌*◌}
use native.Mathlib.Omega.{arith}
use lib.Dec.{leb, ltb}
use lib.ListN.{length}
use borrow.Author.Tests.{leb-true}
use Rattle.refusal.proofs.Places.{PlacesTo, or_else_to, to_more, asking_to}
use Rattle.refusal.specs.Numbers.{too_many_atoms, table_too_long, not_a_literal, second_rule, out_of_range}
use Rattle.refusal.specs.Checks.{Checked, asking}
use Rattle.refusal.proofs.Laws.{demanding_holds}
use Rattle.words.specs.declared.Due.{Due}
use Rattle.words.specs.declared.Due.TheVariants.{Head, Line, Count, Size, Literal}
use Rattle.words.specs.Check.{code_fault, repeat_fault, fault, ended, walk, seen_after, next, no_heads, table_check}
use Rattle.std.specs.Prelude.{Ok, Err}

fault_within : (N : ℕ) (seen : ℕ → Bool) (due : Due) (p w : ℕ) → PlacesTo p (fault N seen due p w)
fault_within N seen Head p w =
    or_else_to p (code_fault N p w) (repeat_fault seen p w) (asking_to p (ltb w (2 * N)) (not_a_literal p) (Ok tt) (omega arith, omega arith, omega arith) tt)
    (asking_to p (not (seen w)) (second_rule p) (Ok tt) (omega arith, omega arith, omega arith) tt)
fault_within N seen Line p w = asking_to p (leb 0 w && leb w 32768) (out_of_range p) (Ok tt) (omega arith, omega arith, omega arith) tt
fault_within N seen Count p w = asking_to p (leb 0 w && leb w 64) (out_of_range p) (Ok tt) (omega arith, omega arith, omega arith) tt
fault_within N seen (Size g) p w = asking_to p (leb 1 w && leb w 64) (out_of_range p) (Ok tt) (omega arith, omega arith, omega arith) tt
fault_within N seen (Literal k g) p w = asking_to p (ltb w (2 * N)) (not_a_literal p) (Ok tt) (omega arith, omega arith, omega arith) tt

ended_within : (due : Due) (p : ℕ) → PlacesTo p (ended due p)
ended_within Head p = tt
ended_within Line p = (omega arith, omega arith, omega arith)
ended_within Count p = (omega arith, omega arith, omega arith)
ended_within (Size g) p = (omega arith, omega arith, omega arith)
ended_within (Literal k g) p = (omega arith, omega arith, omega arith)

walk_within : (N : ℕ) (seen : ℕ → Bool) (due : Due) (p : ℕ) (t : List ℕ) → PlacesTo (p + length t) (walk N seen due p t)
unfolding walk
walk_within N seen due p [] = to_more p (p + 0) (omega arith) (ended due p) (ended_within due p)
walk_within N seen due p (w ∷ t) =
    or_else_to (p + length (w ∷ t)) (fault N seen due p w) (walk N (seen_after due seen w) (next due w) (suc p) t)
    (to_more p (p + length (w ∷ t)) (omega arith) (fault N seen due p w) (fault_within N seen due p w))
    (to_more (suc p + length t) (p + length (w ∷ t)) (omega arith) (walk N (seen_after due seen w) (next due w) (suc p) t)
    (walk_within N (seen_after due seen w) (next due w) (suc p) t))

-- a longer table is refused at 0
pub check_within : (N : ℕ) (t : List ℕ) → PlacesTo 8192 (table_check N t)
unfolding table_check
check_within N t =
    let first : Checked = walk N no_heads Head 0 t in
    asking_to 8192 (leb N 512) too_many_atoms (asking (leb (length t) 8192) table_too_long first) (omega arith, omega arith, omega arith)
    (demanding_holds (PlacesTo 8192) Err (leb (length t) 8192) table_too_long first (omega arith, omega arith, omega arith)
    (λ e. to_more (0 + length t) 8192 (let h = leb-true (length t) 8192 e in omega arith) first (walk_within N no_heads Head 0 t)))
