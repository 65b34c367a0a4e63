-- What one turn of the check does, over plain lists.
use mathlib.Core.Path.{◌≡◌, refl, sym, ap, ◌∙◌, fun_ext}
use mathlib.Core.Logic.{◌⊎◌, inl, inr}
use mathlib.Core.List.{List, ◌∷◌}
use mathlib.Core.Bool.{Bool, ◌&&◌, and-false}
use Prim.Native.Nat.{ℕ, zero, suc, ◌+◌, ◌-◌, ◌*◌, ◌<◌, ◌≤◌}
use native.Mathlib.Numerals.{add-one}
use native.Mathlib.Omega.{arith}
use lib.Dec.{ltb, leb}
use lib.ListN.{length, get_or, drop, replicate, drop_of_length-le}
use lib.Seq.{drop-cons}
use borrow.Author.Tests.{ltb-true, lt-leb}
use Rattle.refusal.proofs.Laws.{asking_accepted, or_else_accepted}
use Rattle.refusal.specs.Numbers.{out_of_range}
use Rattle.refusal.specs.declared.Refusal.{Refusal}
use Rattle.bits.specs.Sets.{member}
use Rattle.bits.proofs.Laws.{member_put_in, length_put_in, member_of_zeros}
use Rattle.refusal.specs.Checks.{Checked, asking, or_else}
use Rattle.words.specs.declared.Due.{Due}
use Rattle.words.specs.declared.Due.TheVariants.{Head, Line, Count, Size, Literal}
use Rattle.words.specs.Flags.{noted}
use Rattle.words.specs.Check.{range_fault, fault, groups_due, literals_due, next, seen_after, no_heads, walk, ended}
use Rattle.std.specs.Prelude.{Ok, Err}

pub groups_due_some : (g : ℕ) → (g ≡ 0 → ⊥) → Size (g - 1) ≡ groups_due g
groups_due_some zero h = absurd (h refl)
groups_due_some (suc g) h = ap Size (omega arith)

pub literals_due_some : (k g : ℕ) → (k ≡ 0 → ⊥) → Literal (k - 1) g ≡ literals_due k g
literals_due_some zero g h = absurd (h refl)
literals_due_some (suc k) g h = ap (λ (x : ℕ). Literal x g) (omega arith)

-- a word below the least or above the most
pub out_of_range_found : (least most p w : ℕ) → (w < least) ⊎ (most < w) → Err (out_of_range p) ≡ range_fault least most p w
out_of_range_found least most p w (inl h) = sym (ap (λ (b : Bool). asking (b && leb w most) (out_of_range p) (Ok tt)) (lt-leb least w h))
out_of_range_found least most p w (inr h) =
    sym (ap (λ (b : Bool). asking (leb least w && b) (out_of_range p) (Ok tt)) (lt-leb w most h)
    ∙ ap (λ (b : Bool). asking b (out_of_range p) (Ok tt)) (and-false (leb least w)))

-- an accepted head is a literal of the N atoms
pub head_below : (N : ℕ) (seen : ℕ → Bool) (p w : ℕ) → fault N seen Head p w ≡ Ok tt → w < 2 * N
head_below N seen p w e = ltb-true w (2 * N) (asking_accepted (ltb w (2 * N)) _ (Ok tt) (or_else_accepted _ _ e).0).0

-- the flags after a word are the heads seen after it
seen_noted : (N : ℕ) (s : List ℕ) (due : Due) (p w : ℕ) → N ≤ 512 → length s ≡ 16 → fault N (member s) due p w ≡ Ok tt
    → seen_after due (member s) w ≡ member (noted due s w)
seen_noted N s Head p w n l e = sym (member_put_in s w (omega (arith, head_below N (member s) p w e)))
seen_noted N s Line p w n l e = refl
seen_noted N s Count p w n l e = refl
seen_noted N s (Size g) p w n l e = refl
seen_noted N s (Literal k g) p w n l e = refl

length_noted : (due : Due) (s : List ℕ) (w : ℕ) → length (noted due s w) ≡ length s
length_noted Head s w = length_put_in s w
length_noted Line s w = refl
length_noted Count s w = refl
length_noted (Size g) s w = refl
length_noted (Literal k g) s w = refl

-- no flag is set at the start
pub starts : (N : ℕ) (t : List ℕ) → walk N (member (replicate 16 0)) Head 0 (drop 0 t) ≡ walk N no_heads Head 0 t
starts N t = ap (λ (seen : ℕ → Bool). walk N seen Head 0 t) (fun_ext (member_of_zeros 16))

pub walk_faultless : (N : ℕ) (seen : ℕ → Bool) (due : Due) (p w : ℕ) (t : List ℕ) → fault N seen due p w ≡ Ok tt
    → walk N seen due p (w ∷ t) ≡ walk N (seen_after due seen w) (next due w) (suc p) t
unfolding walk
walk_faultless N seen due p w t e = ap (λ (x : Checked). or_else x (walk N (seen_after due seen w) (next due w) (suc p) t)) e

pub walk_faulty : (N : ℕ) (seen : ℕ → Bool) (due : Due) (p w : ℕ) (t : List ℕ) (r : Refusal) → fault N seen due p w ≡ Err r
    → walk N seen due p (w ∷ t) ≡ Err r
unfolding walk
walk_faulty N seen due p w t r e = ap (λ (x : Checked). or_else x (walk N (seen_after due seen w) (next due w) (suc p) t)) e

-- the walk stands at i with the flags s: what it says of the rest is the whole answer
module _ (N : ℕ) (t s : List ℕ) (due : Due) (i : ℕ) (whole : Checked) (inv : walk N (member s) due i (drop i t) ≡ whole) where
  -- a word without a fault: the rest decides
  pub goes_on : {w : ℕ} {found : Checked} {s' : List ℕ} {due' : Due} → N ≤ 512 → length s ≡ 16 → i < length t → w ≡ get_or t i 0
      → found ≡ fault N (member s) due i w → found ≡ Ok tt → s' ≡ noted due s w → due' ≡ next due w
      → walk N (member s') due' (i + 1) (drop (i + 1) t) ≡ whole
  goes_on {w} {found} {s'} {due'} n l h ew ef e es ed =
      rw (es, ed, add-one i)
      (rw (← seen_noted N s due i w n l (sym ef ∙ e))
      (sym (walk_faultless N (member s) due i w (drop (suc i) t) (sym ef ∙ e))
      ∙ ap (λ (x : ℕ). walk N (member s) due i (x ∷ drop (suc i) t)) ew
      ∙ ap (walk N (member s) due i) (sym (drop-cons t i 0 h))
      ∙ inv))

  -- the first faulty word decides
  pub stops : {w : ℕ} {found : Checked} {r : Refusal} → i < length t → w ≡ get_or t i 0
      → found ≡ fault N (member s) due i w → found ≡ Err r → Err r ≡ whole
  stops {w} {found} {r} h ew ef e =
      sym (walk_faulty N (member s) due i w (drop (suc i) t) r (sym ef ∙ e))
      ∙ ap (λ (x : ℕ). walk N (member s) due i (x ∷ drop (suc i) t)) ew
      ∙ ap (walk N (member s) due i) (sym (drop-cons t i 0 h))
      ∙ inv

  -- the words have ended
  pub ends : length t ≤ i → ended due i ≡ whole
  unfolding walk
  ends h = ap (walk N (member s) due i) (sym (drop_of_length-le t h)) ∙ inv

pub length_noted_16 : {s' : List ℕ} (due : Due) (s : List ℕ) (w : ℕ) → length s ≡ 16 → s' ≡ noted due s w → length s' ≡ 16
length_noted_16 due s w l e = ap length e ∙ length_noted due s w ∙ l
