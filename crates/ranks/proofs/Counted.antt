-- Literals get lines: their places are counted. Assumes nothing.
use mathlib.Core.Bool.{Bool}
use mathlib.Core.List.{List}
use mathlib.Core.Logic.{inl, inr, ⊎_elim}
use mathlib.Core.Path.{◌≡◌, ap, ◌∙◌, subst, subst⁻¹}
use Prim.Native.Nat.{ℕ, ◌<◌}
use native.Mathlib.Omega.{arith}
use lib.ListN.{length}
use Rattle.sets.specs.Sets.{◌with◌}
use Rattle.bits.specs.Sets.{member, put_in}
use Rattle.bits.proofs.Laws.{member_put_in, length_put_in}
use Rattle.pending.specs.Pending.{Whole, CountsAre, Taken}
use Rattle.ranks.specs.Counted.{Counted}

-- a row of 1,024 numbers, and one besides
module _ (s : List ℕ) (l : ℕ) (row : length s ≡ 16) (below : l < 1024) {s' : List ℕ} (put : s' ≡ put_in s l) where
  pub put_with : member s' ≡ member s with l
  put_with = ap member put ∙ member_put_in s l (omega arith)

  pub put_row : length s' ≡ 16
  put_row = ap length put ∙ length_put_in s l ∙ row

-- literals of a table get lines
module _ {t : List ℕ} where
  pub counted_one : (s : List ℕ) (l : ℕ) {s' woken woken' counts' : List ℕ} → length s ≡ 16 → l < 1024 → s' ≡ put_in s l
      → length woken ≡ 16 → Taken t (member s) l woken woken' counts' → Counted t s s' woken woken' counts'
  counted_one s l {s'} {counts' = counts'} row below put r k =
      let e = put_with s l row below put in
      record {
        counts = subst⁻¹ (λ (S : ℕ → Bool). CountsAre t S counts') e k.counts;
        row = k.row ∙ r;
        more = k.more;
        whole = λ γ m w. k.whole γ m (subst (λ (S : ℕ → Bool). Whole S γ) e w);
        sound = λ h m. ⊎_elim inl (λ q. inr (q.0, q.1, q.2)) (k.sound h m);
      }
