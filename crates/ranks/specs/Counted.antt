-- Stage: literals that get lines are counted, and the heads of the groups that become whole are in a row.
use Rattle.std.specs.Prelude.{List, ◌⊎◌, ◌≡◌, ℕ, T, length}
use Rattle.sets.specs.Sets.{◌∈◌, ◌⊆◌}
use Rattle.bits.specs.Sets.{member}
use Rattle.index.specs.Placed.{Placed, placed_of}
use Rattle.index.specs.Index.{IndexOf}
use Rattle.pending.specs.Pending.{Whole, CountsAre}
use Rattle.index.specs.declared.Index.{Index}

-- the literals that have lines are counted, and there is a row for the heads of the groups that become whole
pub record Counting (t : List ℕ) (x : Index) (s woken counts : List ℕ) : Type 0 where
  pub index : IndexOf t x
  pub row : length woken ≡ 16
  pub counted : CountsAre t (member s) counts

-- literals got lines: their places are counted, and the head of each group that became whole is in a row
pub record Counted (t s s' woken woken' counts' : List ℕ) : Type 0 where
  pub counts : CountsAre t (member s') counts'
  pub row : length woken' ≡ 16
  pub more : member woken ⊆ member woken'
  pub whole : (γ : Placed) → γ ∈ placed_of t → Whole (member s') γ → Whole (member s) γ ⊎ T (member woken' γ.head)
  pub sound : (h : ℕ) → T (member woken' h) → T (member woken h) ⊎ ((γ : Placed) × (γ ∈ placed_of t) × (γ.head ≡ h))
