-- Stage: what one walk through the table's groups finds, said of the words.
use Rattle.std.specs.Prelude.{List, [], ◌∷◌, ◌≡◌, Bool, cond, ℕ, suc, ◌≤◌, length, drop, Some, None, Option}
use Rattle.limits.specs.Limits.{most_atoms}
use Rattle.paper.specs.Rules.{HeadsBelow}
use Rattle.words.specs.Layout.{records_of, rules_of, words_of, drop_groups}
use Rattle.paper.specs.Fires.{wholly}

-- the m groups from place `at` on end at `next`
pub record GroupsSkipped (t : List ℕ) (at m next : ℕ) : Type 0 where
  pub after : drop next t ≡ drop_groups m (drop at t)
  pub inside : next ≤ length t
  pub not_before : at ≤ next

-- the first of the groups that is wholly in the set, the one at the front having number g
unfoldable pub which_from : (ℕ → Bool) → ℕ → List (List ℕ) → Option ℕ
which_from S g [] = None
which_from S g (β ∷ βs) = cond (wholly S β) (Some g) (which_from S (suc g) βs)

-- from place `at` on stand records with heads among 1,024 literals
pub record Records (t : List ℕ) (at : ℕ) : Type 0 where
  pub inside : at ≤ length t
  pub words : drop at t ≡ words_of (records_of (drop at t))
  pub heads : HeadsBelow most_atoms (rules_of (drop at t))
