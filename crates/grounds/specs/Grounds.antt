-- Stage: whether a rule justifies a line that names it, told from codes.
use Rattle.std.specs.Prelude.{Bool, false, cond, ◌&&◌, List, [], ◌∷◌, ◌↔◌, ℕ, zero, suc, ◌<◌, T, ltb, eqb}
use Rattle.paper.specs.Table1.{code}
use Rattle.paper.specs.Rules.{Rule, negation}
use Rattle.paper.specs.Fires.{wholly, no_groups}
use Rattle.paper.specs.Definitions.{Interpretation, value, group_value, body_value}
use Rattle.bits.specs.Sets.{put_in}
use Rattle.justified.specs.Justified.{Justified}
use Rattle.justified.specs.declared.Line.{Line}
use Rattle.justified.specs.ByLiteral.{rank_in, head_in, group_in}

-- the literals of smaller rank
abbrev pub below : List Line → ℕ → ℕ → Bool
below lines r x = ltb (rank_in lines x) r

-- the code of the value of the group of number g, if it is wholly in the set; 0 otherwise, and where there is none
unfoldable pub carried : Interpretation → (ℕ → Bool) → List (List ℕ) → ℕ → ℕ
carried I S [] g = 0
carried I S (β ∷ βs) zero = 0
carried I S (β ∷ βs) (suc zero) = cond (wholly S β) (code (group_value I β)) 0
carried I S (β ∷ βs) (suc (suc g)) = carried I S βs (suc g)

-- the literal and the whole body are i
abbrev pub both_inconsistent : Interpretation → Rule → ℕ → Bool
both_inconsistent I ρ l = eqb (code (value I l)) 2 && eqb (code (body_value I ρ.groups)) 2

-- by the code that a group carries
abbrev pub by_carried : Interpretation → Rule → ℕ → ℕ → Bool
by_carried I ρ l c = cond (eqb c 3) (eqb l ρ.head) (cond (eqb c 2) (both_inconsistent I ρ l) false)

-- does group g of the rule justify the line of l, or the fact if g is 0
unfoldable pub grounds : Interpretation → (ℕ → Bool) → Rule → ℕ → ℕ → Bool
grounds I S ρ l g = cond (eqb g 0) (no_groups ρ.groups && eqb l ρ.head) (by_carried I ρ l (carried I S ρ.groups g))

-- the line of l names the rule, and is justified by it
abbrev pub judged : Interpretation → List Line → Rule → ℕ → Bool
judged I lines ρ l = eqb (head_in lines l) ρ.head && grounds I (below lines (rank_in lines ρ.head)) ρ l (group_in lines l)

-- the set with l besides, if so
abbrev pub with_judged : List ℕ → ℕ → Bool → List ℕ
with_judged s l b = cond b (put_in s l) s

-- the set after both literals of the rule's head were looked at
abbrev pub judged_both : Interpretation → List Line → Rule → List ℕ → List ℕ
judged_both I lines ρ s =
    with_judged (with_judged s ρ.head (judged I lines ρ ρ.head)) (negation ρ.head) (judged I lines ρ (negation ρ.head))

-- the lines that the rules justify
abbrev pub JustifiedLines : List Rule → Interpretation → List Line → (ℕ → Bool) → Type 0
JustifiedLines R I lines S =
    (l : ℕ) → T (S l) ↔ Justified R I (λ x y. rank_in lines x < rank_in lines y) l (head_in lines l) (group_in lines l)
