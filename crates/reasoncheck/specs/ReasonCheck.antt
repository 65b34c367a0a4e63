-- Believed: the checker of a reason sheet: 1, 2, 3, words, 20, 21, 34, 22, else accepted.
use Rattle.std.specs.Prelude.{cond, List, [], ◌∷◌, ◌++◌, map, ◌≡◌, ℕ, zero, suc, ◌*◌, ◌≤◌, ◌<◌, leb, eqb, length, take, Ok, Err}
use Rattle.limits.specs.Limits.{most_rank}
use Rattle.sets.specs.Sets.{◌∈◌}
use Rattle.sets.specs.First.{FirstNot}
use Rattle.refusal.specs.declared.Refusal.{Refusal}
use Rattle.refusal.specs.Checks.{Checked, asking, or_else}
use Rattle.refusal.specs.Numbers.{not_a_truth_code, text_broken, line_not_justified}
use Rattle.paper.specs.Rules.{Rule}
use Rattle.paper.specs.Definitions.{Interpretation, Model}
use Rattle.words.specs.Layout.{rules_of}
use Rattle.values.specs.Given.{given}
use Rattle.valued.specs.Model.{ModelAllows}
use Rattle.justified.specs.Justified.{Justified}
use Rattle.reasontext.specs.ReasonSheet.{ReasonLine, IsReasonText, Broken}
use Rattle.evaluation.specs.Evaluation.{evaluation_fault}

-- 20: a value code above 3; the codes from atom a on
unfoldable pub codes_fault : ℕ → List ℕ → Checked
codes_fault a [] = Ok tt
codes_fault a (v ∷ vs) = asking (leb v 3) (not_a_truth_code a) (codes_fault (suc a) vs)

-- 1, 2, 3, words, 20
unfoldable pub check_fault : ℕ → List ℕ → List ℕ → Checked
check_fault N t values = or_else (evaluation_fault N t (length values)) (codes_fault 0 (take N values))

-- the literals below n that are in I, in code order: each wants a line
unfoldable pub literals_below : Interpretation → ℕ → List ℕ
literals_below I zero = []
literals_below I (suc l) = literals_below I l ++ cond (I l) (l ∷ []) []

-- the first line that is not the next wanted, by how many stand before it: out of order, missing or surplus
pub data FirstApart : List ℕ → List ℕ → ℕ → Type 0 where
  out_of_order : {x y : ℕ} {xs ys : List ℕ} → (x ≡ y → ⊥) → FirstApart (x ∷ xs) (y ∷ ys) 0
  missing : {x : ℕ} {xs : List ℕ} → FirstApart (x ∷ xs) [] 0
  surplus : {y : ℕ} {ys : List ℕ} → FirstApart [] (y ∷ ys) 0
  further : {x : ℕ} {xs ys : List ℕ} {n : ℕ} → FirstApart xs ys n → FirstApart (x ∷ xs) (x ∷ ys) (suc n)

abbrev pub codes_of : List ReasonLine → List ℕ
codes_of ls = map (λ (x : ReasonLine). x.literal) ls

-- a number in the line of literal l; 0 where l has none
unfoldable pub in_line_of : (ReasonLine → ℕ) → List ReasonLine → ℕ → ℕ
in_line_of f [] l = 0
in_line_of f (x ∷ ls) l = cond (eqb x.literal l) (f x) (in_line_of f ls l)

-- "smaller rank", the order
abbrev pub SmallerRank : List ReasonLine → ℕ → ℕ → Type 0
SmallerRank ls l m = in_line_of (λ x. x.rank) ls l < in_line_of (λ x. x.rank) ls m

-- a line satisfies Definitions 8 and 9 with that order, and its rank is at most 1,023
pub record LineHolds (R : List Rule) (I : Interpretation) (ls : List ReasonLine) (x : ReasonLine) : Type 0 where
  pub rank_small : x.rank ≤ most_rank
  pub justified : Justified R I (SmallerRank ls) x.literal x.rule_head x.group

pub data CheckAllows (N : ℕ) (t values text : List ℕ) : Checked → Type 0 where
  refused : {f : Refusal} → check_fault N t values ≡ Err f → CheckAllows N t values text (Err f)
  is_broken : check_fault N t values ≡ Ok tt → {p : ℕ} → Broken text p → CheckAllows N t values text (Err (text_broken p))
  no_model : check_fault N t values ≡ Ok tt → (ls : List ReasonLine) → IsReasonText text ls
      → {f : Refusal} → ModelAllows (given N values) t (Err f) → CheckAllows N t values text (Err f)
  not_wanted : check_fault N t values ≡ Ok tt → (ls : List ReasonLine) → IsReasonText text ls → Model (rules_of t) (given N values)
      → {n : ℕ} → FirstApart (literals_below (given N values) (2 * N)) (codes_of ls) n
      → CheckAllows N t values text (Err (line_not_justified (suc n)))
  not_justified : check_fault N t values ≡ Ok tt → (ls : List ReasonLine) → IsReasonText text ls → Model (rules_of t) (given N values)
      → literals_below (given N values) (2 * N) ≡ codes_of ls
      → {n : ℕ} → FirstNot (LineHolds (rules_of t) (given N values) ls) ls n
      → CheckAllows N t values text (Err (line_not_justified (suc n)))
  accepts : check_fault N t values ≡ Ok tt → (ls : List ReasonLine) → IsReasonText text ls → Model (rules_of t) (given N values)
      → literals_below (given N values) (2 * N) ≡ codes_of ls
      → ((x : ReasonLine) → x ∈ ls → LineHolds (rules_of t) (given N values) ls x)
      → CheckAllows N t values text (Ok tt)
