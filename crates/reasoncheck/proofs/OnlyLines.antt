-- The checker answers alike for tables that are alike. Assumes nothing.
use mathlib.Core.List.{List}
use mathlib.Core.Path.{◌≡◌, ap, ◌∙◌, subst}
use Prim.Native.Nat.{ℕ}
use lib.ListN.{length, take}
use Rattle.sets.specs.First.{FirstNot}
use Rattle.refusal.specs.Checks.{Checked, or_else}
use Rattle.paper.specs.Rules.{Rule}
use Rattle.paper.specs.Definitions.{Model}
use Rattle.words.specs.Layout.{rules_of}
use Rattle.words.proofs.OnlyLines.{Alike}
use Rattle.values.specs.Given.{given}
use Rattle.valued.proofs.OnlyLines.{model_alike}
use Rattle.evaluation.proofs.OnlyLines.{same_evaluation}
use Rattle.reasoncheck.specs.ReasonCheck.{codes_fault, check_fault, LineHolds, CheckAllows, refused, is_broken, no_model, not_wanted, not_justified, accepts}
use Rattle.reasoncheck.proofs.Determined.{check_determined}

module _ (N : ℕ) (t u values text : List ℕ) (alike : Alike t u) where
  same_fault : check_fault N u values ≡ check_fault N t values
  unfolding check_fault
  same_fault = ap (λ (c : Checked). or_else c (codes_fault 0 (take N values))) (same_evaluation N t u alike (length values))

  model : Model (rules_of t) (given N values) → Model (rules_of u) (given N values)
  model m = subst (λ (R : List Rule). Model R (given N values)) alike.rules m

  pub check_of : {r : Checked} → CheckAllows N t values text r → CheckAllows N u values text r
  check_of (refused e) = refused (same_fault ∙ e)
  check_of (is_broken e b) = is_broken (same_fault ∙ e) b
  check_of (no_model e ls g m) = no_model (same_fault ∙ e) ls g (model_alike (given N values) t u alike.rules m)
  check_of (not_wanted e ls g m f) = not_wanted (same_fault ∙ e) ls g (model m) f
  check_of (not_justified e ls g m c {n = n} f) =
      not_justified (same_fault ∙ e) ls g (model m) c (subst (λ (R : List Rule). FirstNot (LineHolds R (given N values) ls) ls n) alike.rules f)
  check_of (accepts e ls g m c f) =
      accepts (same_fault ∙ e) ls g (model m) c (λ x i. subst (λ (R : List Rule). LineHolds R (given N values) ls x) alike.rules (f x i))

  pub check_alike : {x y : Checked} → CheckAllows N t values text x → CheckAllows N u values text y → x ≡ y
  check_alike o o' = check_determined N u values text (check_of o) o'
