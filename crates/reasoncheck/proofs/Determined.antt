-- Two answers that the checker's promise allows are equal. Assumes nothing.
use mathlib.Core.Bool.{Bool, true, false}
use mathlib.Core.List.Memᴰ
use mathlib.Core.List.{List, [], ◌∷◌, ◌++◌, append_assoc}
use mathlib.Core.Logic.{⊎_elim}
use mathlib.Core.Path.{◌≡◌, refl, sym, ap, ◌∙◌, subst, subst⁻¹}
use Prim.Native.Nat.{ℕ, suc, ◌*◌, ◌≤◌, ◌<◌}
use native.Mathlib.Omega.{arith}
use lib.Dec.{leb}
use lib.ListN.{length, take, drop, take-append-drop}
use lib.Seq.{take-take}
use borrow.Author.Tests.{leb-true, leb-false}
use Rattle.sets.specs.Sets.{◌∈◌}
use Rattle.sets.proofs.First.{All, first_determined, all_or_first}
use Rattle.refusal.specs.declared.Refusal.{Refusal}
use Rattle.refusal.specs.Checks.{Checked}
use Rattle.refusal.specs.Numbers.{text_broken, line_not_justified, not_a_model}
use Rattle.refusal.proofs.Laws.{refused≢accepted}
use Rattle.paper.specs.Rules.{Rule}
use Rattle.paper.specs.Definitions.{Interpretation, Model}
use Rattle.words.specs.Layout.{TableRecord, words_of, records_of, rules_in, rules_of}
use Rattle.values.specs.Given.{given}
use Rattle.valued.specs.Model.{Satisfied, ModelAllows, is_a_model, is_none}
use Rattle.reasontext.specs.ReasonSheet.{ReasonLine, IsReasonText, Beginning, Broken}
use Rattle.reasontext.specs.Reading.{read_text, lines_in}
use Rattle.reasontext.proofs.Texts.{good_lines}
use Rattle.reasoncheck.specs.ReasonCheck.{check_fault, LineHolds, CheckAllows, is_broken, no_model, not_wanted, not_justified, accepts}
use Rattle.reasoncheck.specs.Matching.{JudgeAllows, wants_another, not_all_hold, all_hold}
use Rattle.reasoncheck.proofs.Matches.{apart_determined, same_not_apart}
use Rattle.std.specs.Prelude.{Ok, Err}

-- a beginning of a beginning is one
shorter : (text : List ℕ) (p q : ℕ) → p ≤ q → Beginning (take q text) → Beginning (take p text)
shorter text p q h b =
    let whole : take p text ++ (drop p (take q text) ++ b.0) ≡ take q text ++ b.0 =
    sym (append_assoc (take p text) (drop p (take q text)) b.0)
    ∙ ap (λ (x : List ℕ). (x ++ drop p (take q text)) ++ b.0) (sym (take-take p q text h))
    ∙ ap (λ (x : List ℕ). x ++ b.0) (take-append-drop p (take q text))
    in
    (drop p (take q text) ++ b.0, b.1, subst⁻¹ (λ (x : List ℕ). IsReasonText x b.1) whole b.2)

not_earlier : {text : List ℕ} {p q : ℕ} → Broken text p → Broken text q → p < q → ⊥
not_earlier {text} {p} {q} a b h =
    let i = b.inside in
    a.no_further (omega arith) (shorter text (suc p) q (omega arith) b.so_far)

broken_determined : {text : List ℕ} {p q : ℕ} → Broken text p → Broken text q → p ≡ q
broken_determined {text} {p} {q} a b = go (leb p q) refl (leb q p) refl
  where
    go : (x : Bool) → leb p q ≡ x → (y : Bool) → leb q p ≡ y → p ≡ q
    go false e y f = absurd (not_earlier b a (leb-false p q e))
    go true e false f = absurd (not_earlier a b (leb-false q p f))
    go true e true f = let h = leb-true p q e in let k = leb-true q p f in omega arith

-- a model satisfies each record
each_satisfied : (I : Interpretation) (Q : List TableRecord) → Model (rules_in Q) I → All (Satisfied I) Q
each_satisfied I [] m x i = absurd (Memᴰ.not-nil i)
each_satisfied I (r ∷ Q) m x i =
    ⊎_elim (λ (e : x ≡ r). λ ρ k. m ρ (first ρ (subst (λ (y : TableRecord). ρ ∈ (y.rule ∷ [])) e k)))
    (λ (k : x ∈ Q). each_satisfied I Q (λ ρ j. m ρ (Memᴰ.tail j)) x k) (Memᴰ.cases_cons i)
  where
    first : (ρ : Rule) → ρ ∈ (r.rule ∷ []) → ρ ∈ rules_in (r ∷ Q)
    first ρ k = ⊎_elim (λ (e : ρ ≡ r.rule). Memᴰ.head e) (λ (j : ρ ∈ []). absurd (Memᴰ.not-nil j)) (Memᴰ.cases_cons k)

model_determined : {I : Interpretation} {t : List ℕ} {a b : Checked} → ModelAllows I t a → ModelAllows I t b → a ≡ b
model_determined (is_a_model m) (is_a_model m') = refl
model_determined {I} {t} (is_a_model m) (is_none f) = absurd (all_or_first (Satisfied I) (each_satisfied I (records_of t) m) f)
model_determined {I} {t} (is_none f) (is_a_model m) = absurd (all_or_first (Satisfied I) (each_satisfied I (records_of t) m) f)
model_determined {I} {t} (is_none f) (is_none g) =
    ap (λ (n : ℕ). Err (not_a_model (length (words_of (take n (records_of t)))))) (first_determined (Satisfied I) f g)

judge_determined : {R : List Rule} {I : Interpretation} {n : ℕ} {ls : List ReasonLine} {a b : Checked}
    → JudgeAllows R I n ls a → JudgeAllows R I n ls b → a ≡ b
judge_determined (wants_another f) (wants_another g) = ap (λ (k : ℕ). Err (line_not_justified (suc k))) (apart_determined f g)
judge_determined (wants_another f) (not_all_hold e g) = absurd (same_not_apart f e)
judge_determined (wants_another f) (all_hold e g) = absurd (same_not_apart f e)
judge_determined (not_all_hold e f) (wants_another g) = absurd (same_not_apart g e)
judge_determined {R} {I} {n} {ls} (not_all_hold e f) (not_all_hold e' g) =
    ap (λ (k : ℕ). Err (line_not_justified (suc k))) (first_determined (LineHolds R I ls) f g)
judge_determined {R} {I} {n} {ls} (not_all_hold e f) (all_hold e' g) = absurd (all_or_first (LineHolds R I ls) g f)
judge_determined (all_hold e f) (wants_another g) = absurd (same_not_apart g e)
judge_determined {R} {I} {n} {ls} (all_hold e f) (not_all_hold e' g) = absurd (all_or_first (LineHolds R I ls) f g)
judge_determined (all_hold e f) (all_hold e' g) = refl

-- a text is broken or good
data TextSays (text : List ℕ) : Checked → Type 0 where
  says_broken : {p : ℕ} → Broken text p → TextSays text (Err (text_broken p))
  says_good : {ls : List ReasonLine} → IsReasonText text ls → TextSays text (Ok tt)

text_determined : {text : List ℕ} {a b : Checked} → TextSays text a → TextSays text b → a ≡ b
text_determined (says_broken x) (says_broken y) = ap (λ (p : ℕ). Err (text_broken p)) (broken_determined x y)
text_determined (says_broken x) (says_good {ls = ls} g) = absurd (x.not_good ls g)
text_determined (says_good {ls = ls} g) (says_broken y) = absurd (y.not_good ls g)
text_determined (says_good g) (says_good h) = refl

-- one part after the other: the first that refuses decides
data Then (part rest : Checked → Type 0) : Checked → Type 0 where
  stops : {f : Refusal} → part (Err f) → Then part rest (Err f)
  goes_on : {x : Checked} → part (Ok tt) → rest x → Then part rest x

abbrev Determined : (Checked → Type 0) → Type 0
Determined part = (a b : Checked) → part a → part b → a ≡ b

then_determined : {part rest : Checked → Type 0} → Determined part → Determined rest
    → {a b : Checked} → Then part rest a → Then part rest b → a ≡ b
then_determined d e {a} {b} (stops p) (stops q) = d a b p q
then_determined d e {a} {b} (stops {f = f} p) (goes_on q y) = absurd (refused≢accepted f (d a (Ok tt) p q))
then_determined d e {a} {b} (goes_on p x) (stops {f = f} q) = absurd (refused≢accepted f (d b (Ok tt) q p))
then_determined d e {a} {b} (goes_on p x) (goes_on q y) = e a b x y

module _ (N : ℕ) (t values text : List ℕ) where
  abbrev InParts : Checked → Type 0
  InParts =
      Then (λ x. check_fault N t values ≡ x)
      (Then (TextSays text)
      (Then (ModelAllows (given N values) t) (JudgeAllows (rules_of t) (given N values) (2 * N) (lines_in (read_text text).numbers))))

  judged : {ls : List ReasonLine} {a : Checked} → IsReasonText text ls → JudgeAllows (rules_of t) (given N values) (2 * N) ls a
      → JudgeAllows (rules_of t) (given N values) (2 * N) (lines_in (read_text text).numbers) a
  judged {ls} {a} g j = subst (λ (x : List ReasonLine). JudgeAllows (rules_of t) (given N values) (2 * N) x a) (good_lines text ls g) j

  in_parts : {a : Checked} → CheckAllows N t values text a → InParts a
  in_parts (CheckAllows.refused e) = stops e
  in_parts (is_broken e b) = goes_on e (stops (says_broken b))
  in_parts (no_model e ls g m) = goes_on e (goes_on (says_good g) (stops m))
  in_parts (not_wanted e ls g m f) = goes_on e (goes_on (says_good g) (goes_on (is_a_model m) (judged g (wants_another f))))
  in_parts (not_justified e ls g m c f) = goes_on e (goes_on (says_good g) (goes_on (is_a_model m) (judged g (not_all_hold c f))))
  in_parts (accepts e ls g m c f) = goes_on e (goes_on (says_good g) (goes_on (is_a_model m) (judged g (all_hold c f))))

  pub check_determined : {a b : Checked} → CheckAllows N t values text a → CheckAllows N t values text b → a ≡ b
  check_determined x y =
      then_determined (λ a b e f. sym e ∙ f)
      (λ a b. then_determined (λ a b. text_determined) (λ a b. then_determined (λ a b. model_determined) (λ a b. judge_determined)))
      (in_parts x) (in_parts y)
