-- The parts of the check put together. Assumes nothing.
use mathlib.Core.List.{List, [], ◌∷◌}
use mathlib.Core.Path.{◌≡◌, refl, sym, ap, ◌∙◌, subst, subst⁻¹}
use Prim.Native.Nat.{ℕ, zero, suc, ◌+◌, ◌*◌, ◌≤◌, ◌<◌}
use native.Mathlib.Numerals.{add-one}
use native.Mathlib.Omega.{arith}
use lib.Dec.{leb}
use lib.ListN.{length, get_or, take, drop, drop_of_length-le}
use lib.Seq.{drop-cons, get_or-take, length-take-le}
use borrow.Author.Tests.{leb-true, le-leb, lt-leb}
use Rattle.refusal.specs.declared.Refusal.{Refusal}
use Rattle.refusal.specs.Checks.{Checked, or_else}
use Rattle.refusal.specs.Numbers.{not_a_truth_code}
use Rattle.refusal.proofs.Laws.{or_else_accepted, asking_accepted}
use Rattle.paper.specs.Rules.{Rule}
use Rattle.paper.specs.Definitions.{Interpretation, Model}
use Rattle.words.specs.Check.{AcceptedTable}
use Rattle.words.specs.Layout.{rules_of}
use Rattle.values.specs.Given.{given}
use Rattle.valued.specs.Valued.{Codes}
use Rattle.valued.specs.Model.{ModelAllows, is_a_model, is_none}
use Rattle.evaluation.specs.Evaluation.{evaluation_fault}
use Rattle.evaluation.proofs.Evaluated.{evaluation_accepted, accepted_evaluation}
use Rattle.justified.specs.declared.Line.{Line}
use Rattle.reasontext.specs.ReasonSheet.{ReasonLine}
use Rattle.reasontext.specs.Reading.{read_text, lines_in}
use Rattle.reasontext.proofs.Texts.{read_lines}
use Rattle.reasontext.proofs.Breaks.{read_broken}
use Rattle.reasoncheck.specs.ReasonCheck.{codes_fault, check_fault, literals_below, codes_of, CheckAllows, is_broken, no_model, not_wanted, not_justified, accepts}
use Rattle.reasoncheck.specs.Matching.{LinesHold, MatchAllows, all_matched, apart, JudgeAllows, wants_another, not_all_hold, all_hold}
use Rattle.std.specs.Prelude.{Ok, Err}

-- 20, one code after the other
module _ (vs : List ℕ) (n a : ℕ) where
  code_first : a < n → n ≤ length vs → drop a (take n vs) ≡ get_or vs a 0 ∷ drop (a + 1) (take n vs)
  code_first lt le =
      let e = length-take-le n vs le in
      drop-cons (take n vs) a 0 (omega arith) ∙ rw (get_or-take n vs a 0 lt, add-one a) refl

  pub code_good : a < n → n ≤ length vs → get_or vs a 0 ≤ 3 → {r : Checked} → codes_fault a (drop a (take n vs)) ≡ r
      → codes_fault (a + 1) (drop (a + 1) (take n vs)) ≡ r
  unfolding codes_fault
  code_good lt le h inv =
      sym (ap (codes_fault a) (code_first lt le) ∙ rw (le-leb (get_or vs a 0) 3 h)
      (ap (λ (x : ℕ). codes_fault x (drop (a + 1) (take n vs))) (sym (add-one a)))) ∙ inv

  pub code_bad : a < n → n ≤ length vs → 3 < get_or vs a 0 → {r : Checked} → codes_fault a (drop a (take n vs)) ≡ r → Err
      (not_a_truth_code a) ≡ r
  unfolding codes_fault
  code_bad lt le h inv = sym (ap (codes_fault a) (code_first lt le) ∙ rw (lt-leb (get_or vs a 0) 3 h) refl) ∙ inv

  pub code_end : n ≤ a → n ≤ length vs → {r : Checked} → codes_fault a (drop a (take n vs)) ≡ r → Ok tt ≡ r
  unfolding codes_fault
  code_end h le inv =
      let e = length-take-le n vs le in sym (ap (codes_fault a) (drop_of_length-le (take n vs) {i = a} (omega arith))) ∙ inv

codes_small : (vs : List ℕ) (a : ℕ) → codes_fault a vs ≡ Ok tt → (i : ℕ) → i < length vs → get_or vs i 0 ≤ 3
unfolding codes_fault
codes_small [] a e i h = absurd (omega arith)
codes_small (v ∷ vs) a e zero h =
    leb-true v 3 (asking_accepted (leb v 3) (not_a_truth_code a) (codes_fault (suc a) vs) e).0
codes_small (v ∷ vs) a e (suc i) h =
    codes_small vs (suc a) (asking_accepted (leb v 3) (not_a_truth_code a) (codes_fault (suc a) vs) e).1 i (omega arith)

-- no fault: an accepted table, and N codes
pub record Sound (N : ℕ) (t values : List ℕ) : Type 0 where
  pub atoms : N ≤ 512
  pub table : AcceptedTable N t
  pub codes : Codes N values

pub check_sound : (N : ℕ) (t values : List ℕ) → check_fault N t values ≡ Ok tt → Sound N t values
unfolding check_fault
check_sound N t values e =
    let p = or_else_accepted (evaluation_fault N t (length values)) (codes_fault 0 (take N values)) e in
    let q = evaluation_accepted N t (length values) p.0 in
    record {
      atoms = q.0;
      table = q.1;
      codes = record {
        enough = q.2;
        at_most_3 = λ a lt. subst (λ (x : ℕ). x ≤ 3) (get_or-take N values a 0 lt)
            (codes_small (take N values) 0 p.1 a (let l = length-take-le N values q.2 in omega arith));
      };
    }

-- what matching answers
module _ (R : List Rule) (I : Interpretation) (n : ℕ) (ls : List ReasonLine) where
  pub refused_judged : {x : Checked} {lines : List Line} {r : Refusal} → MatchAllows I n ls x lines → x ≡ Err r → JudgeAllows R I n ls
      (Err r)
  refused_judged (all_matched e h) s = let z : ◌≡◌ {A = ℕ} 0 1 = cc in absurd (omega arith)
  refused_judged (apart f) s = subst (JudgeAllows R I n ls) s (wants_another f)

pub accepted_matched : (I : Interpretation) (n : ℕ) (ls : List ReasonLine) {x : Checked} {lines : List Line} → MatchAllows I n ls x lines
    → x ≡ Ok tt → (literals_below I n ≡ codes_of ls) × LinesHold lines ls
accepted_matched I n ls (all_matched e h) s = (e, h)
accepted_matched I n ls (apart f) s = let z : ◌≡◌ {A = ℕ} 0 1 = cc in absurd (omega arith)

model_of : {I : Interpretation} {t : List ℕ} {x : Checked} → ModelAllows I t x → x ≡ Ok tt → Model (rules_of t) I
model_of (is_a_model m) s = m
model_of (is_none f) s = let z : ◌≡◌ {A = ℕ} 0 1 = cc in absurd (omega arith)

-- what the check allows, by what its parts find
module _ (N : ℕ) (t values text : List ℕ) (fine : check_fault N t values ≡ Ok tt) where
  pub text_refused : {r : Refusal} → (read_text text).fault ≡ Err r → CheckAllows N t values text (Err r)
  text_refused {r} e =
      let q = read_broken text e in subst⁻¹ (λ (x : Refusal). CheckAllows N t values text (Err x)) q.1 (is_broken fine q.2)

  module _ (good : (read_text text).fault ≡ Ok tt) where
    pub model_refused : {x : Checked} {r : Refusal} → ModelAllows (given N values) t x → x ≡ Err r → CheckAllows N t values text
        (Err r)
    model_refused m e = no_model fine (lines_in (read_text text).numbers) (read_lines text good) (subst (ModelAllows (given N values) t) e m)

    pub lines_judged : {x r : Checked} → ModelAllows (given N values) t x → x ≡ Ok tt
        → JudgeAllows (rules_of t) (given N values) (2 * N) (lines_in (read_text text).numbers) r → CheckAllows N t values text r
    lines_judged m e (wants_another f) = not_wanted fine (lines_in (read_text text).numbers) (read_lines text good) (model_of m e) f
    lines_judged m e (not_all_hold c f) = not_justified fine (lines_in (read_text text).numbers) (read_lines text good) (model_of m e) c f
    lines_judged m e (all_hold c f) = accepts fine (lines_in (read_text text).numbers) (read_lines text good) (model_of m e) c f

-- the faults in their order
module _ (N : ℕ) (t values : List ℕ) {x : Checked} (ex : x ≡ evaluation_fault N t (length values)) where
  pub fault_first : {r : Refusal} → x ≡ Err r → Err r ≡ check_fault N t values
  unfolding check_fault
  fault_first e = sym (ap (λ (y : Checked). or_else y (codes_fault 0 (take N values))) (sym ex ∙ e))

  pub fault_codes : {y : Checked} → x ≡ Ok tt → y ≡ codes_fault 0 (take N values) → y ≡ check_fault N t values
  unfolding check_fault
  fault_codes e ey = ey ∙ sym (ap (λ (z : Checked). or_else z (codes_fault 0 (take N values))) (sym ex ∙ e))

-- and an accepted table with N codes has no fault
codes_all_small : (vs : List ℕ) (a : ℕ) → ((i : ℕ) → i < length vs → get_or vs i 0 ≤ 3) → codes_fault a vs ≡ Ok tt
unfolding codes_fault
codes_all_small [] a f = refl
codes_all_small (v ∷ vs) a f = rw (le-leb v 3 (f 0 (omega arith))) (codes_all_small vs (suc a) (λ i h. f (suc i) (omega arith)))

pub sound_check : (N : ℕ) (t values : List ℕ) → AcceptedTable N t → Codes N values → check_fault N t values ≡ Ok tt
unfolding check_fault
sound_check N t values table codes =
    let c = length-take-le N values codes.enough in
    rw (accepted_evaluation N t (length values) table codes.enough)
    (codes_all_small (take N values) 0 (λ i h.
    let l : i < N = omega arith in subst⁻¹ (λ (x : ℕ). x ≤ 3) (get_or-take N values i 0 l) (codes.at_most_3 i l)))
