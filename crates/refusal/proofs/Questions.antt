-- What an answer to a question tells. Assumes nothing.
use mathlib.Core.Logic.{◌↔◌}
use mathlib.Core.Path.{◌≡◌, refl, sym, ap, ◌∙◌, subst}
use Prim.Native.Nat.{ℕ}
use native.Mathlib.Omega.{arith}
use Rattle.refusal.specs.declared.Refusal.{Refusal}
use Rattle.refusal.specs.Checks.{Checked, Decided}
use Rattle.refusal.specs.Questions.{QuestionAllows, refused, answers_yes, answers_no}
use Rattle.refusal.proofs.Laws.{refused≢accepted}
use Rattle.std.specs.Prelude.{Ok, Err}
use mathlib.Core.Bool.{true, false}

-- two answers that are allowed are equal
pub question_determined : {fault : Checked} {asked : Type 0} {x y : Decided} → QuestionAllows fault asked x → QuestionAllows fault asked y → x ≡ y
question_determined (refused {f} e) (refused {f = g} e') = let q : f ≡ g = cc in ap Err q
question_determined (refused {f} e) (answers_yes e' a) = absurd (refused≢accepted f (sym e ∙ e'))
question_determined (refused {f} e) (answers_no e' n) = absurd (refused≢accepted f (sym e ∙ e'))
question_determined (answers_yes e a) (refused {f} e') = absurd (refused≢accepted f (sym e' ∙ e))
question_determined (answers_yes e a) (answers_yes e' a') = refl
question_determined (answers_yes e a) (answers_no e' n) = absurd (n a)
question_determined (answers_no e n) (refused {f} e') = absurd (refused≢accepted f (sym e' ∙ e))
question_determined (answers_no e n) (answers_yes e' a) = absurd (n a)
question_determined (answers_no e n) (answers_no e' n') = refl

-- the same fault, and the same asked in other words
pub question_same : {fault fault' : Checked} {asked asked' : Type 0} {x : Decided}
    → fault' ≡ fault → asked ↔ asked' → QuestionAllows fault asked x → QuestionAllows fault' asked' x
question_same s w (refused e) = refused (s ∙ e)
question_same s w (answers_yes e a) = answers_yes (s ∙ e) (w.0 a)
question_same s w (answers_no e n) = answers_no (s ∙ e) (λ a. n (w.1 a))

-- what is asked of two that are equal
pub asked_of : {A : Type 0} (asked : A → Type 0) {a b : A} → a ≡ b → asked a ↔ asked b
asked_of asked e = (subst asked e, subst asked (sym e))

-- the answer to what is asked the other way round
abbrev pub opposite : Decided → Decided
opposite (Ok true) = Ok false
opposite (Ok false) = Ok true
opposite (Err f) = Err f

pub opposite_twice : (x : Decided) → opposite (opposite x) ≡ x
opposite_twice (Ok true) = refl
opposite_twice (Ok false) = refl
opposite_twice (Err f) = refl

-- yes to the one is no to the other
pub question_opposite : {fault : Checked} {asked other : Type 0} {x : Decided}
    → other ↔ (asked → ⊥) → QuestionAllows fault asked x → QuestionAllows fault other (opposite x)
question_opposite w (refused e) = refused e
question_opposite w (answers_yes e a) = answers_no e (λ o. w.0 o a)
question_opposite w (answers_no e n) = answers_yes e (w.1 n)

pub yes_exactly_if : {fault : Checked} {asked : Type 0} {x : Decided} → fault ≡ Ok tt → QuestionAllows fault asked x → (x ≡ Ok true) ↔ asked
yes_exactly_if accepted o = (told o, λ a. question_determined o (answers_yes accepted a))
  where
    told : {fault : Checked} {asked : Type 0} {x : Decided} → QuestionAllows fault asked x → x ≡ Ok true → asked
    told (refused e) p = let z : ◌≡◌ {A = ℕ} 0 1 = cc in absurd (omega arith)
    told (answers_yes e a) p = a
    told (answers_no e n) p = let z : ◌≡◌ {A = ℕ} 0 1 = cc in absurd (omega arith)

-- a refusal is the fault
pub question_refused : {fault : Checked} {asked : Type 0} {x : Decided} → QuestionAllows fault asked x
    → {f : Refusal} → x ≡ Err f → fault ≡ Err f
question_refused (refused {f = g} e) {f} p = let q : g ≡ f = cc in e ∙ ap Err q
question_refused (answers_yes e a) p = let z : ◌≡◌ {A = ℕ} 0 1 = cc in absurd (omega arith)
question_refused (answers_no e n) p = let z : ◌≡◌ {A = ℕ} 0 1 = cc in absurd (omega arith)

pub never_refused : {fault : Checked} {asked : Type 0} {x : Decided}
    → fault ≡ Ok tt → QuestionAllows fault asked x → (f : Refusal) → x ≡ Err f → ⊥
never_refused accepted o f p = refused≢accepted f (sym (question_refused o p) ∙ accepted)
