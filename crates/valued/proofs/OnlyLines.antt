-- Whether the values are a model, and where they are none, does not depend on line numbers. Assumes nothing.
use mathlib.Core.List.{List, [], ◌∷◌, cons≢nil, head-eq_of_cons-eq, tail-eq_of_cons-eq}
use mathlib.Core.Path.{◌≡◌, refl, sym, ap, subst}
use Prim.Native.Nat.{ℕ, zero, suc}
use native.Mathlib.Omega.{arith}
use lib.ListN.{length, take, length-append}
use Rattle.sets.specs.First.{FirstNot, this_one, later_one}
use Rattle.refusal.specs.Checks.{Checked}
use Rattle.refusal.specs.Numbers.{not_a_model}
use Rattle.paper.specs.Rules.{Rule}
use Rattle.paper.specs.Definitions.{Interpretation, Model}
use Rattle.words.specs.Layout.{TableRecord, record_words, groups_words, words_of, records_of, rules_in, rules_of}
use Rattle.valued.specs.Model.{Satisfied, ModelAllows, is_a_model, is_none}
use Rattle.std.specs.Prelude.{Err}

-- the words of as many records with the same rules
same_words : (n : ℕ) (Q P : List TableRecord) → rules_in Q ≡ rules_in P → length (words_of (take n Q)) ≡ length (words_of (take n P))
unfolding words_of
same_words zero Q P e = refl
same_words (suc n) [] [] e = refl
same_words (suc n) [] (p ∷ P) e = absurd (cons≢nil (sym e))
same_words (suc n) (q ∷ Q) [] e = absurd (cons≢nil e)
same_words (suc n) (q ∷ Q) (p ∷ P) e =
    let r = ap (λ (ρ : Rule). length (groups_words ρ.groups)) (head-eq_of_cons-eq e) in
    let s = same_words n Q P (tail-eq_of_cons-eq e) in
    let a = length-append (record_words q) (words_of (take n Q)) in
    let b = length-append (record_words p) (words_of (take n P)) in
    omega arith

module _ (I : Interpretation) where
  same_first : (Q P : List TableRecord) {n : ℕ} → rules_in Q ≡ rules_in P → FirstNot (Satisfied I) Q n → FirstNot (Satisfied I) P n
  same_first [] P {n = n} e f = elim f [ ]
  same_first (q ∷ Q) [] e f = absurd (cons≢nil e)
  same_first (q ∷ Q) (p ∷ P) e (this_one f) = this_one (λ m. f (subst (λ (ρ : Rule). Model (ρ ∷ []) I) (sym (head-eq_of_cons-eq e)) m))
  same_first (q ∷ Q) (p ∷ P) e (later_one h f) =
      later_one (subst (λ (ρ : Rule). Model (ρ ∷ []) I) (head-eq_of_cons-eq e) h) (same_first Q P (tail-eq_of_cons-eq e) f)

  pub model_alike : (t u : List ℕ) → rules_of t ≡ rules_of u → {r : Checked} → ModelAllows I t r → ModelAllows I u r
  model_alike t u e (is_a_model m) = is_a_model (subst (λ (R : List Rule). Model R I) e m)
  model_alike t u e (is_none {n = n} f) =
      subst (λ (p : ℕ). ModelAllows I u (Err (not_a_model p))) (sym (same_words n (records_of t) (records_of u) e))
      (is_none (same_first (records_of t) (records_of u) e f))
