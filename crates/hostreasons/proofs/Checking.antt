-- The host's answers from what the checker finds. Assumes nothing.
use mathlib.Core.Bool.{Bool, true, false, cond}
use mathlib.Core.List.{List, [], ◌∷◌}
use mathlib.Core.Logic.{⊎_elim}
use mathlib.Core.Path.{◌≡◌, refl, sym, ap, ◌∙◌, subst, subst⁻¹}
use Prim.Native.Nat.{ℕ, suc, ◌/◌, ◌%◌, ◌≤◌, ◌<◌}
use native.Mathlib.Omega.{arith}
use lib.Dec.{leb}
use lib.ListN.{length, take}
use borrow.Author.Tests.{eq-eqb, ne_eqb, le-leb}
use Rattle.refusal.specs.declared.Refusal.{Refusal}
use Rattle.refusal.specs.Checks.{Checked}
use Rattle.refusal.specs.declared.Reason.TheVariants.{NotATruthCode, TextBroken, LineNotJustified, NotAModel}
use Rattle.refusal.specs.Numbers.{not_a_truth_code}
use Rattle.refusal.proofs.Laws.{or_else_nothing, or_else_known, demanding_holds}
use Rattle.refusal.proofs.Places.{PlacesTo}
use Rattle.refusal.proofs.Reasons.{HasReason, small_has_reason}
use Rattle.paper.specs.Definitions.{Interpretation}
use Rattle.valued.specs.Model.{ModelAllows, is_a_model, is_none}
use Rattle.evaluation.specs.Evaluation.{evaluation_fault}
use Rattle.evaluation.proofs.Laws.{evaluation_within}
use Rattle.host.specs.Bytes.{words_in, lone_byte, then_lone_byte}
use Rattle.host.specs.Evaluation.{host_fault, packed}
use Rattle.host.specs.WholeWords.{too_long_answer}
use Rattle.host.proofs.Bytes.{length_words_in}
use Rattle.host.proofs.Evaluating.{host_too_long}
use Rattle.host.proofs.Determined.{host_answer_tells}
use Rattle.reasoncheck.specs.ReasonCheck.{codes_fault, check_fault, CheckAllows, is_broken, no_model, not_wanted, not_justified, accepts}
use Rattle.reasoncheck.proofs.Checks.{fault_first}
use Rattle.reasoncheck.proofs.Determined.{check_determined}
use Rattle.hostreasons.specs.CheckBytes.{packed_check, HostCheck}
use Rattle.hostreasons.specs.Readable.{NumberSmall}
use Rattle.std.specs.Prelude.{Ok, Err}

-- a refusal's number is one of the documents'
abbrev pub KnownNumber : Checked → Type 0
KnownNumber (Ok tt) = Unit {0}
KnownNumber (Err f) = (1 ≤ f.number) × (f.number ≤ 34) × HasReason f

places_known : (b : ℕ) (x : Checked) → PlacesTo b x → KnownNumber x
places_known b (Ok tt) h = tt
places_known b (Err f) h = (h.2, omega (arith, h.0), small_has_reason b f h)

codes_known : (a : ℕ) (vs : List ℕ) → KnownNumber (codes_fault a vs)
unfolding codes_fault
codes_known a [] = tt
codes_known a (v ∷ vs) =
    demanding_holds KnownNumber Err (leb v 3) (not_a_truth_code a) (codes_fault (suc a) vs)
    (omega arith, omega arith, (NotATruthCode, refl)) (λ e. codes_known (suc a) vs)

fault_known : (N : ℕ) (t values : List ℕ) → KnownNumber (check_fault N t values)
unfolding check_fault
fault_known N t values =
    or_else_known KnownNumber (evaluation_fault N t (length values)) (codes_fault 0 (take N values))
    (places_known 8192 (evaluation_fault N t (length values)) (evaluation_within N t (length values))) (codes_known 0 (take N values))

model_known : {I : Interpretation} {t : List ℕ} {x : Checked} → ModelAllows I t x → KnownNumber x
model_known (is_a_model m) = tt
model_known (is_none f) = (omega arith, omega arith, (NotAModel, refl))

module _ (N : ℕ) (t values text : List ℕ) where
  pub check_known : {x : Checked} → CheckAllows N t values text x → KnownNumber x
  check_known (CheckAllows.refused e) = subst KnownNumber e (fault_known N t values)
  check_known (is_broken e b) = (omega arith, omega arith, (TextBroken, refl))
  check_known (no_model e ls g m) = model_known m
  check_known (not_wanted e ls g m f) = (omega arith, omega arith, (LineNotJustified, refl))
  check_known (not_justified e ls g m c f) = (omega arith, omega arith, (LineNotJustified, refl))
  check_known (accepts e ls g m c f) = tt

  pub check_small : (x : Checked) → CheckAllows N t values text x → NumberSmall x
  check_small x o f e = let k : KnownNumber (Err f) = subst KnownNumber e (check_known o) in omega (arith, k.1)

-- a place that has room is answered as it is
packed_small : (f : Refusal) → f.place ≤ 8192 → packed_check (Err f) ≡ packed f
packed_small f h = rw (le-leb f.place 4294967295 (omega arith)) refl

module _ (N : ℕ) (bs values text : List ℕ) where
  pub check_too_long : (a : ℕ) → 8192 < length bs / 2 → a ≡ too_long_answer N → HostCheck N bs values text a
  check_too_long a h e =
      ⊎_elim (λ q. absurd (not_nothing (leb N 512) (sym e ∙ q.1)))
      (λ q. subst⁻¹ (HostCheck N bs values text) q.2 (HostCheck.refused q.1))
      (host_answer_tells N bs values (host_too_long N bs values a h e))
    where
      not_nothing : (b : Bool) → ◌≡◌ {A = ℕ} (cond b 8589934592 4294967296) 0 → ⊥
      not_nothing true z = omega (arith, z)
      not_nothing false z = omega (arith, z)

  pub check_cut : (t : List ℕ) (fault : Checked) (r : Refusal) (a : ℕ) → length bs % 2 ≡ 1 → t ≡ words_in bs
      → fault ≡ evaluation_fault N t (length values) → then_lone_byte fault (length bs / 2) true ≡ Err r → a ≡ packed r
      → HostCheck N bs values text a
  unfolding host_fault
  check_cut t fault r a odd et ef e p =
      rw p (HostCheck.refused {f = r} (rw (eq-eqb (length bs % 2) 1 odd, ← et, ← ef, ap length et ∙ length_words_in bs) e))

  pub check_whole : (t : List ℕ) (r : Checked) (a : ℕ) → (length bs % 2 ≡ 1 → ⊥) → t ≡ words_in bs
      → CheckAllows N t values text r → a ≡ packed_check r → HostCheck N bs values text a
  unfolding host_fault
  check_whole t r a even et o p =
      rw p (go (evaluation_fault N (words_in bs) (length values)) refl (subst (λ (x : List ℕ). CheckAllows N x values text r) et o))
    where
      same : host_fault N (words_in bs) (lone_byte bs) (length values) ≡ evaluation_fault N (words_in bs) (length values)
      same = rw (ne_eqb (length bs % 2) 1 even) (or_else_nothing (evaluation_fault N (words_in bs) (length values)))

      go : (x : Checked) → evaluation_fault N (words_in bs) (length values) ≡ x → CheckAllows N (words_in bs) values text r
          → HostCheck N bs values text (packed_check r)
      go (Ok tt) e c = HostCheck.answered (same ∙ e) c
      go (Err f) e c =
          let first : Err f ≡ check_fault N (words_in bs) values = fault_first N (words_in bs) values refl e in
          let k : PlacesTo 8192 (Err f) = subst (PlacesTo 8192) e (evaluation_within N (words_in bs) (length values)) in
          let q : r ≡ Err f = check_determined N (words_in bs) values text c (CheckAllows.refused (sym first)) in
          subst⁻¹ (HostCheck N bs values text) (ap packed_check q ∙ packed_small f k.1) (HostCheck.refused (same ∙ e))
