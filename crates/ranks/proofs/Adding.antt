-- What the record at a place of a table adds, by what was asked there. Assumes nothing.
use mathlib.Core.Bool.{Bool, true, false}
use mathlib.Core.List.{List}
use mathlib.Core.Path.{◌≡◌, refl, sym, ap, ◌∙◌, subst⁻¹}
use Prim.Native.Nat.{ℕ, ◌<◌}
use lib.ListN.{length, get_or}
use Rattle.paper.specs.Rules.{negation}
use Rattle.paper.specs.Marking.{Marks}
use Rattle.bits.specs.Sets.{member}
use Rattle.words.specs.RecordAt.{rule_at}
use Rattle.least.specs.Groups.{WhichAllows}
use Rattle.least.proofs.Groups.{which_determined}
use Rattle.ranks.specs.declared.Found.{Found}
use Rattle.ranks.specs.declared.Adds.{Adds}
use Rattle.ranks.specs.declared.Adds.TheVariants.{Nothing, OneLine, TwoLines}
use Rattle.ranks.specs.Found.{as_pair, Fit, Addable, CanAdd, RecordStands, answer_for, line_by, or_else_adds, by_clean, with_line, with_negation, not_its_turn, adds_at}
use Rattle.ranks.proofs.Lines.{line_moves}
use Rattle.ranks.proofs.Rules.{answer_allowed, at_rule_lem, added_can}
use Rattle.std.specs.Prelude.{Some, None, Option}

-- the answer is the one that is allowed
answer_is : (S : ℕ → Bool) (βs : List (List ℕ)) {w v : Option ℕ} → WhichAllows S βs w → w ≡ v → answer_for S βs ≡ v
answer_is S βs a e = which_determined S (answer_allowed S βs) a ∙ e

-- what a row adds
module _ (s : List ℕ) (βs : List (List ℕ)) {w : Option ℕ} (a : WhichAllows (member s) βs w) where
  pub line_by_lem : {g : ℕ} → w ≡ Some g → OneLine g ≡ line_by s βs
  unfolding line_by
  line_by_lem e = rw (answer_is (member s) βs a e)

  pub nothing_by : w ≡ None → Nothing ≡ line_by s βs
  unfolding line_by
  nothing_by e = rw (answer_is (member s) βs a e)

-- a line by clean literals, or else what the others add
module _ (clean s : List ℕ) (βs : List (List ℕ)) where
  pub clean_first : {first : Adds} → first ≡ line_by clean βs → (first ≡ Nothing → ⊥) → first ≡ by_clean clean s βs
  unfolding by_clean
  clean_first {first} e f = go first f ∙ ap (λ (x : Adds). or_else_adds x (as_pair (line_by s βs))) e
    where
      go : (x : Adds) → (x ≡ Nothing → ⊥) → x ≡ or_else_adds x (as_pair (line_by s βs))
      go Nothing k = absurd (k refl)
      go (OneLine g) k = refl
      go (TwoLines g) k = refl

  module _ {first second : Adds} (none : first ≡ line_by clean βs) (e : second ≡ line_by s βs) where
    pub second_one : {g : ℕ} → first ≡ Nothing → second ≡ OneLine g → TwoLines g ≡ by_clean clean s βs
    unfolding by_clean
    second_one f k = rw (sym none ∙ f, sym e ∙ k)

    pub second_other : first ≡ Nothing → ((g : ℕ) → second ≡ OneLine g → ⊥) → second ≡ by_clean clean s βs
    unfolding by_clean
    second_other f k = rw (sym none ∙ f) (go second k ∙ ap as_pair e)
      where
        go : (x : Adds) → ((g : ℕ) → x ≡ OneLine g → ⊥) → x ≡ as_pair x
        go Nothing k = refl
        go (OneLine g) k = absurd (k g refl)
        go (TwoLines g) k = refl

-- a record is passed over, or adds what is due
module _ (marked : Bool) (clean : List ℕ) (A : Marks) (s t : List ℕ) (at : ℕ) {head : ℕ} {over : Bool}
    (head_is : head ≡ get_or t at 0) (asked : over ≡ not_its_turn marked A s head) where
  turn_is : {b : Bool} → over ≡ b → not_its_turn marked A s (get_or t at 0) ≡ b
  turn_is e = sym (ap (not_its_turn marked A s) head_is) ∙ sym asked ∙ e

  pub adds_nothing : over ≡ true → Nothing ≡ adds_at marked clean A s (rule_at t at)
  unfolding adds_at
  adds_nothing e = rw (turn_is e)

  pub adds_by_clean : over ≡ false → marked ≡ true → {adds : Adds} → adds ≡ by_clean clean s (rule_at t at).groups
      → adds ≡ adds_at marked clean A s (rule_at t at)
  unfolding adds_at
  adds_by_clean e m f = rw (turn_is e, m) f

  pub adds_by_ranked : over ≡ false → marked ≡ false → {adds : Adds} → adds ≡ line_by s (rule_at t at).groups
      → adds ≡ adds_at marked clean A s (rule_at t at)
  unfolding adds_at
  adds_by_ranked e m f = rw (turn_is e, m) f

-- the negation has a line, or one can be added
module _ (st : Found) (head group : ℕ) {has : Bool} (asked : has ≡ member st.ranked (negation head)) where
  pub negation_has_line : has ≡ true → st ≡ with_negation st head group
  unfolding with_negation
  negation_has_line e = rw (sym asked ∙ e)

  module _ (new : has ≡ false) where
    pub negation_gets_line : {st' : Found} → st' ≡ with_line st (negation head) head group → st' ≡ with_negation st head group
    unfolding with_negation
    negation_gets_line f = rw (sym asked ∙ new) f

-- after the head's line
pub line_added_fit : (st : Found) (head g : ℕ) → Addable st head head g → {st₁ : Found} → st₁ ≡ with_line st head head g → Fit st₁
line_added_fit st head g a e = subst⁻¹ Fit e (line_moves st head head g a.fit a.literal a.new).fit

-- what was chosen can be added
pub chosen_can : (marked : Bool) (clean : List ℕ) (A : Marks) (t : List ℕ) (at : ℕ) (st : Found) {head : ℕ} {adds : Adds}
    → RecordStands t at → Fit st → length (rule_at t at).groups < 65536 → head ≡ get_or t at 0
    → adds ≡ adds_at marked clean A st.ranked (rule_at t at) → CanAdd st head adds
chosen_can marked clean A t at st r f few eh ea = rw (eh, ea) (added_can f r.head_literal few (at_rule_lem clean A st (rule_at t at) marked))
