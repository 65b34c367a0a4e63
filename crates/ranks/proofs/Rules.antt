-- What a rule adds, and a pass over rules: one that adds nothing has nothing to add. Assumes nothing.
use mathlib.Core.Bool.{Bool, true, false, not, cond, ◌||◌}
use mathlib.Core.List.Memᴰ
use mathlib.Core.List.{List, [], ◌∷◌, cons≢nil}
use mathlib.Core.Logic.{⊎_elim}
use mathlib.Core.Path.{◌≡◌, refl, sym, ap, ◌∙◌, subst}
use Prim.Native.Nat.{ℕ, ◌≤◌, ◌<◌}
use native.Mathlib.Omega.{arith}
use lib.Dec.{T}
use lib.ListN.{length}
use Rattle.sets.specs.Sets.{◌∈◌}
use Rattle.sets.proofs.Tests.{or_cases}
use Rattle.paper.specs.Rules.{Rule, HeadsBelow, atom}
use Rattle.paper.specs.Marking.{Marks}
use Rattle.paper.specs.Fires.{fires}
use Rattle.paper.proofs.Closure.{Fires, →fires}
use Rattle.bits.specs.Sets.{member}
use Rattle.least.specs.Groups.{GroupNumber, Wholly, WhichAllows, is_a_fact}
use Rattle.least.proofs.Groups.{walk_allowed, named, number≤length, none_fires}
use Rattle.ranks.specs.declared.Found.{Found}
use Rattle.ranks.specs.declared.Adds.{Adds}
use Rattle.ranks.specs.declared.Adds.TheVariants.{Nothing, OneLine, TwoLines}
use Rattle.ranks.specs.Found.{as_pair, Fit, CanAdd, with_line, answer_for, line_by_group, line_by, or_else_adds, by_clean, not_its_turn, adds_at, adding, at_rule, over_rules}
use Rattle.ranks.proofs.Lines.{Moves, moves_refl, moves_trans, line_moves, negation_too, negation_moves}
use Rattle.std.specs.Prelude.{Some, None, Option}

pub answer_allowed : (S : ℕ → Bool) (βs : List (List ℕ)) → WhichAllows S βs (answer_for S βs)
answer_allowed S [] = is_a_fact refl
answer_allowed S (β ∷ βs) = walk_allowed S (β ∷ βs) cons≢nil refl

-- a group's number is at most how many there are
answered≤length : (S : ℕ → Bool) {βs : List (List ℕ)} {g : ℕ} → WhichAllows S βs (Some g) → g ≤ length βs
answered≤length S {βs} {g} a =
    ⊎_elim (λ (f : (βs ≡ []) × (g ≡ 0)). let z = f.1 in omega arith)
    (λ (q : (β : List ℕ) × GroupNumber βs g β × Wholly S β). number≤length q.1) (named S a)

-- the head has no line yet, and is of the kind looked for
abbrev pub Due : Bool → Marks → Found → ℕ → Type 0
Due marked A st l = T (not (member st.ranked l)) × (A (atom l) ≡ marked)

pub due : (marked : Bool) (A : Marks) (st : Found) (l : ℕ) → T (not (not_its_turn marked A st.ranked l)) → Due marked A st l
due marked A st l = go (member st.ranked l) marked (A (atom l))
  where
    go : (a m b : Bool) → T (not (a || cond m (not b) b)) → T (not a) × (b ≡ m)
    go true m b h = absurd h
    go false true true h = (tt, refl)
    go false true false h = absurd h
    go false false true h = absurd h
    go false false false h = (tt, refl)

wrong_kind : (m b : Bool) → b ≡ m → T (cond m (not b) b) → ⊥
wrong_kind true true e h = h
wrong_kind true false e h = subst T (sym e) tt
wrong_kind false true e h = subst T e tt
wrong_kind false false e h = h

-- why a rule adds what it adds
pub data Added (marked : Bool) (clean : List ℕ) (A : Marks) (st : Found) (ρ : Rule) : Adds → Type 0 where
  not_due : T (not_its_turn marked A st.ranked ρ.head) → Added marked clean A st ρ Nothing
  no_group : WhichAllows (member st.ranked) ρ.groups None → Added marked clean A st ρ Nothing
  one_line : {g : ℕ} → Due marked A st ρ.head → WhichAllows (member (cond marked clean st.ranked)) ρ.groups (Some g)
      → Added marked clean A st ρ (OneLine g)
  two_lines : {g : ℕ} → marked ≡ true → Due marked A st ρ.head → WhichAllows (member clean) ρ.groups None
      → WhichAllows (member st.ranked) ρ.groups (Some g) → Added marked clean A st ρ (TwoLines g)

module _ (clean : List ℕ) (A : Marks) (st : Found) (ρ : Rule) where
  added_unmarked : Due false A st ρ.head → Added false clean A st ρ (line_by st.ranked ρ.groups)
  unfolding line_by
  added_unmarked d = go (answer_for (member st.ranked) ρ.groups) (answer_allowed (member st.ranked) ρ.groups)
    where
      go : (w : Option ℕ) → WhichAllows (member st.ranked) ρ.groups w → Added false clean A st ρ (line_by_group w)
      go (Some g) a = one_line d a
      go None a = no_group a

  added_inconsistent : Due true A st ρ.head → WhichAllows (member clean) ρ.groups None
      → Added true clean A st ρ (as_pair (line_by st.ranked ρ.groups))
  unfolding line_by
  added_inconsistent d n = go (answer_for (member st.ranked) ρ.groups) (answer_allowed (member st.ranked) ρ.groups)
    where
      go : (w : Option ℕ) → WhichAllows (member st.ranked) ρ.groups w → Added true clean A st ρ (as_pair (line_by_group w))
      go (Some g) a = two_lines refl d n a
      go None a = no_group a

  added_marked : Due true A st ρ.head → Added true clean A st ρ (by_clean clean st.ranked ρ.groups)
  unfolding by_clean line_by
  added_marked d = go (answer_for (member clean) ρ.groups) (answer_allowed (member clean) ρ.groups)
    where
      go : (w : Option ℕ) → WhichAllows (member clean) ρ.groups w
          → Added true clean A st ρ (or_else_adds (line_by_group w) (as_pair (line_by st.ranked ρ.groups)))
      go (Some g) a = one_line d a
      go None a = added_inconsistent d a

  pub at_rule_lem : (marked : Bool) → Added marked clean A st ρ (adds_at marked clean A st.ranked ρ)
  unfolding adds_at
  at_rule_lem marked = go (not_its_turn marked A st.ranked ρ.head) (λ t. not_due t) (λ t. kinds marked (due marked A st ρ.head t))
    where
      kinds : (m : Bool) → Due m A st ρ.head
          → Added m clean A st ρ (cond m (by_clean clean st.ranked ρ.groups) (line_by st.ranked ρ.groups))
      kinds true d = added_marked d
      kinds false d = added_unmarked d

      go : {f : Adds} (b : Bool) → (T b → Added marked clean A st ρ Nothing) → (T (not b) → Added marked clean A st ρ f)
          → Added marked clean A st ρ (cond b Nothing f)
      go true x y = x tt
      go false x y = y tt

module _ {marked : Bool} {clean : List ℕ} {A : Marks} {st : Found} {ρ : Rule} (fit : Fit st) (below : ρ.head < 1024) where
  added_moves : {a : Adds} → Added marked clean A st ρ a → Moves st (adding st ρ.head a)
  unfolding adding
  added_moves (not_due t) = moves_refl fit
  added_moves (no_group a) = moves_refl fit
  added_moves (one_line {g = g} d a) = line_moves st ρ.head ρ.head g fit below d.0
  added_moves (two_lines {g = g} e d n a) =
      let m = line_moves st ρ.head ρ.head g fit below d.0 in
      moves_trans m (negation_moves m.fit below (negation_too (with_line st ρ.head ρ.head g) ρ.head g))

  -- a rule that adds nothing has its head ranked, or does not fire
  added_nothing : {a : Adds} → Added marked clean A st ρ a → adding st ρ.head a ≡ st → A (atom ρ.head) ≡ marked
      → Fires (member st.ranked) ρ → T (member st.ranked ρ.head)
  unfolding adding
  added_nothing (not_due t) e k f =
      ⊎_elim (λ (m : T (member st.ranked ρ.head)). m)
      (λ (w : T (cond marked (not (A (atom ρ.head))) (A (atom ρ.head)))). absurd (wrong_kind marked (A (atom ρ.head)) k w))
      (or_cases (member st.ranked ρ.head) (cond marked (not (A (atom ρ.head))) (A (atom ρ.head))) t)
  added_nothing (no_group a) e k f =
      absurd (subst T (sym (none_fires (member st.ranked) ρ a refl)) (→fires (member st.ranked) ρ f))
  added_nothing (one_line d a) e k f = let n = ap (λ (z : Found). z.next_rank) e in absurd (omega arith)
  added_nothing (two_lines {g = g} m d n a) e k f =
      let q = line_moves st ρ.head ρ.head g fit below d.0 in
      let more = (negation_moves q.fit below (negation_too (with_line st ρ.head ρ.head g) ρ.head g)).more in
      let same = ap (λ (z : Found). z.next_rank) e in
      absurd (omega arith)

  -- what a rule adds can be added
  pub added_can : length ρ.groups < 65536 → {a : Adds} → Added marked clean A st ρ a → CanAdd st ρ.head a
  added_can few (not_due t) = tt
  added_can few (no_group a) = tt
  added_can few (one_line d a) = record {
    fit = fit;
    new = d.0;
    literal = below;
    head_literal = below;
    group_fits = let k = answered≤length (member (cond marked clean st.ranked)) a in omega arith;
  }
  added_can few (two_lines e d n a) =
      record { fit = fit; new = d.0; literal = below; head_literal = below; group_fits = let k = answered≤length (member st.ranked) a in omega arith }

module _ (marked : Bool) (clean : List ℕ) (A : Marks) where
  pub rule_moves : (st : Found) (ρ : Rule) → Fit st → ρ.head < 1024 → Moves st (at_rule marked clean A st ρ)
  rule_moves st ρ f h = added_moves f h (at_rule_lem clean A st ρ marked)

  pub pass_moves : (R : List Rule) → HeadsBelow 512 R → (st : Found) → Fit st → Moves st (over_rules marked clean A R st)
  unfolding over_rules
  pass_moves [] b st f = moves_refl f
  pass_moves (ρ ∷ R) b st f =
      let m = rule_moves st ρ f (b ρ (Memᴰ.head refl)) in
      moves_trans m (pass_moves R (λ σ k. b σ (Memᴰ.tail k)) (at_rule marked clean A st ρ) m.fit)

  -- a pass that adds nothing had nothing to add
  still : (R : List Rule) → HeadsBelow 512 R → (st : Found) → Fit st → over_rules marked clean A R st ≡ st
      → (ρ : Rule) → ρ ∈ R → at_rule marked clean A st ρ ≡ st
  unfolding over_rules
  still [] b st f e ρ m = absurd (Memᴰ.not-nil m)
  still (σ ∷ R) b st f e ρ m =
      let st₁ : Found = at_rule marked clean A st σ in
      let first = rule_moves st σ f (b σ (Memᴰ.head refl)) in
      let later = pass_moves R (λ τ k. b τ (Memᴰ.tail k)) st₁ first.fit in
      let same = ap (λ (z : Found). z.next_rank) e in
      let p = first.more in
      let q = later.more in
      let e₁ : st₁ ≡ st = first.still (omega arith) in
      ⊎_elim (λ (k : ρ ≡ σ). rw k e₁)
      (λ (k : ρ ∈ R). still R (λ τ i. b τ (Memᴰ.tail i)) st f (ap (over_rules marked clean A R) (sym e₁) ∙ e) ρ k)
      (Memᴰ.cases_cons m)

  pub still_closed : (R : List Rule) → HeadsBelow 512 R → (st : Found) → Fit st → over_rules marked clean A R st ≡ st
      → (ρ : Rule) → ρ ∈ R → A (atom ρ.head) ≡ marked → Fires (member st.ranked) ρ → T (member st.ranked ρ.head)
  still_closed R b st f e ρ m k fires = added_nothing f (b ρ m) (at_rule_lem clean A st ρ marked) (still R b st f e ρ m) k fires

  -- what each rule keeps, a pass keeps
  pub pass_keeps : (Inv : Found → Type 0) (R : List Rule)
      → ((st : Found) (ρ : Rule) → ρ ∈ R → Inv st → Inv (at_rule marked clean A st ρ))
      → (st : Found) → Inv st → Inv (over_rules marked clean A R st)
  unfolding over_rules
  pass_keeps Inv [] keeps st i = i
  pass_keeps Inv (ρ ∷ R) keeps st i =
      pass_keeps Inv R (λ s σ m. keeps s σ (Memᴰ.tail m)) (at_rule marked clean A st ρ)
      (keeps st ρ (Memᴰ.head refl) i)
