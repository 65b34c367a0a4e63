-- Which group: one answer for each set and body, when a rule fires by it, and what the group that it names carries by Definitions 8 and 9. Assumes nothing.
use mathlib.Core.Bool.{Bool, true, false, cond}
use mathlib.Core.List.Memᴰ
use mathlib.Core.List.{List, [], ◌∷◌, cons≢nil}
use mathlib.Core.Logic.{◌⊎◌, inl, inr, ⊎_elim}
use mathlib.Core.Path.{◌≡◌, refl, sym, ap, ◌∙◌, subst, subst⁻¹}
use Prim.Native.Nat.{ℕ, suc, ◌+◌, ◌≤◌, ◌<◌}
use native.Mathlib.Omega.{arith, by_contra}
use native.Mathlib.Nat.{le_antisymm}
use lib.Dec.{T}
use lib.ListN.{length}
use Rattle.sets.specs.Sets.{◌∈◌, ◌⊆◌}
use Rattle.sets.proofs.Tests.{T→true, true→T, refuted→false}
use Rattle.paper.specs.Table1.{Value, 𝐢, 𝐭, code}
use Rattle.paper.specs.Rules.{Rule}
use Rattle.paper.specs.Definitions.{Interpretation, value, group_value, body_value, Carries, Supports}
use Rattle.paper.specs.Fires.{wholly, fires}
use Rattle.paper.proofs.Closure.{Fires, fires→, →fires, wholly→, →wholly}
use Rattle.paper.proofs.Values.{group_in_lem, all_𝐭→group_𝐭, body≥, body_of_fact, code2→𝐢}
use Rattle.least.specs.Groups.{GroupNumber, first_group, later_group, Wholly, WhichAllows, is_a_fact, lowest_is, is_none, OnlyGroup, the_fact, the_group}
use Rattle.least.specs.Walk.{which_from}
use Rattle.std.specs.Prelude.{Some, None, Option}

-- numbers count from 1 to how many groups there are, and each is that of a group of the body; each group has one
pub from_1 : {βs : List (List ℕ)} {g : ℕ} {β : List ℕ} → GroupNumber βs g β → 1 ≤ g
from_1 first_group = omega arith
from_1 (later_group n) = omega arith

pub numbered_in : {βs : List (List ℕ)} {g : ℕ} {β : List ℕ} → GroupNumber βs g β → β ∈ βs
numbered_in first_group = Memᴰ.head refl
numbered_in (later_group n) = Memᴰ.tail (numbered_in n)

pub in_numbered : {βs : List (List ℕ)} {β : List ℕ} → β ∈ βs → (g : ℕ) × GroupNumber βs g β
in_numbered {βs = []} m = absurd (Memᴰ.not-nil m)
in_numbered {βs = γ ∷ βs} {β = β} m =
    ⊎_elim (λ (e : β ≡ γ). (1, subst⁻¹ (GroupNumber (γ ∷ βs) 1) e first_group))
    (λ (k : β ∈ βs). let n = in_numbered k in (suc n.0, later_group n.1)) (Memᴰ.cases_cons m)

pub number≤length : {βs : List (List ℕ)} {g : ℕ} {β : List ℕ} → GroupNumber βs g β → g ≤ length βs
number≤length first_group = omega arith
number≤length (later_group n) = let k = number≤length n in omega arith

module _ (S : ℕ → Bool) where
  -- what the walk finds, where g groups stand before those that it goes through
  data Walked (βs : List (List ℕ)) (g : ℕ) : Option ℕ → Type 0 where
    at_number : {n w : ℕ} {β : List ℕ} → w ≡ g + n → GroupNumber βs n β → Wholly S β
        → ((h : ℕ) (γ : List ℕ) → h < n → GroupNumber βs h γ → Wholly S γ → ⊥) → Walked βs g (Some w)
    nowhere : ((β : List ℕ) → β ∈ βs → Wholly S β → ⊥) → Walked βs g None

  walked : (βs : List (List ℕ)) (g : ℕ) → Walked βs g (which_from S (suc g) βs)
  unfolding which_from
  walked [] g = nowhere (λ β m w. Memᴰ.not-nil m)
  walked (β ∷ βs) g = go (wholly S β) refl (walked βs (suc g))
    where
      not_this : wholly S β ≡ false → Wholly S β → ⊥
      not_this e w = subst T e (→wholly S β w)

      none_below : (h : ℕ) (γ : List ℕ) → h < 1 → GroupNumber (β ∷ βs) h γ → Wholly S γ → ⊥
      none_below h γ lt n w = let k = from_1 n in absurd (omega arith)

      later : wholly S β ≡ false → {w : Option ℕ} → Walked βs (suc g) w → Walked (β ∷ βs) g w
      later e (at_number {n = n} {w = v} p k all lower) = at_number {n = suc n} {w = v} (omega arith) (later_group k) all below
        where
          below : (h : ℕ) (δ : List ℕ) → h < suc n → GroupNumber (β ∷ βs) h δ → Wholly S δ → ⊥
          below h δ lt first_group x = not_this e x
          below h δ lt (later_group {g = i} j) x = lower i δ (omega arith) j x
      later e (nowhere f) =
          nowhere (λ γ m x. ⊎_elim (λ (p : γ ≡ β). not_this e (subst (Wholly S) p x)) (λ (k : γ ∈ βs). f γ k x) (Memᴰ.cases_cons m))

      go : (b : Bool) → wholly S β ≡ b → Walked βs (suc g) (which_from S (suc (suc g)) βs)
          → Walked (β ∷ βs) g (cond b (Some (suc g)) (which_from S (suc (suc g)) βs))
      go true e r = at_number {n = 1} {w = suc g} (omega arith) first_group (wholly→ S β (true→T (wholly S β) e)) none_below
      go false e r = later e r

  -- so the walk through a body with groups finds what is promised
  pub walk_allowed : (βs : List (List ℕ)) {w : Option ℕ} → (βs ≡ [] → ⊥) → w ≡ which_from S 1 βs → WhichAllows S βs w
  walk_allowed βs some e = subst⁻¹ (WhichAllows S βs) e (go (walked βs 0))
    where
      go : {w : Option ℕ} → Walked βs 0 w → WhichAllows S βs w
      go (at_number {n = n} {w = v} p k all lower) =
          let e : v ≡ n = omega arith in subst⁻¹ (λ (x : ℕ). WhichAllows S βs (Some x)) e (lowest_is k all lower)
      go (nowhere f) = is_none some f

  -- 0 only for a fact, and any other number is that of a group wholly in the set
  pub named : {βs : List (List ℕ)} {g : ℕ} → WhichAllows S βs (Some g)
      → ((βs ≡ []) × (g ≡ 0)) ⊎ ((β : List ℕ) × GroupNumber βs g β × Wholly S β)
  named (is_a_fact e) = inl (e, refl)
  named (lowest_is {β = β} n w lower) = inr (β, n, w)

  no_number : {βs : List (List ℕ)} {g : ℕ} {β : List ℕ} → βs ≡ [] → GroupNumber βs g β → ⊥
  no_number {g = g} {β = β} e n = Memᴰ.not-nil (subst (λ (z : List (List ℕ)). β ∈ z) e (numbered_in n))

  -- one answer for each set and body
  pub which_determined : {βs : List (List ℕ)} {v w : Option ℕ} → WhichAllows S βs v → WhichAllows S βs w → v ≡ w
  which_determined (is_a_fact e) (is_a_fact f) = refl
  which_determined (is_a_fact e) (lowest_is n w l) = absurd (no_number e n)
  which_determined (is_a_fact e) (is_none s f) = absurd (s e)
  which_determined (lowest_is n w l) (is_a_fact f) = absurd (no_number f n)
  which_determined (lowest_is {g = g} {β = β} n w l) (lowest_is {g = h} {β = γ} m x k) =
      ap Some (le_antisymm (by_contra g h (λ lt. l h γ lt m x)) (by_contra h g (λ lt. k g β lt n w)))
  which_determined (lowest_is {g = g} {β = β} n w l) (is_none s f) = absurd (f β (numbered_in n) w)
  which_determined (is_none s f) (is_a_fact e) = absurd (s e)
  which_determined (is_none s f) (lowest_is {g = g} {β = β} n w l) = absurd (f β (numbered_in n) w)
  which_determined (is_none s f) (is_none s' f') = refl

  -- a rule fires by the answer
  pub number_fires : (ρ : Rule) {w : Option ℕ} (g : ℕ) → WhichAllows S ρ.groups w → w ≡ Some g → true ≡ fires S ρ
  number_fires ρ g a e = sym (T→true (fires S ρ) (→fires S ρ (⊎_elim
      (λ (f : (ρ.groups ≡ []) × (g ≡ 0)). inl f.0)
      (λ (q : (β : List ℕ) × GroupNumber ρ.groups g β × Wholly S β). inr (q.0, numbered_in q.1, q.2))
      (named (subst (WhichAllows S ρ.groups) e a)))))

  pub none_fires : (ρ : Rule) {w : Option ℕ} → WhichAllows S ρ.groups w → w ≡ None → false ≡ fires S ρ
  none_fires ρ a e = sym (refuted→false (fires S ρ) (λ h. go (subst (WhichAllows S ρ.groups) e a) (fires→ S ρ h)))
    where
      go : WhichAllows S ρ.groups None → Fires S ρ → ⊥
      go (is_none s f) (inl e) = s e
      go (is_none s f) (inr q) = f q.0 q.1 q.2

-- a rule with one group is carried by it
carries_alone : (I : Interpretation) (before : ℕ → ℕ → Type 0) (h : ℕ) (β : List ℕ) {v : Value}
    → group_value I β ≡ v → ((ι : ℕ) → ι ∈ β → before ι h) → Carries I before (record { head = h; groups = β ∷ [] }) v
carries_alone I before h β e f = (β, Memᴰ.head refl, e, f)

module _ (I : Interpretation) (before : ℕ → ℕ → Type 0) (ρ : Rule) where
  -- what carries or supports the rule that a number names does so for the whole rule
  pub only→carries : {g : ℕ} {σ : Rule} {v : Value} → OnlyGroup ρ g σ → Carries I before σ v → Carries I before ρ v
  only→carries (the_fact e) c = c
  only→carries (the_group {β = β} n) c = (
    c.0,
    ⊎_elim (λ (e : c.0 ≡ β). subst⁻¹ (λ (γ : List ℕ). γ ∈ ρ.groups) e (numbered_in n))
        (λ (m : c.0 ∈ []). absurd (Memᴰ.not-nil m))
        (Memᴰ.cases_cons c.1),
    c.2,
    c.3,
  )

  pub only→supports : {g : ℕ} {σ : Rule} → OnlyGroup ρ g σ → Supports I before σ → Supports I before ρ
  only→supports o (inr c) = inr (only→carries o c)
  only→supports (the_fact e) (inl f) = inl f
  only→supports (the_group n) (inl f) = absurd (cons≢nil f)

  -- any set of literals that stand before the head: where all are t, the rule named is supported; where all are in I and the body is i, it carries i
  module _ (S : ℕ → Bool) (earlier : (ι : ℕ) → T (S ι) → before ι ρ.head) where
    pub which→supports : {g : ℕ} → ((ι : ℕ) → T (S ι) → value I ι ≡ 𝐭) → WhichAllows S ρ.groups (Some g)
        → (σ : Rule) × OnlyGroup ρ g σ × Supports I before σ
    which→supports t (is_a_fact e) = (ρ, the_fact e, inl e)
    which→supports t (lowest_is {β = β} n w l) = (
      record { head = ρ.head; groups = β ∷ [] },
      the_group n,
      inr (carries_alone I before ρ.head β (all_𝐭→group_𝐭 I β (λ ι m. t ι (w ι m))) (λ ι m. earlier ι (w ι m))),
    )

    pub which→carries_𝐢 : {g : ℕ} → S ⊆ I → body_value I ρ.groups ≡ 𝐢 → WhichAllows S ρ.groups (Some g)
        → (σ : Rule) × OnlyGroup ρ g σ × Carries I before σ 𝐢
    which→carries_𝐢 s body (is_a_fact e) =
        let k : code 𝐢 ≡ code 𝐭 = ap code (sym body ∙ body_of_fact I ρ.groups e) in absurd (omega arith)
    which→carries_𝐢 s body (lowest_is {β = β} n w l) =
        let low = group_in_lem I β (λ ι m. s ι (w ι m)) in
        let high = body≥ I ρ.groups β (numbered_in n) in
        let e : code (body_value I ρ.groups) ≡ 2 = ap code body in (
          record { head = ρ.head; groups = β ∷ [] },
          the_group n,
          carries_alone I before ρ.head β (code2→𝐢 (group_value I β) (omega arith)) (λ ι m. earlier ι (w ι m)),
        )
