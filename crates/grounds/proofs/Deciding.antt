-- A line is justified by the rule that it names exactly if the tests say so. Assumes nothing.
use mathlib.Core.Bool.{Bool, true, false, true≢false, cond, ◌&&◌}
use mathlib.Core.List.Memᴰ
use mathlib.Core.List.{List, [], ◌∷◌, cons≢nil}
use mathlib.Core.Logic.{◌⊎◌, inl, inr, ⊎_elim}
use mathlib.Core.Path.{◌≡◌, refl, sym, ap, ◌∙◌, subst}
use Prim.Native.Nat.{ℕ, zero, suc, ◌≤◌, ◌<◌}
use native.Mathlib.Omega.{arith}
use lib.Dec.{eqb, ltb→lt, lt→ltb}
use borrow.Author.Tests.{eqb-true, eq-eqb, ne_eqb}
use Rattle.sets.specs.Sets.{◌∈◌}
use Rattle.sets.proofs.Tests.{T→true, true→T, and_both}
use Rattle.paper.specs.Table1.{𝐢, 𝐭, code}
use Rattle.paper.specs.Rules.{Rule, negation}
use Rattle.paper.specs.Fires.{wholly, no_groups}
use Rattle.paper.specs.Definitions.{Interpretation, value, group_value, body_value, Carries, SupportsRuleOf, RestsOnInconsistent}
use Rattle.paper.proofs.Closure.{wholly→, →wholly}
use Rattle.paper.proofs.Values.{3≤code→𝐭, code2→𝐢, body_of_fact}
use Rattle.least.specs.Groups.{GroupNumber, first_group, later_group, Wholly, OnlyGroup, the_fact, the_group}
use Rattle.least.proofs.Groups.{from_1}
use Rattle.justified.specs.Justified.{Justified, by_6_or_7, by_8}
use Rattle.justified.specs.declared.Line.{Line}
use Rattle.justified.specs.ByLiteral.{rank_in}
use Rattle.justified.proofs.Ranked.{one_group_𝐢}
use Rattle.grounds.specs.Grounds.{below, carried, both_inconsistent, by_carried, grounds}

-- a group that carries a code
module _ (I : Interpretation) (S : ℕ → Bool) where
  record Carrying (βs : List (List ℕ)) (g c : ℕ) : Type 0 where
    group : List ℕ
    number : GroupNumber βs g group
    wholly_in : Wholly S group
    code_is : code (group_value I group) ≡ c

  carrying : (βs : List (List ℕ)) (g : ℕ) → 1 ≤ carried I S βs g → Carrying βs g (carried I S βs g)
  unfolding carried
  carrying [] g h = absurd (omega arith)
  carrying (β ∷ βs) zero h = absurd (omega arith)
  carrying (β ∷ βs) (suc zero) h = go (wholly S β) refl h
    where
      go : (b : Bool) → wholly S β ≡ b → 1 ≤ cond b (code (group_value I β)) 0 → Carrying (β ∷ βs) 1 (cond b (code (group_value I β)) 0)
      go false e k = absurd (omega arith)
      go true e k = record { group = β; number = first_group; wholly_in = wholly→ S β (true→T (wholly S β) e); code_is = refl }
  carrying (β ∷ βs) (suc (suc g)) h =
      let q = carrying βs (suc g) h in
      record { group = q.group; number = later_group q.number; wholly_in = q.wholly_in; code_is = q.code_is }

  carried_by : {βs : List (List ℕ)} {g : ℕ} {β : List ℕ} → GroupNumber βs g β → Wholly S β → carried I S βs g ≡ code (group_value I β)
  unfolding carried
  carried_by (first_group {β = β}) w = rw (T→true (wholly S β) (→wholly S β w)) refl
  carried_by (later_group {g = zero} n) w = let k = from_1 n in absurd (omega arith)
  carried_by (later_group {g = suc g} n) w = carried_by n w

no_groups_lem→ : (βs : List (List ℕ)) → no_groups βs ≡ true → βs ≡ []
no_groups_lem→ [] e = refl
no_groups_lem→ (β ∷ βs) e = absurd (true≢false (sym e))

module _ (I : Interpretation) (lines : List Line) (ρ : Rule) (l : ℕ) where
  abbrev before : ℕ → ℕ → Type 0
  before x y = rank_in lines x < rank_in lines y

  abbrev S : ℕ → Bool
  S = below lines (rank_in lines ρ.head)

  earlier : (β : List ℕ) → Wholly S β → (ι : ℕ) → ι ∈ β → before ι ρ.head
  earlier β w ι m = ltb→lt (rank_in lines ι) (rank_in lines ρ.head) (w ι m)

  wholly_below : (β : List ℕ) → ((ι : ℕ) → ι ∈ β → before ι ρ.head) → Wholly S β
  wholly_below β f ι m = lt→ltb (rank_in lines ι) (rank_in lines ρ.head) (f ι m)

  abbrev LineBy : ℕ → Type 0
  LineBy g = Justified (ρ ∷ []) I before l ρ.head g

  -- the tests pass: the line is justified
  by_carried_lem : (g c : ℕ) → carried I S ρ.groups g ≡ c → (ρ.head ≡ l) ⊎ (ρ.head ≡ negation l) → by_carried I ρ l c ≡ true → LineBy g
  by_carried_lem g c e own b = go (eqb c 3) refl (eqb c 2) refl b
    where
      σ : List ℕ → Rule
      σ β = record { head = ρ.head; groups = β ∷ [] }

      found : 1 ≤ c → Carrying I S ρ.groups g c
      found h = subst (Carrying I S ρ.groups g) e (carrying I S ρ.groups g (rw e h))

      go : (x : Bool) → eqb c 3 ≡ x → (y : Bool) → eqb c 2 ≡ y → cond x (eqb l ρ.head) (cond y (both_inconsistent I ρ l) false) ≡ true
          → Justified (ρ ∷ []) I before l ρ.head g
      go true ex y ey k =
          let q = found (let z = eqb-true c 3 ex in omega arith) in
          let z = eqb-true c 3 ex in
          let v = q.code_is in
          let t : group_value I q.group ≡ 𝐭 = 3≤code→𝐭 (group_value I q.group) (omega arith) in
          by_6_or_7 ρ (σ q.group) (Memᴰ.head refl, refl) (the_group q.number) (
            σ q.group,
            (Memᴰ.head refl, sym (eqb-true l ρ.head k)),
            inr (q.group, Memᴰ.head refl, t, earlier q.group q.wholly_in),
          )
      go false ex true ey k =
          let q = found (let z = eqb-true c 2 ey in omega arith) in
          let z = eqb-true c 2 ey in
          let v = q.code_is in
          let t : group_value I q.group ≡ 𝐢 = code2→𝐢 (group_value I q.group) (omega arith) in
          let both = and_both (eqb (code (value I l)) 2) (eqb (code (body_value I ρ.groups)) 2) k in
          by_8 ρ (σ q.group) (Memᴰ.head refl, refl) (the_group q.number)
          (code2→𝐢 (value I l) (eqb-true (code (value I l)) 2 both.0))
          (code2→𝐢 (body_value I ρ.groups) (eqb-true (code (body_value I ρ.groups)) 2 both.1)) (
            σ q.group,
            ⊎_elim (λ h. inl (Memᴰ.head refl, h)) (λ h. inr (Memᴰ.head refl, h)) own,
            one_group_𝐢 I q.group t,
            (q.group, Memᴰ.head refl, t, earlier q.group q.wholly_in),
          )
      go false ex false ey k = absurd (true≢false (sym k))

  pub grounds→justified : (g : ℕ) → (ρ.head ≡ l) ⊎ (ρ.head ≡ negation l) → grounds I S ρ l g ≡ true → LineBy g
  unfolding grounds
  grounds→justified g own b = go (eqb g 0) refl b
    where
      go : (z : Bool) → eqb g 0 ≡ z → cond z (no_groups ρ.groups && eqb l ρ.head) (by_carried I ρ l (carried I S ρ.groups g)) ≡ true
          → Justified (ρ ∷ []) I before l ρ.head g
      go true e k =
          let q = and_both (no_groups ρ.groups) (eqb l ρ.head) k in
          let f : ρ.groups ≡ [] = no_groups_lem→ ρ.groups q.0 in
          rw (eqb-true g 0 e)
          (by_6_or_7 ρ ρ (Memᴰ.head refl, refl) (the_fact f) (ρ, (Memᴰ.head refl, sym (eqb-true l ρ.head q.1)), inl f))
      go false e k = by_carried_lem g (carried I S ρ.groups g) refl own k

  -- the line is justified: the tests pass
  t_passes : {g : ℕ} {β : List ℕ} → GroupNumber ρ.groups g β → group_value I β ≡ 𝐭 → Wholly S β → ρ.head ≡ l
      → grounds I S ρ l g ≡ true
  unfolding grounds
  t_passes {g} n t w e =
      let k = from_1 n in
      let z : eqb g 0 ≡ false = ne_eqb g 0 (λ x. omega arith) in
      rw (z, carried_by I S n w, t) (eq-eqb l ρ.head (sym e))

  i_passes : {g : ℕ} {β : List ℕ} → GroupNumber ρ.groups g β → group_value I β ≡ 𝐢 → Wholly S β → value I l ≡ 𝐢 → body_value I
      ρ.groups ≡ 𝐢
      → grounds I S ρ l g ≡ true
  unfolding grounds
  i_passes {g} n t w v b =
      let k = from_1 n in
      let z : eqb g 0 ≡ false = ne_eqb g 0 (λ x. omega arith) in
      rw (z, carried_by I S n w, t, v, b) refl

  supported_passes : {g : ℕ} {σ : Rule} → OnlyGroup ρ g σ → SupportsRuleOf (σ ∷ []) I before l → grounds I S ρ l g ≡ true
  unfolding grounds
  supported_passes (the_fact e) s =
      let r : s.0 ≡ ρ = Memᴰ.eq_of_singleton s.1.0 in
      let h : ρ.head ≡ l = subst (λ (z : Rule). z.head ≡ l) r s.1.1 in
      rw (e, eq-eqb l ρ.head (sym h)) refl
  supported_passes {σ = σ} (the_group {β = β} n) s =
      let r : s.0 ≡ σ = Memᴰ.eq_of_singleton s.1.0 in
      let h : ρ.head ≡ l = subst (λ (z : Rule). z.head ≡ l) r s.1.1 in
      ⊎_elim (λ (f : s.0.groups ≡ []). absurd (cons≢nil (ap (λ (z : Rule). z.groups) (sym r) ∙ f)))
      (λ (c : Carries I before s.0 𝐭).
      let c' : Carries I before σ 𝐭 = subst (λ (z : Rule). Carries I before z 𝐭) r c in
      let e : c'.0 ≡ β = Memᴰ.eq_of_singleton c'.1 in
      t_passes n (subst (λ (γ : List ℕ). group_value I γ ≡ 𝐭) e c'.2)
      (wholly_below β (subst (λ (γ : List ℕ). (ι : ℕ) → ι ∈ γ → before ι ρ.head) e c'.3)) h)
      s.2

  rests_passes : {g : ℕ} {σ : Rule} → OnlyGroup ρ g σ → value I l ≡ 𝐢 → body_value I ρ.groups ≡ 𝐢 → RestsOnInconsistent
      (σ ∷ []) I before l → grounds I S ρ l g ≡ true
  rests_passes (the_fact e) v b q = let k : code 𝐢 ≡ code 𝐭 = ap code (sym b ∙ body_of_fact I ρ.groups e) in absurd (omega arith)
  rests_passes {σ = σ} (the_group {β = β} n) v b q =
      let r : q.0 ≡ σ = ⊎_elim (λ x. Memᴰ.eq_of_singleton x.0) (λ x. Memᴰ.eq_of_singleton x.0) q.1 in
      let c : Carries I before σ 𝐢 = subst (λ (z : Rule). Carries I before z 𝐢) r q.3 in
      let e : c.0 ≡ β = Memᴰ.eq_of_singleton c.1 in
      i_passes n (subst (λ (γ : List ℕ). group_value I γ ≡ 𝐢) e c.2)
      (wholly_below β (subst (λ (γ : List ℕ). (ι : ℕ) → ι ∈ γ → before ι ρ.head) e c.3)) v b

  pub justified→grounds : (g : ℕ) → LineBy g → grounds I S ρ l g ≡ true
  justified→grounds g (by_6_or_7 τ σ r o s) =
      let e : τ ≡ ρ = Memᴰ.eq_of_singleton r.0 in supported_passes (subst (λ (z : Rule). OnlyGroup z g σ) e o) s
  justified→grounds g (by_8 τ σ r o v b q) =
      let e : τ ≡ ρ = Memᴰ.eq_of_singleton r.0 in
      rests_passes (subst (λ (z : Rule). OnlyGroup z g σ) e o) v (subst (λ (z : Rule). body_value I z.groups ≡ 𝐢) e b) q
