-- Laws of Definition 5's values: groups are minima, bodies maxima. Assumes nothing.
use mathlib.Core.Bool.{Bool, true, false, not, cond}
use mathlib.Core.List.Memᴰ
use mathlib.Core.List.{List, [], ◌∷◌}
use mathlib.Core.Logic.{◌⊎◌, inl, inr, ⊎_elim}
use mathlib.Core.Path.{◌≡◌, refl, ap, ◌∙◌}
use Prim.Native.Nat.{ℕ, ◌≤◌, ◌<◌, min, max}
use native.Mathlib.Omega.{arith}
use lib.Dec.{T, leb, leb→le, nleb→lt}
use Rattle.paper.specs.Table1.{Value, 𝐟, 𝐮, 𝐢, 𝐭, code, ◌and◌, ◌or◌, not', ◌implies◌}
use Rattle.paper.specs.Rules.{negation}
use Rattle.sets.specs.Sets.{◌∈◌}
use Rattle.paper.specs.Definitions.{Interpretation, by_membership, value, group_value, any_value, body_value}
use Rattle.sets.proofs.Tests.{T?, T→true, not→false}

pub 3≤code→𝐭 : (v : Value) → 3 ≤ code v → v ≡ 𝐭
3≤code→𝐭 𝐟 h = absurd (omega arith)
3≤code→𝐭 𝐮 h = absurd (omega arith)
3≤code→𝐭 𝐢 h = absurd (omega arith)
3≤code→𝐭 𝐭 h = refl

pub code2→𝐢 : (v : Value) → code v ≡ 2 → v ≡ 𝐢
code2→𝐢 𝐟 h = absurd (omega arith)
code2→𝐢 𝐮 h = absurd (omega arith)
code2→𝐢 𝐢 h = refl
code2→𝐢 𝐭 h = absurd (omega arith)

pub code_and : (v w : Value) → code (v and w) ≡ min (code v) (code w)
code_and v w = go (leb (code v) (code w)) (λ h. leb→le (code v) (code w) h) (λ h. nleb→lt (code v) (code w) h)
  where
    go : (b : Bool) → (T b → code v ≤ code w) → (T (not b) → code w < code v) → code (cond b v w) ≡ min (code v) (code w)
    go true f g = let h : code v ≤ code w = f tt in omega arith
    go false f g = let h : code w < code v = g tt in omega arith

pub code_or : (v w : Value) → code (v or w) ≡ max (code v) (code w)
code_or v w = go (leb (code v) (code w)) (λ h. leb→le (code v) (code w) h) (λ h. nleb→lt (code v) (code w) h)
  where
    go : (b : Bool) → (T b → code v ≤ code w) → (T (not b) → code w < code v) → code (cond b w v) ≡ max (code v) (code w)
    go true f g = let h : code v ≤ code w = f tt in omega arith
    go false f g = let h : code w < code v = g tt in omega arith

-- i and t say that the literal is in the set
module _ (I : Interpretation) where
  pub member→2≤ : (l : ℕ) → T (I l) → 2 ≤ code (value I l)
  member→2≤ l = go (I l) (I (negation l))
    where
      go : (p n : Bool) → T p → 2 ≤ code (by_membership p n)
      go true true h = omega arith
      go true false h = omega arith
      go false n h = absurd h

  pub 2≤→member : (l : ℕ) → 2 ≤ code (value I l) → T (I l)
  2≤→member l = go (I l) (I (negation l))
    where
      go : (p n : Bool) → 2 ≤ code (by_membership p n) → T p
      go true n h = tt
      go false true h = omega arith
      go false false h = omega arith

  pub alone→𝐭 : (l : ℕ) → T (I l) → T (not (I (negation l))) → value I l ≡ 𝐭
  alone→𝐭 l h k = rw (T→true (I l) h, not→false (I (negation l)) k)

  pub both→𝐢 : (l : ℕ) → T (I l) → T (I (negation l)) → value I l ≡ 𝐢
  both→𝐢 l h k = rw (T→true (I l) h, T→true (I (negation l)) k)

  pub 𝐭→member : (l : ℕ) → value I l ≡ 𝐭 → T (I l)
  𝐭→member l e = 2≤→member l (let h : code (value I l) ≡ 3 = ap code e in omega arith)

  pub 𝐭→alone : (l : ℕ) → value I l ≡ 𝐭 → T (not (I (negation l)))
  𝐭→alone l = go (I l) (I (negation l))
    where
      go : (p n : Bool) → by_membership p n ≡ 𝐭 → T (not n)
      go true true e = let h : ◌≡◌ {A = ℕ} 2 3 = ap code e in omega arith
      go true false e = tt
      go false true e = let h : ◌≡◌ {A = ℕ} 0 3 = ap code e in omega arith
      go false false e = tt

  pub 𝐢→negation : (l : ℕ) → value I l ≡ 𝐢 → T (I (negation l))
  𝐢→negation l = go (I l) (I (negation l))
    where
      go : (p n : Bool) → by_membership p n ≡ 𝐢 → T n
      go p true e = tt
      go true false e = let h : ◌≡◌ {A = ℕ} 3 2 = ap code e in omega arith
      go false false e = let h : ◌≡◌ {A = ℕ} 1 2 = ap code e in omega arith

  -- a group's value is at most each literal's, and is one of theirs or t
  pub group≤ : (β : List ℕ) (l : ℕ) → l ∈ β → code (group_value I β) ≤ code (value I l)
  unfolding group_value
  group≤ [] l m = absurd (Memᴰ.not-nil m)
  group≤ (x ∷ β) l m =
      let e = code_and (value I x) (group_value I β) in
      ⊎_elim (λ (p : l ≡ x). rw p (omega arith)) (λ (k : l ∈ β). let h = group≤ β l k in omega arith) (Memᴰ.cases_cons m)

  pub ≤group : (k : ℕ) → k ≤ 3 → (β : List ℕ) → ((l : ℕ) → l ∈ β → k ≤ code (value I l)) → k ≤ code (group_value I β)
  unfolding group_value
  ≤group k b [] f = b
  ≤group k b (x ∷ β) f =
      let e = code_and (value I x) (group_value I β) in
      let h = f x (Memᴰ.head refl) in
      let r = ≤group k b β (λ l m. f l (Memᴰ.tail m)) in
      omega arith

  pub group_member : (β : List ℕ) → 2 ≤ code (group_value I β) → (l : ℕ) → l ∈ β → T (I l)
  group_member β h l m = 2≤→member l (let k = group≤ β l m in omega arith)

  pub group_𝐭 : (β : List ℕ) → group_value I β ≡ 𝐭 → (l : ℕ) → l ∈ β → value I l ≡ 𝐭
  group_𝐭 β e l m =
      3≤code→𝐭 (value I l) (let k = group≤ β l m in let h : code (group_value I β) ≡ 3 = ap code e in omega arith)

  pub group_in_lem : (β : List ℕ) → ((l : ℕ) → l ∈ β → T (I l)) → 2 ≤ code (group_value I β)
  group_in_lem β f = ≤group 2 (omega arith) β (λ l m. member→2≤ l (f l m))

  pub all_𝐭→group_𝐭 : (β : List ℕ) → ((l : ℕ) → l ∈ β → value I l ≡ 𝐭) → group_value I β ≡ 𝐭
  all_𝐭→group_𝐭 β f =
      3≤code→𝐭 (group_value I β)
      (≤group 3 (omega arith) β (λ l m. let h : code (value I l) ≡ 3 = ap code (f l m) in omega arith))

  -- a body's value is at least each group's, and is one of theirs or that of the empty body
  any≥ : (βs : List (List ℕ)) (β : List ℕ) → β ∈ βs → code (group_value I β) ≤ code (any_value I βs)
  unfolding any_value
  any≥ [] β m = absurd (Memᴰ.not-nil m)
  any≥ (γ ∷ βs) β m =
      let e = code_or (group_value I γ) (any_value I βs) in
      ⊎_elim (λ (p : β ≡ γ). rw p (omega arith)) (λ (k : β ∈ βs). let h = any≥ βs β k in omega arith) (Memᴰ.cases_cons m)

  any_attained : (k : ℕ) → 1 ≤ k → (βs : List (List ℕ)) → k ≤ code (any_value I βs)
      → (β : List ℕ) × (β ∈ βs) × (k ≤ code (group_value I β))
  unfolding any_value
  any_attained k b [] h = absurd (omega arith)
  any_attained k b (γ ∷ βs) h = go (T? (leb k (code (group_value I γ)))) (any_attained k b βs)
    where
      go : Dec (T (leb k (code (group_value I γ))))
          → (k ≤ code (any_value I βs) → (β : List ℕ) × (β ∈ βs) × (k ≤ code (group_value I β)))
          → (β : List ℕ) × (β ∈ (γ ∷ βs)) × (k ≤ code (group_value I β))
      go (yes t) r = (γ, Memᴰ.head refl, leb→le k (code (group_value I γ)) t)
      go (no t) r =
          let e = code_or (group_value I γ) (any_value I βs) in
          let n : code (group_value I γ) < k = nleb→lt k (code (group_value I γ)) (lib.Dec.not_T (leb k (code (group_value I γ))) t) in
          let q = r (omega arith) in
          (q.0, Memᴰ.tail q.1, q.2)

  pub body_of_fact : (βs : List (List ℕ)) → βs ≡ [] → body_value I βs ≡ 𝐭
  unfolding body_value
  body_of_fact βs e = rw e

  pub body≥ : (βs : List (List ℕ)) (β : List ℕ) → β ∈ βs → code (group_value I β) ≤ code (body_value I βs)
  unfolding body_value
  body≥ [] β m = absurd (Memᴰ.not-nil m)
  body≥ (γ ∷ βs) β m = any≥ (γ ∷ βs) β m

  pub body_attained : (k : ℕ) → 1 ≤ k → (βs : List (List ℕ)) → k ≤ code (body_value I βs)
      → (βs ≡ []) ⊎ ((β : List ℕ) × (β ∈ βs) × (k ≤ code (group_value I β)))
  unfolding body_value
  body_attained k b [] h = inl refl
  body_attained k b (γ ∷ βs) h = inr (any_attained k b (γ ∷ βs) h)

-- when the implication is t
pub implies_holds : (b h : Value) → (b implies h) ≡ 𝐭 → 2 ≤ code b → 2 ≤ code h
implies_holds 𝐟 h e k = absurd (omega arith)
implies_holds 𝐮 h e k = absurd (omega arith)
implies_holds 𝐢 𝐟 e k = let h : ◌≡◌ {A = ℕ} 0 3 = ap code e in absurd (omega arith)
implies_holds 𝐢 𝐮 e k = let h : ◌≡◌ {A = ℕ} 0 3 = ap code e in absurd (omega arith)
implies_holds 𝐢 𝐢 e k = omega arith
implies_holds 𝐢 𝐭 e k = omega arith
implies_holds 𝐭 𝐟 e k = let h : ◌≡◌ {A = ℕ} 0 3 = ap code e in absurd (omega arith)
implies_holds 𝐭 𝐮 e k = let h : ◌≡◌ {A = ℕ} 0 3 = ap code e in absurd (omega arith)
implies_holds 𝐭 𝐢 e k = omega arith
implies_holds 𝐭 𝐭 e k = omega arith

pub low_body_implies : (b h : Value) → code b ≤ 1 → (b implies h) ≡ 𝐭
low_body_implies 𝐟 𝐟 k = refl
low_body_implies 𝐟 𝐮 k = refl
low_body_implies 𝐟 𝐢 k = refl
low_body_implies 𝐟 𝐭 k = refl
low_body_implies 𝐮 𝐟 k = refl
low_body_implies 𝐮 𝐮 k = refl
low_body_implies 𝐮 𝐢 k = refl
low_body_implies 𝐮 𝐭 k = refl
low_body_implies 𝐢 h k = absurd (omega arith)
low_body_implies 𝐭 h k = absurd (omega arith)

pub implies_𝐢 : (b : Value) → (b implies 𝐢) ≡ 𝐭
implies_𝐢 𝐟 = refl
implies_𝐢 𝐮 = refl
implies_𝐢 𝐢 = refl
implies_𝐢 𝐭 = refl

-- from an i body only i follows
pub 𝐢_implies : (h : Value) → (𝐢 implies h) ≡ 𝐭 → h ≡ 𝐢
𝐢_implies 𝐟 e = let k : ◌≡◌ {A = ℕ} 0 3 = ap code e in absurd (omega arith)
𝐢_implies 𝐮 e = let k : ◌≡◌ {A = ℕ} 0 3 = ap code e in absurd (omega arith)
𝐢_implies 𝐢 e = refl
𝐢_implies 𝐭 e = let k : ◌≡◌ {A = ℕ} 0 3 = ap code e in absurd (omega arith)

-- the negation has Table 1's NOT of the value
pub value_negation : (I : Interpretation) (l : ℕ) → value I (negation l) ≡ not' (value I l)
value_negation I l = ap (by_membership (I (negation l))) (ap I (twice l)) ∙ go (I l) (I (negation l))
  where
    twice : (x : ℕ) → negation (negation x) ≡ x
    twice x = omega arith

    go : (p n : Bool) → by_membership n p ≡ not' (by_membership p n)
    go true true = refl
    go true false = refl
    go false true = refl
    go false false = refl
