-- The group of a number, in the words of a record. Assumes nothing.
use Rattle.std.specs.List.{list_all}
use mathlib.Core.Bool.{Bool, true, false, cond, ◌&&◌}
use mathlib.Core.List.Memᴰ
use mathlib.Core.List.{List, [], ◌∷◌}
use mathlib.Core.Path.{◌≡◌, refl, sym, ap, ap₂, ◌∙◌, subst, subst⁻¹}
use Prim.Native.Nat.{ℕ, zero, suc, ◌+◌, ◌-◌, ◌≤◌, ◌<◌}
use native.Mathlib.Omega.{arith}
use lib.ListN.{length, get_or, take, drop, length-drop}
use Rattle.sets.specs.Sets.{◌∈◌}
use Rattle.paper.specs.Table1.{code}
use Rattle.paper.specs.Fires.{wholly, no_groups}
use Rattle.paper.specs.Definitions.{Interpretation, group_value}
use Rattle.words.specs.Layout.{body_at, take_groups, drop_groups, literals_at}
use Rattle.words.specs.RecordAt.{groups_in, body_from, rule_at, WholeGroups}
use Rattle.words.proofs.Places.{word_at}
use Rattle.words.proofs.Reading.{length_take_groups}
use Rattle.least.specs.Walk.{GroupsSkipped}
use Rattle.grounds.specs.Grounds.{carried}

pub whole_fewer : (n m : ℕ) (ws : List ℕ) → n ≤ m → WholeGroups m ws → WholeGroups n ws
unfolding WholeGroups
whole_fewer zero m ws h w = tt
whole_fewer (suc n) zero ws h w = absurd (omega arith)
whole_fewer (suc n) (suc m) [] h w = absurd w
whole_fewer (suc n) (suc m) (k ∷ ws) h w = (w.0, whole_fewer n m (drop k ws) (omega arith) w.1)

-- the group of number g + 1 stands behind g groups
record Nth (m g : ℕ) (ws : List ℕ) : Type 0 where
  size : ℕ
  rest : List ℕ
  there : drop_groups g ws ≡ size ∷ rest
  fits : size ≤ length rest
  of_groups : take size rest ∈ take_groups m ws
  is_carried : (I : Interpretation) (S : ℕ → Bool)
      → carried I S (take_groups m ws) (suc g) ≡ cond (wholly S (take size rest)) (code (group_value I (take size rest))) 0

nth : (m g : ℕ) (ws : List ℕ) → WholeGroups m ws → g < m → Nth m g ws
unfolding WholeGroups take_groups drop_groups carried
nth zero g ws w h = absurd (omega arith)
nth (suc m) g [] w h = absurd w
nth (suc m) zero (k ∷ ws) w h =
    record { size = k; rest = ws; there = refl; fits = w.0; of_groups = Memᴰ.head refl; is_carried = λ I S. refl }
nth (suc m) (suc g) (k ∷ ws) w h =
    let q = nth m g (drop k ws) w.1 (omega arith) in
    record {
      size = q.size;
      rest = q.rest;
      there = q.there;
      fits = q.fits;
      of_groups = Memᴰ.tail q.of_groups;
      is_carried = q.is_carried;
    }

-- the group at a place of the table
pub record GroupAt (t : List ℕ) (first m g at : ℕ) : Type 0 where
  pub inside : at < length t
  pub fits : literals_at at + get_or t at 0 ≤ length t
  pub of_groups : take (get_or t at 0) (drop (literals_at at) t) ∈ take_groups m (drop first t)
  pub is_carried : (I : Interpretation) (S : ℕ → Bool) → carried I S (take_groups m (drop first t)) g
      ≡ cond (wholly S (take (get_or t at 0) (drop (literals_at at) t))) (code (group_value I (take (get_or t at 0) (drop (literals_at at) t)))) 0

pub group_at : (t : List ℕ) (first m g at : ℕ) → WholeGroups m (drop first t) → 1 ≤ g → g ≤ m → GroupsSkipped t first (g - 1) at
    → GroupAt t first m g at
group_at t first m zero at w l h s = absurd (omega arith)
group_at t first m (suc g) at w l h s =
    let q = nth m g (drop first t) w (omega arith) in
    let less : suc g - 1 ≡ g = omega arith in
    let e : drop at t ≡ q.size ∷ q.rest = s.after ∙ ap (λ (n : ℕ). drop_groups n (drop first t)) less ∙ q.there in
    let p = word_at t at q.size q.rest e in
    let β : take (get_or t at 0) (drop (literals_at at) t) ≡ take q.size q.rest = ap₂ take p.word p.after in
    record {
      inside = p.inside;
      fits =
          let a = p.word in
          let b : length (drop at t) ≡ suc (length q.rest) = ap length e in
          let c = length-drop at t in
          let d = q.fits in
          let i = p.inside in
          omega arith;
      of_groups = subst⁻¹ (λ (γ : List ℕ). γ ∈ take_groups m (drop first t)) β q.of_groups;
      is_carried = λ I S. q.is_carried I S ∙ ap (λ (γ : List ℕ). cond (wholly S γ) (code (group_value I γ)) 0) (sym β);
    }

-- the group of a number that a body has
pub group_of : (t : List ℕ) (at : ℕ) {m g first place : ℕ} → WholeGroups (groups_in t at) (body_from t at) → 1 ≤ g → g ≤ m
    → m ≡ groups_in t at → first ≡ body_at at → GroupsSkipped t first (g - 1) place → GroupAt t (body_at at) (groups_in t at) g place
group_of t at {g = g} {place = place} w one le e f s =
    group_at t (body_at at) (groups_in t at) _ _ w one (omega arith) (subst (λ (x : ℕ). GroupsSkipped t x (g - 1) place) f s)

-- the test of all literals of a group
all_is_wholly : (S : ℕ → Bool) (β : List ℕ) → list_all S β ≡ wholly S β
all_is_wholly S [] = refl
all_is_wholly S (x ∷ β) = ap (λ (b : Bool). S x && b) (all_is_wholly S β)

-- what it carries, by whether it is wholly in the set
module _ (t : List ℕ) (first m g at : ℕ) (q : GroupAt t first m g at) (I : Interpretation) (S : ℕ → Bool) {β : List ℕ} (b : Bool)
    (eβ : β ≡ take (get_or t at 0) (drop (literals_at at) t)) (eb : b ≡ list_all (λ l. S l) β) where
  whole_is : wholly S (take (get_or t at 0) (drop (literals_at at) t)) ≡ b
  whole_is = ap (wholly S) (sym eβ) ∙ sym (eb ∙ all_is_wholly S β)

  pub carried_whole : (v : ℕ) → b ≡ true → v ≡ code (group_value I β) → v ≡ carried I S (take_groups m (drop first t)) g
  carried_whole v e ev = ev ∙ ap (λ (γ : List ℕ). code (group_value I γ)) eβ ∙ sym (q.is_carried I S ∙ rw (whole_is ∙ e) refl)

  pub carried_not : b ≡ false → 0 ≡ carried I S (take_groups m (drop first t)) g
  carried_not e = sym (q.is_carried I S ∙ rw (whole_is ∙ e) refl)

-- no group has a number above their count
pub carried_past : (I : Interpretation) (S : ℕ → Bool) (βs : List (List ℕ)) (g : ℕ) → length βs < g → carried I S βs g ≡ 0
unfolding carried
carried_past I S [] g h = refl
carried_past I S (β ∷ βs) zero h = refl
carried_past I S (β ∷ βs) (suc zero) h = absurd (omega arith)
carried_past I S (β ∷ βs) (suc (suc g)) h = carried_past I S βs (suc g) (omega arith)

-- a record without groups is a fact, and no other
pub no_groups_lem : (t : List ℕ) (at m : ℕ) → m ≡ groups_in t at → m ≡ 0 → no_groups (rule_at t at).groups ≡ true
unfolding take_groups
no_groups_lem t at m e z = rw (sym e ∙ z) refl

pub some_groups : (t : List ℕ) (at m : ℕ) → m ≡ groups_in t at → (m ≡ 0 → ⊥) → WholeGroups (groups_in t at) (body_from t at)
    → no_groups (rule_at t at).groups ≡ false
some_groups t at m e f w = go (take_groups (groups_in t at) (body_from t at)) (length_take_groups (groups_in t at) (body_from t at) w)
  where
    go : (βs : List (List ℕ)) → length βs ≡ groups_in t at → no_groups βs ≡ false
    go [] z = absurd (f (e ∙ sym z))
    go (β ∷ βs) z = refl
