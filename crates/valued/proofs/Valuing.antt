-- The values of literals, groups and bodies, told from codes: one turn of each loop. Assumes nothing.
use mathlib.Core.Bool.{true, false, true≢false}
use mathlib.Core.List.Memᴰ
use mathlib.Core.List.{List, [], ◌∷◌}
use mathlib.Core.Path.{◌≡◌, refl, sym, ap, ◌∙◌}
use Prim.Native.Nat.{ℕ, zero, suc, ◌+◌, ◌-◌, ◌≤◌, ◌<◌, min, max}
use native.Mathlib.Omega.{arith}
use native.Mathlib.Numerals.{add-one}
use lib.ListN.{length, get_or, take, drop, drop_of_length-le, length-take, length-drop}
use lib.Seq.{drop-cons}
use Rattle.sets.specs.Sets.{◌∈◌}
use Rattle.paper.specs.Table1.{Value, 𝐟, 𝐮, 𝐢, 𝐭, code, ◌implies◌}
use Rattle.paper.specs.Definitions.{Interpretation, value, group_value, any_value, body_value}
use Rattle.paper.proofs.Values.{code_and, code_or}
use Rattle.words.specs.Layout.{take_groups, drop_groups, body_at, literals_at}
use Rattle.words.specs.RecordAt.{groups_in, body_from, rule_at, WholeGroups}
use Rattle.words.proofs.Reading.{length_take_groups}
use Rattle.least.specs.Walk.{GroupsSkipped}
use Rattle.least.proofs.Walk.{Turned, group_inside, groups_go_on, groups_end}
use Rattle.valued.specs.Valued.{LiteralsBelow, GroupsBelow, follows_code}

-- what stands in a group is one of its literals
pub in_group : (β : List ℕ) (i : ℕ) → i < length β → get_or β i 0 ∈ β
in_group [] i lt = absurd (omega arith)
in_group (x ∷ β) zero lt = Memᴰ.head refl
in_group (x ∷ β) (suc i) lt = Memᴰ.tail (in_group β i (omega arith))

module _ (I : Interpretation) where
  -- the smaller of what was seen and the rest is the whole group's
  pub group_turn : (β : List ℕ) (i low low' v whole : ℕ) → i < length β → v ≡ code (value I (get_or β i 0)) → low' ≡ min low v
      → min low (code (group_value I (drop i β))) ≡ whole → min low' (code (group_value I (drop (i + 1) β))) ≡ whole
  unfolding group_value
  group_turn β i low low' v whole lt ev el inv =
      let γ = drop (i + 1) β in
      let front = drop-cons β i 0 lt ∙ ap (λ (k : ℕ). get_or β i 0 ∷ drop k β) (sym (add-one i)) in
      let e = ap (λ (δ : List ℕ). code (group_value I δ)) front ∙ code_and (value I (get_or β i 0)) (group_value I γ) in
      omega arith

  pub group_over : (β : List ℕ) (i low whole : ℕ) → length β ≤ i → low ≤ 3 → min low (code (group_value I (drop i β))) ≡ whole
      → low ≡ whole
  unfolding group_value
  group_over β i low whole h s inv =
      let e : code (group_value I (drop i β)) ≡ 3 = rw (drop_of_length-le β h) refl in
      omega arith

  pub group_start : (β : List ℕ) → min 3 (code (group_value I β)) ≡ code (group_value I β)
  group_start β = let s = small (group_value I β) in omega arith
    where
      small : (v : Value) → code v ≤ 3
      small 𝐟 = omega arith
      small 𝐮 = omega arith
      small 𝐢 = omega arith
      small 𝐭 = omega arith

  -- the groups before a place are passed: the larger of what was seen and the rest is the OR of all m
  pub record Ored (N : ℕ) (t : List ℕ) (first m at left high : ℕ) : Type 0 where
    pub inside : at ≤ length t
    pub not_before : first ≤ at
    pub whole : WholeGroups left (drop at t)
    pub after_same : drop_groups left (drop at t) ≡ drop_groups m (drop first t)
    pub below : GroupsBelow N (take_groups left (drop at t))
    pub or_is : max high (code (any_value I (take_groups left (drop at t)))) ≡ code (any_value I (take_groups m (drop first t)))

  module _ {N : ℕ} {t : List ℕ} {first m at left high : ℕ} (o : Ored N t first m at left high) where
    module _ (some : 0 < left) where
      turned : Turned t at left (get_or t at 0)
      turned = groups_go_on t at left (get_or t at 0) o.whole some refl

      pub this_group : (at < length t) × (literals_at at + get_or t at 0 ≤ length t)
      this_group = (group_inside t at left o.whole some, turned.inside)

      pub this_below : {β : List ℕ} → β ≡ take (get_or t at 0) (drop (literals_at at) t) → LiteralsBelow N β
      this_below e l i = o.below (take (get_or t at 0) (drop (literals_at at) t)) (rw turned.groups (Memᴰ.head refl)) l (rw (← e) i)

      pub ored_on : {β : List ℕ} {v high' next left' : ℕ} → β ≡ take (get_or t at 0) (drop (literals_at at) t) → v ≡ code (group_value I β)
          → high' ≡ max high v → next ≡ literals_at at + length β → left' ≡ left - 1
          → Ored N t first m next left' high'
      unfolding any_value
      ored_on {β} {v} {high'} {next} e ev eh en el =
          let q = turned in
          let k = ap length e in
          let a = length-take (get_or t at 0) (drop (literals_at at) t) in
          let b = length-drop (literals_at at) t in
          let i = q.inside in
          let p : next ≡ literals_at at + get_or t at 0 = omega arith in
          rw (p, el) (record {
            inside = q.inside;
            not_before = let n = o.not_before in omega arith;
            whole = q.whole;
            after_same = q.after_same ∙ o.after_same;
            below = λ γ x. o.below γ (rw q.groups (Memᴰ.tail x));
            or_is =
                let w = ap (λ (γs : List (List ℕ)). code (any_value I γs)) q.groups
                ∙ code_or (group_value I (take (get_or t at 0) (drop (literals_at at) t)))
                (any_value I (take_groups (left - 1) (drop (literals_at at + get_or t at 0) t))) in
                let z = o.or_is in
                let y = ev ∙ ap (λ (γ : List ℕ). code (group_value I γ)) e in
                omega arith;
          })

    module _ (none : left ≤ 0) where
      no_more : left ≡ 0
      no_more = omega arith

      pub ored_all : high ≡ code (any_value I (take_groups m (drop first t)))
      unfolding any_value take_groups
      ored_all =
          let e : code (any_value I (take_groups left (drop at t))) ≡ 0 = rw no_more refl in
          let z = o.or_is in
          omega arith

      pub ored_skipped : GroupsSkipped t first m at
      ored_skipped = groups_end t first m at left none (o.inside, o.not_before, o.whole, o.after_same)

  -- a body with groups is their OR, one without is t
  pub body_some : (t : List ℕ) (at m v : ℕ) → m ≡ groups_in t at → (m ≡ 0 → ⊥) → WholeGroups (groups_in t at) (body_from t at)
      → v ≡ code (any_value I (take_groups m (body_from t at))) → v ≡ code (body_value I (rule_at t at).groups)
  unfolding body_value
  body_some t at m v em some whole ev = go (take_groups (groups_in t at) (body_from t at)) (length_take_groups (groups_in t at) (body_from t at) whole)
      (ev ∙ ap (λ (n : ℕ). code (any_value I (take_groups n (body_from t at)))) em)
    where
      go : (βs : List (List ℕ)) → length βs ≡ groups_in t at → v ≡ code (any_value I βs) → v ≡ code (body_value I βs)
      go [] e x = absurd (some (em ∙ sym e))
      go (β ∷ βs) e x = x

  pub body_none : (t : List ℕ) (at m : ℕ) → m ≡ groups_in t at → m ≡ 0 → 3 ≡ code (body_value I (rule_at t at).groups)
  unfolding body_value take_groups
  body_none t at m em e = let z : groups_in t at ≡ 0 = sym em ∙ e in rw z refl

-- a fact has no groups to skip
pub fact_skipped : (t : List ℕ) (at m : ℕ) → body_at at ≤ length t → m ≡ groups_in t at → m ≡ 0
    → GroupsSkipped t (body_at at) (groups_in t at) (body_at at)
unfolding drop_groups
fact_skipped t at m le em e = let z : groups_in t at ≡ 0 = sym em ∙ e in record { after = rw z refl; inside = le; not_before = omega arith }

-- the implication, told from the codes
pub follows→ : (v w : Value) → follows_code (code v) (code w) ≡ true → (v implies w) ≡ 𝐭
follows→ 𝐟 𝐟 e = refl
follows→ 𝐟 𝐮 e = refl
follows→ 𝐟 𝐢 e = refl
follows→ 𝐟 𝐭 e = refl
follows→ 𝐮 𝐟 e = refl
follows→ 𝐮 𝐮 e = refl
follows→ 𝐮 𝐢 e = refl
follows→ 𝐮 𝐭 e = refl
follows→ 𝐢 𝐟 e = absurd (true≢false (sym e))
follows→ 𝐢 𝐮 e = absurd (true≢false (sym e))
follows→ 𝐢 𝐢 e = refl
follows→ 𝐢 𝐭 e = absurd (true≢false (sym e))
follows→ 𝐭 𝐟 e = absurd (true≢false (sym e))
follows→ 𝐭 𝐮 e = absurd (true≢false (sym e))
follows→ 𝐭 𝐢 e = refl
follows→ 𝐭 𝐭 e = refl

pub not_follows : (v w : Value) → follows_code (code v) (code w) ≡ false → (v implies w) ≡ 𝐭 → ⊥
not_follows 𝐟 w e h = true≢false e
not_follows 𝐮 w e h = true≢false e
not_follows 𝐢 𝐟 e h = let k : ◌≡◌ {A = ℕ} 0 3 = ap code h in omega arith
not_follows 𝐢 𝐮 e h = let k : ◌≡◌ {A = ℕ} 0 3 = ap code h in omega arith
not_follows 𝐢 𝐢 e h = true≢false e
not_follows 𝐢 𝐭 e h = let k : ◌≡◌ {A = ℕ} 0 3 = ap code h in omega arith
not_follows 𝐭 𝐟 e h = let k : ◌≡◌ {A = ℕ} 0 3 = ap code h in omega arith
not_follows 𝐭 𝐮 e h = let k : ◌≡◌ {A = ℕ} 0 3 = ap code h in omega arith
not_follows 𝐭 𝐢 e h = true≢false e
not_follows 𝐭 𝐭 e h = true≢false e
