-- Going through the groups of a table: one turn of each loop. Assumes nothing.
use mathlib.Core.Bool.{Bool, true, false, ◌&&◌}
use mathlib.Core.List.{List, [], ◌∷◌}
use mathlib.Core.Path.{◌≡◌, refl, sym, ap, ap₂, ◌∙◌}
use Prim.Native.Nat.{ℕ, zero, suc, ◌+◌, ◌-◌, ◌≤◌, ◌<◌}
use native.Mathlib.Omega.{arith}
use native.Mathlib.Numerals.{add-one}
use lib.ListN.{length, get_or, take, drop, length-drop}
use lib.Seq.{drop-drop}
use Rattle.words.specs.RecordAt.{WholeGroups}
use Rattle.words.specs.Layout.{take_groups, drop_groups, literals_at}
use Rattle.words.proofs.Places.{word_at}
use Rattle.paper.specs.Fires.{wholly}
use Rattle.least.specs.Walk.{GroupsSkipped, which_from}
use Rattle.std.specs.Prelude.{Some, None}
use Rattle.std.specs.List.{list_all}

-- all of a group, as the library has it
pub all_wholly : (S : ℕ → Bool) (β : List ℕ) → list_all S β ≡ wholly S β
all_wholly S [] = refl
all_wholly S (l ∷ β) = ap (λ (b : Bool). S l && b) (all_wholly S β)

-- one group passed, the others still to come
pub record Turned (t : List ℕ) (at left k : ℕ) : Type 0 where
  pub inside : literals_at at + k ≤ length t
  pub whole : WholeGroups (left - 1) (drop (literals_at at + k) t)
  pub groups : take_groups left (drop at t) ≡ take k (drop (literals_at at) t) ∷ take_groups (left - 1) (drop (literals_at at + k) t)
  pub after_same : drop_groups (left - 1) (drop (literals_at at + k) t) ≡ drop_groups left (drop at t)

-- a group fits behind its length
pub group_fits : (t : List ℕ) (at left k : ℕ) → WholeGroups left (drop at t) → 0 < left → k ≡ get_or t at 0 → literals_at at + k ≤ length t
unfolding WholeGroups
group_fits t at zero k h lt ek = absurd (omega arith)
group_fits t at (suc l) k h lt ek = go (drop at t) refl h
  where
    go : (ws : List ℕ) → drop at t ≡ ws → WholeGroups (suc l) ws → literals_at at + k ≤ length t
    go [] e w = absurd w
    go (x ∷ ws) e w =
        let p = word_at t at x ws e in
        let n = ap length e in
        let len = length-drop at t in
        let ex : k ≡ x = ek ∙ p.word in
        let kx : x ≤ length ws = w.0 in
        omega arith

-- where a group is to come, its length stands
pub group_inside : (t : List ℕ) (at left : ℕ) → WholeGroups left (drop at t) → 0 < left → at < length t
group_inside t at left h lt = omega (arith, group_fits t at left _ h lt refl)

pub groups_go_on : (t : List ℕ) (at left k : ℕ) → WholeGroups left (drop at t) → 0 < left → k ≡ get_or t at 0 → Turned t at left k
unfolding WholeGroups take_groups drop_groups
groups_go_on t at zero k h lt ek = absurd (omega arith)
groups_go_on t at (suc l) k h lt ek = go (drop at t) refl h
  where
    less : suc l - 1 ≡ l
    less = omega arith

    go : (ws : List ℕ) → drop at t ≡ ws → WholeGroups (suc l) ws → Turned t at (suc l) k
    go [] e w = absurd w
    go (x ∷ ws) e w =
        let p = word_at t at x ws e in
        let ex : k ≡ x = ek ∙ p.word in
        let d : drop (literals_at at + k) t ≡ drop x ws = sym (drop-drop k (literals_at at) t) ∙ ap (drop k) p.after ∙ ap (λ (n : ℕ). drop n ws) ex in
        let f : take k (drop (literals_at at) t) ≡ take x ws = ap₂ take ex p.after in
        record {
          inside = group_fits t at (suc l) k h lt ek;
          whole = rw (less, d) w.1;
          groups = rw (less, d, e, f) refl;
          after_same = rw (less, d, e) refl;
        }

pub groups_end : (t : List ℕ) (first m at left : ℕ) → left ≤ 0
    → (at ≤ length t) × (first ≤ at) × (WholeGroups left (drop at t)) × (drop_groups left (drop at t) ≡ drop_groups m (drop first t))
    → GroupsSkipped t first m at
unfolding drop_groups
groups_end t first m at zero h inv = record { after = inv.3; inside = inv.0; not_before = inv.1 }
groups_end t first m at (suc l) h inv = absurd (omega arith)

-- the groups after those that were passed are skipped: all are
pub skipped_on : (t : List ℕ) (first m at left next : ℕ) → first ≤ at → drop_groups left (drop at t) ≡ drop_groups m (drop first t)
    → GroupsSkipped t at left next → GroupsSkipped t first m next
skipped_on t first m at left next le e s =
    record { after = s.after ∙ e; inside = s.inside; not_before = let k = s.not_before in omega arith }

-- the group at the front is looked at: the walk goes on behind it, or ends there; where none is left, none was found
pub which_goes_on : (S : ℕ → Bool) (t : List ℕ) (at left k g : ℕ) (b : Bool) → Turned t at left k
    → b ≡ wholly S (take k (drop (literals_at at) t)) → b ≡ false
    → which_from S (g + 1) (take_groups (left - 1) (drop (literals_at at + k) t)) ≡ which_from S g (take_groups left (drop at t))
unfolding which_from
which_goes_on S t at left k g b q eb e = rw (q.groups, sym eb, e, add-one g) refl

pub which_ends : (S : ℕ → Bool) (t : List ℕ) (at left k g : ℕ) (b : Bool) → Turned t at left k
    → b ≡ wholly S (take k (drop (literals_at at) t)) → b ≡ true → Some g ≡ which_from S g (take_groups left (drop at t))
unfolding which_from
which_ends S t at left k g b q eb e = rw (q.groups, sym eb, e) refl

pub which_none : (S : ℕ → Bool) (t : List ℕ) (at left g : ℕ) → left ≤ 0 → None ≡ which_from S g (take_groups left (drop at t))
unfolding which_from take_groups
which_none S t at zero g h = refl
which_none S t at (suc l) g h = absurd (omega arith)
