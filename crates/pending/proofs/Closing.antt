-- Pending literals looked at one after the other, until there is none: the least set. Assumes nothing.
use mathlib.Core.Bool.{Bool, true, false, not, ◌||◌}
use mathlib.Core.List.{List}
use mathlib.Core.Logic.{◌⊎◌, inl, inr, ⊎_elim}
use mathlib.Core.Path.{◌≡◌, refl, ap, ◌∙◌, subst, subst⁻¹}
use Prim.Native.Nat.{ℕ, suc, ◌<◌}
use native.Mathlib.Omega.{arith}
use native.Mathlib.Decide.{ℕ_discrete}
use lib.Dec.{T, T_not, ltb}
use lib.ListN.{length}
use borrow.Author.Tests.{ltb-true, ltb-false}
use Rattle.paper.specs.Marking.{from_base, by_group}
use Rattle.paper.proofs.Leasts.{least_contained}
use Rattle.sets.specs.Sets.{◌∈◌, ◌with◌, count}
use Rattle.sets.proofs.Tests.{true→T, false→not, or_left, or_right, or_cases}
use Rattle.sets.proofs.Besides.{with_⊇, with_itself}
use Rattle.sets.proofs.Counting.{count≤, count_with, count_less}
use Rattle.bits.specs.Sets.{member, put_in}
use Rattle.bits.specs.Rows.{row_without, lowest_below}
use Rattle.bits.proofs.Least.{lowest_from_found, lowest_from_none}
use Rattle.bits.proofs.Laws.{member_past, member_put_in, member_put_in_other, length_put_in, length_taken_out, member_taken_out_same, member_taken_out_other}
use Rattle.words.specs.Layout.{records_of}
use Rattle.index.specs.Placed.{Placed, placed_of}
use Rattle.index.proofs.Placed.{rule_in, group_in_lem}
use Rattle.pending.specs.declared.Taking.{Taking}
use Rattle.pending.specs.Pending.{Whole, CountsAre, Taken, due, Working, LeastOf, Closing, LookedAt, left_alone, taken_up, Stepped, Closed}
use Rattle.std.specs.Prelude.{Some, None}

-- a literal is due by the row, or since it is taken or shut out
due_ready : (p : Taking) (shut : List ℕ) (h : ℕ) → T (member p.ready h) → T (due p shut h)
due_ready p shut h k = or_left (member p.ready h) (member p.taken h || member shut h) k

due_skipped : (p : Taking) (shut : List ℕ) (h : ℕ) → T (member p.taken h || member shut h) → T (due p shut h)
due_skipped p shut h k = or_right (member p.ready h) (member p.taken h || member shut h) k

due_cases : (p : Taking) (shut : List ℕ) (h : ℕ) → T (due p shut h) → T (member p.ready h) ⊎ T (member p.taken h || member shut h)
due_cases p shut h k = or_cases (member p.ready h) (member p.taken h || member shut h) k

pub not_or_left : (a b : Bool) → T (not (a || b)) → T (not a)
not_or_left true b h = h
not_or_left false b h = tt

not_or_right : (a b : Bool) → T (not (a || b)) → T (not b)
not_or_right true b h = absurd h
not_or_right false b h = h

-- a row in which no lowest literal is found is empty
pub none_ready : (ready : List ℕ) → length ready ≡ 16 → lowest_below 1024 (member ready) ≡ None → (l : ℕ) → member ready l ≡ false
none_ready ready row e l = by (ltb l 1024) refl
  where
    by : (b : Bool) → ltb l 1024 ≡ b → member ready l ≡ false
    by true q = lowest_from_none 1024 0 (member ready) e l (omega arith) (let k = ltb-true l 1024 q in omega arith)
    by false q = member_past ready l (let k = ltb-false l 1024 q in omega arith)

-- a literal that is found is below 1,024
pub code_below : (ready : List ℕ) (l : ℕ) → lowest_below 1024 (member ready) ≡ Some l → l < 1024
code_below ready l found = let k = (lowest_from_found 1024 0 l (member ready) found).below in omega arith

module _ (t : List ℕ) (shut : List ℕ) (p : Taking) (work : Working t p shut) (l : ℕ) (found : lowest_below 1024 (member p.ready) ≡ Some l) where
  below : l < 1024
  below = code_below p.ready l found

  was_ready : T (member p.ready l)
  was_ready = true→T (member p.ready l) (lowest_from_found 1024 0 l (member p.ready) found).passes

  -- without the literal in the row
  abbrev out : Taking
  out = record { taken = p.taken; ready = row_without p.ready l; counts = p.counts }

  -- all others are still in the row, and none came in
  others_out : (h : ℕ) → (h ≡ l → ⊥) → T (member p.ready h) → T (member (row_without p.ready l) h)
  others_out h n k = subst⁻¹ T (member_taken_out_other p.ready l h n) k

  out_before : (h : ℕ) → T (member (row_without p.ready l) h) → T (member p.ready h)
  out_before h k = elim (ℕ_discrete h l) [
    | yes e ↦ subst⁻¹ (λ (y : ℕ). T (member p.ready y)) e was_ready
    | no n ↦ subst T (member_taken_out_other p.ready l h n) k
  ]

  -- left alone
  module _ (skip : T (member p.taken l || member shut l)) where
    alone_due : (h : ℕ) → T (due p shut h) → T (due out shut h)
    alone_due h k = elim (ℕ_discrete h l) [
      | yes e ↦ due_skipped out shut h (subst⁻¹ (λ (y : ℕ). T (member p.taken y || member shut y)) e skip)
      | no n ↦ ⊎_elim (λ (r : T (member p.ready h)). due_ready out shut h (others_out h n r))
          (due_skipped out shut h) (due_cases p shut h k)
    ]

    stepped_alone : Stepped t p shut out
    stepped_alone =
        record {
          working = record {
            taken_row = work.taken_row;
            ready_row = length_taken_out p.ready l ∙ work.ready_row;
            counted = work.counted;
            facts = λ h f. alone_due h (work.facts h f);
            groups = λ γ m w. alone_due γ.head (work.groups γ m w);
          };
          closing = λ p₀ c.
              record {
                kept = c.kept;
                still_due = λ h k. alone_due h (c.still_due h k);
                inside = c.inside;
                inside_ready = λ h k u. c.inside_ready h (out_before h k) u;
              };
          less = (let k = count_less 1024 (member (row_without p.ready l)) (member p.ready) out_before l below
              (false→not (member (row_without p.ready l) l) (member_taken_out_same p.ready l)) was_ready in
              omega arith);
        }

  -- taken up
  module _ (skip : T (not (member p.taken l || member shut l))) (p' : Taking) (taken_is : p'.taken ≡ put_in p.taken l)
      (took : Taken t (member p.taken) l (row_without p.ready l) p'.ready p'.counts) where
    not_taken : T (not (member p.taken l))
    not_taken = not_or_left (member p.taken l) (member shut l) skip

    not_shut : T (not (member shut l))
    not_shut = not_or_right (member p.taken l) (member shut l) skip

    members : member p'.taken ≡ (member p.taken with l)
    members = ap member taken_is ∙ member_put_in p.taken l (let r = work.taken_row in let k = below in omega arith)

    more_taken : (h : ℕ) → T (member p.taken h) → T (member p'.taken h)
    more_taken h k = subst⁻¹ (λ (S : ℕ → Bool). T (S h)) members (with_⊇ (member p.taken) l h k)

    itself : T (member p'.taken l)
    itself = subst⁻¹ (λ (S : ℕ → Bool). T (S l)) members (with_itself (member p.taken) l)

    up_due : (h : ℕ) → T (due p shut h) → T (due p' shut h)
    up_due h k = elim (ℕ_discrete h l) [
      | yes e ↦ due_skipped p' shut h (or_left (member p'.taken h) (member shut h) (subst⁻¹ (λ (y : ℕ). T (member p'.taken y)) e itself))
      | no n ↦ ⊎_elim (λ (r : T (member p.ready h)). due_ready p' shut h (took.more h (others_out h n r)))
          (λ (r : T (member p.taken h || member shut h)). due_skipped p' shut h
          (⊎_elim (λ (y : T (member p.taken h)). or_left (member p'.taken h) (member shut h) (more_taken h y))
          (λ (y : T (member shut h)). or_right (member p'.taken h) (member shut h) y) (or_cases (member p.taken h) (member shut h) r)))
          (due_cases p shut h k)
    ]

    stepped_up : Stepped t p shut p'
    stepped_up =
        record {
          working = record {
            taken_row = ap length taken_is ∙ length_put_in p.taken l ∙ work.taken_row;
            ready_row = took.row ∙ length_taken_out p.ready l ∙ work.ready_row;
            counted = subst⁻¹ (λ (S : ℕ → Bool). CountsAre t S p'.counts) members took.counts;
            facts = λ h f. up_due h (work.facts h f);
            groups = λ γ m w. ⊎_elim (λ (v : Whole (member p.taken) γ). up_due γ.head (work.groups γ m v))
                (due_ready p' shut γ.head)
                (took.whole γ m (λ ι i. subst (λ (S : ℕ → Bool). T (S ι)) members (w ι i)));
          };
          closing = closing_up;
          less = (let e : count 1024 (member p'.taken) ≡ suc (count 1024 (member p.taken)) =
              ap (count 1024) members ∙ count_with 1024 (member p.taken) l below not_taken in
              let k = count≤ 1024 (member p'.taken) in
              let k' = count≤ 1024 (member p'.ready) in
              omega arith);
        }
      where
        closing_up : (p₀ : Taking) → Closing t p₀ shut p → Closing t p₀ shut p'
        closing_up p₀ c =
            record {
              kept = λ h k. more_taken h (c.kept h k);
              still_due = λ h k. up_due h (c.still_due h k);
              inside = inside_now;
              inside_ready = λ h k u. ⊎_elim (λ (r : T (member (row_without p.ready l) h)). c.inside_ready h (out_before h r) u)
                  (λ (g : (γ : Placed) × (γ ∈ placed_of t) × (γ.head ≡ h) × Whole (member p.taken with l) γ).
                  let r = rule_in 0 (records_of t) g.0 g.1 in
                  by_group r.rule g.0.literals r.one (r.head ∙ g.2) u r.group
                  (λ ι i. inside_now ι (subst⁻¹ (λ (S : ℕ → Bool). T (S ι)) members (g.3 ι i)))) (took.sound h k);
            }
          where
            inside_now : (h : ℕ) → T (member p'.taken h) → LeastOf t p₀ shut h
            inside_now h k = elim (ℕ_discrete h l) [
              | yes e ↦ subst⁻¹ (LeastOf t p₀ shut) e (c.inside_ready l was_ready not_shut)
              | no n ↦ c.inside h (subst T (ap (λ (u : List ℕ). member u h) taken_is ∙ member_put_in_other p.taken l h n) k)
            ]

  pub stepped : (p₁ p' : Taking) → p₁ ≡ out → LookedAt t p₁ shut l p' → Stepped t p shut p'
  stepped p₁ p' e at = by (subst (λ (q : Taking). LookedAt t q shut l p') e at)
    where
      by : {q : Taking} → LookedAt t out shut l q → Stepped t p shut q
      by (left_alone skip) = stepped_alone skip
      by (taken_up {p' = q} skip taken_is took) = stepped_up skip q taken_is took

-- from the start to the end
pub closing_starts : (t : List ℕ) (p : Taking) (shut : List ℕ) → Closing t p shut p
closing_starts t p shut =
    record {
      kept = λ l k. k;
      still_due = λ l k. due_ready p shut l k;
      inside = λ l k. from_base (inl k);
      inside_ready = λ l k u. from_base (inr (k, u));
    }

pub closed_there : (t : List ℕ) (p : Taking) (shut : List ℕ) (p' : Taking) → Working t p' shut
    → Closing t p shut p' → ((l : ℕ) → member p'.ready l ≡ false) → Closed t p shut p'
closed_there t p shut p' work c none =
    record {
      working = work;
      none_ready = none;
      least = λ l. (
        c.inside l,
        least_contained (λ h. T (member p'.taken h))
            (λ h. ⊎_elim (c.kept h) (λ (k : T (member p.ready h) × T (not (member shut h))). now_in h (c.still_due h k.0) k.1))
            (λ h ρ m e u f. now_in h (work.facts h (record { rule = ρ; one = m; head = e; fact = f })) u)
            (λ h ρ β m e u i all.
            let q = group_in_lem 0 (records_of t) ρ β m i in
            subst (λ (y : ℕ). T (member p'.taken y)) (q.head ∙ e)
            (now_in q.group.head (work.groups q.group q.one (λ ι k. all ι (subst (λ (γ : List ℕ). ι ∈ γ) q.literals k)))
            (subst⁻¹ (λ (y : ℕ). T (not (member shut y))) (q.head ∙ e) u))),
      );
    }
  where
    now_in : (h : ℕ) → T (due p' shut h) → T (not (member shut h)) → T (member p'.taken h)
    now_in h k u =
        ⊎_elim (λ (r : T (member p'.ready h)). absurd (subst T (none h) r))
        (λ (r : T (member p'.taken h || member shut h)). ⊎_elim (λ (y : T (member p'.taken h)). y) (λ (y : T (member shut h)). absurd (T_not
        (member shut h) u y))
        (or_cases (member p'.taken h) (member shut h) r)) (due_cases p' shut h k)
