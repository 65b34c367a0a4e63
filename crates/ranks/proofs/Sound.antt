-- Each line that a rule adds is justified, and stays so as lines are added. Assumes nothing.
use mathlib.Core.Bool.{Bool, true, false, not, false≢true}
use mathlib.Core.List.Memᴰ
use mathlib.Core.List.{List, [], ◌∷◌, cons≢nil}
use mathlib.Core.Logic.{◌⊎◌, inl, inr, ⊎_elim}
use mathlib.Core.Path.{◌≡◌, refl, sym, ap, ◌∙◌, subst, subst⁻¹}
use Prim.Native.Nat.{ℕ, ◌≤◌, ◌<◌}
use native.Mathlib.Omega.{arith}
use native.Mathlib.Decide.{dec_lt}
use lib.Dec.{T}
use Rattle.sets.specs.Sets.{◌∈◌, ◌⊆◌}
use Rattle.sets.proofs.Tests.{true→T, false→not}
use Rattle.paper.specs.Table1.{Value, 𝐢, 𝐭, code}
use Rattle.paper.specs.Rules.{Rule, OneRulePerHead, HeadsBelow, atom, negation}
use Rattle.paper.specs.Definitions.{Interpretation, value, group_value, body_value, Carries, Supports}
use Rattle.paper.specs.Marking.{Marks, Marked, Unmarked, Settled, IsHeld}
use Rattle.paper.specs.Fires.{fires}
use Rattle.paper.proofs.Closure.{Fires, fires→, →fires}
use Rattle.paper.proofs.Leasts.{atom_negation}
use Rattle.paper.proofs.Settled.{marked→𝐢, marked→member, held_head, unmarked→clean, clean→𝐭}
use Rattle.paper.proofs.Values.{group_in_lem, group_𝐭, body≥, body_attained, 3≤code→𝐭, code2→𝐢}
use Rattle.bits.specs.Sets.{member}
use Rattle.least.specs.Groups.{WhichAllows, OnlyGroup, the_fact, the_group}
use Rattle.least.proofs.Groups.{number_fires, none_fires, which→supports, which→carries_𝐢}
use Rattle.justified.specs.Justified.{Justified, by_6_or_7, by_8}
use Rattle.ranks.specs.declared.Found.{Found}
use Rattle.ranks.specs.declared.Adds.{Adds}
use Rattle.ranks.specs.Found.{Fit, rank_of, head_of, group_of, with_line, adding}
use Rattle.ranks.proofs.Lines.{Grown, Moves, line_ranked, line_cases, line_rank, line_head, line_group, line_moves, negation_below, NegationToo, had_one, gets_one, negation_too, negation_moves, negation_ranked, negation_cases}
use Rattle.ranks.proofs.Rules.{Added, not_due, no_group, one_line, two_lines}
use Rattle.std.specs.Prelude.{Some, None}

-- where more literals stand before others, a justified line stays justified
carries_mono : (I : Interpretation) {before before' : ℕ → ℕ → Type 0} {ρ : Rule} {v : Value}
    → ((x y : ℕ) → before x y → before' x y) → Carries I before ρ v → Carries I before' ρ v
carries_mono I {ρ = ρ} f c = (c.0, c.1, c.2, λ ι i. f ι ρ.head (c.3 ι i))

pub justified_mono : {R : List Rule} {I : Interpretation} {before before' : ℕ → ℕ → Type 0} {l h g : ℕ}
    → ((x y : ℕ) → before x y → before' x y) → Justified R I before l h g → Justified R I before' l h g
justified_mono {I = I} {before = before} {before' = before'} f (by_6_or_7 ρ σ r o s) =
    by_6_or_7 ρ σ r o (
      s.0,
      s.1,
      ⊎_elim (λ (e : s.0.groups ≡ []). inl e) (λ (c : Carries I before s.0 𝐭). inr (carries_mono I f c)) s.2,
    )
justified_mono {I = I} f (by_8 ρ σ r o i b q) = by_8 ρ σ r o i b (q.0, q.1, q.2, carries_mono I f q.3)

-- a body with a group in I and none that is t is i
body_𝐢 : (I : Interpretation) (βs : List (List ℕ)) → (βs ≡ [] → ⊥) → ((γ : List ℕ) → γ ∈ βs → group_value I γ ≡ 𝐭 → ⊥)
    → (β : List ℕ) → β ∈ βs → 2 ≤ code (group_value I β) → body_value I βs ≡ 𝐢
body_𝐢 I βs some no-𝐭 β m two =
    let k = body≥ I βs β m in
    elim (dec_lt (code (body_value I βs)) 3) [
      | yes h ↦ code2→𝐢 (body_value I βs) (omega arith)
      | no h ↦
          absurd (⊎_elim some
          (λ (q : (γ : List ℕ) × (γ ∈ βs) × (3 ≤ code (group_value I γ))). no-𝐭 q.0 q.1 (3≤code→𝐭 (group_value I q.0) q.2))
          (body_attained I 3 (omega arith) βs (omega arith)))
    ]

-- the line of a head by its own rule, where the group named supports it
by_support : {R : List Rule} {I : Interpretation} {before : ℕ → ℕ → Type 0} {ρ σ : Rule} {g : ℕ}
    → ρ ∈ R → OnlyGroup ρ g σ → Supports I before σ → Justified R I before ρ.head ρ.head g
by_support {ρ = ρ} m (the_fact e) u = by_6_or_7 ρ ρ (m, refl) (the_fact e) (ρ, (Memᴰ.head refl, refl), u)
by_support {ρ = ρ} m (the_group n) u = by_6_or_7 ρ _ (m, refl) (the_group n) (_, (Memᴰ.head refl, refl), u)

-- the line of a head or of its negation, where the group named and the body are i
by_inconsistency : {R : List Rule} {I : Interpretation} {before : ℕ → ℕ → Type 0} {ρ σ : Rule} {g : ℕ}
    → ρ ∈ R → body_value I ρ.groups ≡ 𝐢 → OnlyGroup ρ g σ → Carries I before σ 𝐢
    → (l : ℕ) → (ρ.head ≡ l) ⊎ (ρ.head ≡ negation l) → value I l ≡ 𝐢 → Justified R I before l ρ.head g
by_inconsistency {ρ = ρ} m b (the_fact e) c l own i =
    by_8 ρ ρ (m, refl) (the_fact e) i b (ρ, ⊎_elim (λ p. inl (Memᴰ.head refl, p)) (λ p. inr (Memᴰ.head refl, p)) own, b, c)
by_inconsistency {I = I} {ρ = ρ} m b (the_group {β = β} n) c l own i =
    by_8 ρ (record { head = ρ.head; groups = β ∷ [] }) (m, refl) (the_group n) i b (
      record { head = ρ.head; groups = β ∷ [] },
      ⊎_elim (λ p. inl (Memᴰ.head refl, p)) (λ p. inr (Memᴰ.head refl, p)) own,
      body_𝐢 I (β ∷ []) cons≢nil
          (λ γ k t. let e : group_value I c.0 ≡ 𝐭 = rw (Memᴰ.eq_of_singleton c.1, ← Memᴰ.eq_of_singleton k) t in
          let z : code 𝐢 ≡ code 𝐭 = ap code (sym c.2 ∙ e) in absurd (omega arith))
          c.0 c.1 (let z : code (group_value I c.0) ≡ 2 = ap code c.2 in omega arith),
      c,
    )

-- both have lines, and x has the smaller rank
abbrev pub Before : Found → ℕ → ℕ → Type 0
Before st x y = T (member st.ranked x) × T (member st.ranked y) × (rank_of st x < rank_of st y)

before_grown : {st st' : Found} → Grown st st' → (x y : ℕ) → Before st x y → Before st' x y
before_grown g x y b =
    let p = g.same_rank x b.0 in
    let q = g.same_rank y b.1 in
    let lt = b.2 in
    (g.kept x b.0, g.kept y b.1, omega arith)

-- the literals with lines are in I, their ranks are below the next, and their lines are justified by one another
pub record Sound (R : List Rule) (I : Interpretation) (st : Found) : Type 0 where
  pub fit : Fit st
  pub inside : member st.ranked ⊆ I
  pub below : (l : ℕ) → T (member st.ranked l) → rank_of st l < st.next_rank
  pub line : (l : ℕ) → T (member st.ranked l) → Justified R I (Before st) l (head_of st l) (group_of st l)

module _ {R : List Rule} {I : Interpretation} where
  sound_line : (st : Found) (l h g : ℕ) → Sound R I st → l < 1024 → T (not (member st.ranked l)) → T (I l)
      → Justified R I (Before (with_line st l h g)) l h g → Sound R I (with_line st l h g)
  sound_line st l h g s lt new m j =
      let st' : Found = with_line st l h g in
      let mv : Moves st st' = line_moves st l h g s.fit lt new in
      record {
        fit = mv.fit;
        inside = λ x k. ⊎_elim (λ (e : x ≡ l). rw e m) (λ (y : T (member st.ranked x)). s.inside x y) (line_cases st l h g s.fit lt x k);
        below = λ x k. ⊎_elim (λ (e : x ≡ l). rw e (let q = line_rank st l h g s.fit lt in omega arith))
            (λ (y : T (member st.ranked x)). let q = mv.grown.same_rank x y in let b = s.below x y in omega arith)
            (line_cases st l h g s.fit lt x k);
        line = λ x k. ⊎_elim
            (λ (e : x ≡ l). rw (e, line_head st l h g s.fit lt, line_group st l h g s.fit lt) j)
            (λ (y : T (member st.ranked x)). rw (mv.grown.same_head x y, mv.grown.same_group x y)
            (justified_mono (before_grown mv.grown) (s.line x y)))
            (line_cases st l h g s.fit lt x k);
      }

  -- what has a line stands before the next
  earlier : (st : Found) (l h g : ℕ) → Sound R I st → l < 1024 → T (not (member st.ranked l))
      → (ι : ℕ) → T (member st.ranked ι) → Before (with_line st l h g) ι l
  earlier st l h g s lt new ι m =
      let mv : Moves st (with_line st l h g) = line_moves st l h g s.fit lt new in
      let p = mv.grown.same_rank ι m in
      let q = line_rank st l h g s.fit lt in
      let b = s.below ι m in
      (mv.grown.kept ι m, line_ranked st l h g s.fit lt, omega arith)

-- a rule for which a group was answered fires
answered_fires : (S : ℕ → Bool) (ρ : Rule) {g : ℕ} → WhichAllows S ρ.groups (Some g) → Fires S ρ
answered_fires S ρ {g} a = fires→ S ρ (true→T (fires S ρ) (sym (number_fires S ρ g a refl)))

module _ (R : List Rule) (A : Marks) (I : Interpretation) (is_held_lem : IsHeld R A I) where
  -- the head of a rule that fires for literals of I is in I
  pub fires→in : (S : ℕ → Bool) → S ⊆ I → (ρ : Rule) → ρ ∈ R → Fires S ρ → T (I ρ.head)
  fires→in S s ρ m f =
      held_head R A I is_held_lem ρ m (⊎_elim (λ (e : ρ.groups ≡ []). inl e)
      (λ (q : (β : List ℕ) × (β ∈ ρ.groups) × ((ι : ℕ) → ι ∈ β → T (S ι))).
      inr (q.0, q.1, group_in_lem I q.0 (λ ι i. s ι (q.2 ι i)))) f)

  module _ (below : HeadsBelow 512 R) where
    -- a line by a group of t literals that have lines
    line_by_𝐭 : (st : Found) (ρ : Rule) {g : ℕ} (S : ℕ → Bool) → Sound R I st → ρ ∈ R → T (not (member st.ranked ρ.head))
        → S ⊆ member st.ranked → ((ι : ℕ) → T (S ι) → value I ι ≡ 𝐭) → WhichAllows S ρ.groups (Some g)
        → Sound R I (with_line st ρ.head ρ.head g)
    line_by_𝐭 st ρ {g} S s m new sub t a =
        let h : ℕ = ρ.head in
        let q = which→supports I (Before (with_line st h h g)) ρ S (λ ι i. earlier st h h g s (below ρ m) new ι (sub ι i)) t a in
        sound_line st h h g s (below ρ m) new (fires→in S (λ ι i. s.inside ι (sub ι i)) ρ m (answered_fires S ρ a)) (by_support m q.1 q.2)

    module _ (settled : Settled R A) where
      -- the first kind: all literals with lines have unmarked atoms
      pub record SoundUnmarked (st : Found) : Type 0 where
        pub sound : Sound R I st
        pub unmarked : (l : ℕ) → T (member st.ranked l) → Unmarked A (atom l)

      pub unmarked_𝐭 : {st : Found} → SoundUnmarked st → (l : ℕ) → T (member st.ranked l) → value I l ≡ 𝐭
      unmarked_𝐭 s l m =
          clean→𝐭 R A I is_held_lem settled l (unmarked→clean R A I is_held_lem settled l (s.sound.inside l m) (s.unmarked l m))

      pub unmarked_added : {clean : List ℕ} {st : Found} {ρ : Rule} → ρ ∈ R → SoundUnmarked st → {a : Adds} → Added false clean A st ρ a
          → SoundUnmarked (adding st ρ.head a)
      unfolding adding
      unmarked_added r s (not_due t) = s
      unmarked_added r s (no_group a) = s
      unmarked_added {st = st} {ρ = ρ} r s (one_line {g = g} d a) =
          record {
            sound = line_by_𝐭 st ρ (member st.ranked) s.sound r d.0 (λ ι i. i) (unmarked_𝐭 s) a;
            unmarked = λ x k. ⊎_elim (λ (e : x ≡ ρ.head). rw e (false→not (A (atom ρ.head)) d.1))
                (λ (y : T (member st.ranked x)). s.unmarked x y)
                (line_cases st ρ.head ρ.head g s.sound.fit (below ρ r) x k);
          }
      unmarked_added r s (two_lines e d n a) = absurd (false≢true e)

      -- the second kind: the clean literals have lines, and both literals of an atom have one where the rule of one is i
      module _ (clean : List ℕ) (one : OneRulePerHead R) (is-𝐭 : (l : ℕ) → T (member clean l) → value I l ≡ 𝐭)
          (all-𝐭 : (l : ℕ) → value I l ≡ 𝐭 → T (member clean l)) where
        pub record SoundMarked (st : Found) : Type 0 where
          pub sound : Sound R I st
          pub has_clean : member clean ⊆ member st.ranked
          pub pairs : (ρ : Rule) → ρ ∈ R → Marked A (atom ρ.head) → T (member st.ranked ρ.head) → (Fires (member clean) ρ → ⊥)
              → T (member st.ranked (negation ρ.head))

        -- the body of a rule that fires, and not for clean literals, is i
        body_is_𝐢 : (S : ℕ → Bool) → S ⊆ I → (ρ : Rule) → (Fires (member clean) ρ → ⊥) → Fires S ρ → body_value I ρ.groups ≡ 𝐢
        body_is_𝐢 S s ρ n (inl e) = absurd (n (inl e))
        body_is_𝐢 S s ρ n (inr q) =
            body_𝐢 I ρ.groups (λ e. n (inl e)) (λ γ k t. n (inr (γ, k, λ ι i. all-𝐭 ι (group_𝐭 I γ t ι i))))
            q.0 q.1 (group_in_lem I q.0 (λ ι i. s ι (q.2 ι i)))

        module _ {st : Found} {ρ : Rule} (r : ρ ∈ R) (s : SoundMarked st) (new : T (not (member st.ranked ρ.head)))
            (marked : Marked A (atom ρ.head)) where
          sound_by_clean : {g : ℕ} → WhichAllows (member clean) ρ.groups (Some g) → SoundMarked (with_line st ρ.head ρ.head g)
          sound_by_clean {g} a =
              let mv = line_moves st ρ.head ρ.head g s.sound.fit (below ρ r) new in
              record {
                sound = line_by_𝐭 st ρ (member clean) s.sound r new s.has_clean is-𝐭 a;
                has_clean = λ l m. mv.grown.kept l (s.has_clean l m);
                pairs = λ σ q k i n. ⊎_elim
                    (λ (e : σ.head ≡ ρ.head). absurd (n (subst⁻¹ (Fires (member clean)) (one σ ρ q r e) (answered_fires (member clean) ρ a))))
                    (λ (y : T (member st.ranked σ.head)). mv.grown.kept (negation σ.head) (s.pairs σ q k y n))
                    (line_cases st ρ.head ρ.head g s.sound.fit (below ρ r) σ.head i);
              }

          module _ {g : ℕ} (n : WhichAllows (member clean) ρ.groups None) (a : WhichAllows (member st.ranked) ρ.groups (Some g)) where
            abbrev st₁ : Found
            st₁ = with_line st ρ.head ρ.head g

            mv₁ : Moves st st₁
            mv₁ = line_moves st ρ.head ρ.head g s.sound.fit (below ρ r) new

            never_clean : Fires (member clean) ρ → ⊥
            never_clean f = subst T (sym (none_fires (member clean) ρ n refl)) (→fires (member clean) ρ f)

            body : body_value I ρ.groups ≡ 𝐢
            body = body_is_𝐢 (member st.ranked) s.sound.inside ρ never_clean (answered_fires (member st.ranked) ρ a)

            justified_by_8 : (l : ℕ) → (ρ.head ≡ l) ⊎ (ρ.head ≡ negation l) → atom l ≡ atom ρ.head
                → Justified R I (Before st₁) l ρ.head g
            justified_by_8 l own e =
                let q = which→carries_𝐢 I (Before st₁) ρ (member st.ranked)
                (earlier st ρ.head ρ.head g s.sound (below ρ r) new) s.sound.inside body a in
                by_inconsistency r body q.1 q.2 l own (marked→𝐢 R A I is_held_lem l (rw e marked))

            sound₁ : Sound R I st₁
            sound₁ =
                sound_line st ρ.head ρ.head g s.sound (below ρ r) new (marked→member R A I is_held_lem ρ.head marked)
                (justified_by_8 ρ.head (inl refl) refl)

            sound_negation : {st₂ : Found} → NegationToo st₁ ρ.head g st₂ → Sound R I st₂
            sound_negation (had_one m) = sound₁
            sound_negation (gets_one k) =
                let l : ℕ = negation ρ.head in
                sound_line st₁ l ρ.head g sound₁ (negation_below ρ.head (below ρ r)) k
                (marked→member R A I is_held_lem l (rw (atom_negation ρ.head) marked))
                (justified_mono (before_grown (line_moves st₁ l ρ.head g mv₁.fit (negation_below ρ.head (below ρ r)) k).grown)
                (justified_by_8 l (inr (omega arith)) (atom_negation ρ.head)))

            sound_by_inconsistency : {st₂ : Found} → NegationToo st₁ ρ.head g st₂ → SoundMarked st₂
            sound_by_inconsistency x =
                let mv₂ = negation_moves mv₁.fit (below ρ r) x in
                record {
                  sound = sound_negation x;
                  has_clean = λ l m. mv₂.grown.kept l (mv₁.grown.kept l (s.has_clean l m));
                  pairs = λ σ q k i f.
                      ⊎_elim
                      (λ (e : σ.head ≡ negation ρ.head).
                      let z : negation σ.head ≡ ρ.head = omega arith in
                      rw z (mv₂.grown.kept ρ.head (line_ranked st ρ.head ρ.head g s.sound.fit (below ρ r))))
                      (λ (y : T (member st₁.ranked σ.head)).
                      ⊎_elim (λ (e : σ.head ≡ ρ.head). rw e (negation_ranked mv₁.fit (below ρ r) x))
                      (λ (z : T (member st.ranked σ.head)).
                      mv₂.grown.kept (negation σ.head) (mv₁.grown.kept (negation σ.head) (s.pairs σ q k z f)))
                      (line_cases st ρ.head ρ.head g s.sound.fit (below ρ r) σ.head y))
                      (negation_cases mv₁.fit (below ρ r) x σ.head i);
                }

        pub marked_added : {st : Found} {ρ : Rule} → ρ ∈ R → SoundMarked st → {a : Adds} → Added true clean A st ρ a
            → SoundMarked (adding st ρ.head a)
        unfolding adding
        marked_added r s (not_due t) = s
        marked_added r s (no_group a) = s
        marked_added {ρ = ρ} r s (one_line d a) = sound_by_clean r s d.0 (true→T (A (atom ρ.head)) d.1) a
        marked_added {st = st} {ρ = ρ} r s (two_lines {g = g} e d n a) =
            sound_by_inconsistency r s d.0 (true→T (A (atom ρ.head)) d.1) n a (negation_too (with_line st ρ.head ρ.head g) ρ.head g)
