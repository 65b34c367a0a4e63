-- The lines found for a settled marking: one for each held literal and for no other, each justified, with small numbers. Assumes nothing.
use mathlib.Core.Bool.{Bool, true, false, not}
use mathlib.Core.List.Memᴰ
use mathlib.Core.List.{List, [], ◌∷◌}
use mathlib.Core.Logic.{◌⊎◌, inl, inr, ⊎_elim, ◌↔◌}
use mathlib.Core.Path.{◌≡◌, sym, ap, ◌∙◌, subst}
use Prim.Native.Nat.{ℕ, ◌≤◌, ◌<◌}
use native.Mathlib.Omega.{arith}
use lib.Dec.{T, T_not}
use lib.ListN.{length, length-replicate}
use Rattle.sets.specs.Sets.{◌∈◌, ◌⊆◌, ◌with◌}
use Rattle.sets.proofs.Besides.{with_⊇, with_cases, with_itself}
use Rattle.sets.proofs.Counting.{count_none}
use Rattle.sets.proofs.Tests.{either, T→true, not→false, false→not}
use Rattle.paper.specs.Table1.{𝐭}
use Rattle.paper.specs.Rules.{Rule, OneRulePerHead, HeadsBelow, IsRuleOf, atom, negation, positive, negative}
use Rattle.paper.specs.Definitions.{Interpretation, value}
use Rattle.paper.specs.Marking.{Marks, Marked, Unmarked, from_base, by_fact, by_group, Held, Clean, HeldNotClean, CanBeMarked, Settled, Marking, none, one_more, IsHeld}
use Rattle.paper.proofs.Closure.{Fires}
use Rattle.paper.proofs.Leasts.{least_contained, clean_anti, atom_positive, atom_negative, negation_positive, negation_negative, sign}
use Rattle.paper.proofs.Settled.{unmarked→clean, 𝐭→clean}
use Rattle.bits.specs.Sets.{member}
use Rattle.bits.proofs.Laws.{member_of_zeros}
use Rattle.least.specs.Groups.{OnlyGroup, the_fact, the_group}
use Rattle.least.proofs.Groups.{number≤length}
use Rattle.justified.specs.ByLiteral.{no_line}
use Rattle.justified.specs.Justified.{Justified, by_6_or_7, by_8}
use Rattle.ranks.specs.declared.Found.{Found}
use Rattle.ranks.specs.Found.{Fit, rank_of, head_of, group_of, over_rules, no_lines_yet, clean_found, reasons_found}
use Rattle.ranks.proofs.Lines.{ranked_below, negation_below}
use Rattle.ranks.proofs.Rules.{at_rule_lem, pass_keeps, still_closed}
use Rattle.ranks.proofs.Passes.{at_most_1024, rest_keeps, at_rest}
use Rattle.ranks.proofs.Sound.{justified_mono, fires→in, SoundUnmarked, unmarked_𝐭, unmarked_added, SoundMarked, marked_added}

none_ranked : (l : ℕ) → T (member no_lines_yet.ranked l) → ⊥
unfolding no_lines_yet
none_ranked l m = subst T (member_of_zeros 16 l) m

pub no_lines_fit : Fit no_lines_yet
unfolding no_lines_yet
no_lines_fit =
    record {
      row = length-replicate {A = ℕ} 16 0;
      room = length-replicate 1024 no_line;
      counted = sym (count_none 1024 (member no_lines_yet.ranked) (λ l lt. false→not (member no_lines_yet.ranked l) (member_of_zeros 16 l)));
    }

-- a justified line names the rule of its literal or of the negation, and one of that rule's groups
head_named : {R : List Rule} {ρ σ τ : Rule} {h g l : ℕ} → IsRuleOf R h ρ → OnlyGroup ρ g σ → IsRuleOf (σ ∷ []) l τ → h ≡ l
head_named r (the_fact e) q = sym r.1 ∙ ap (λ (z : Rule). z.head) (sym (Memᴰ.eq_of_singleton q.0)) ∙ q.1
head_named r (the_group n) q = sym r.1 ∙ ap (λ (z : Rule). z.head) (sym (Memᴰ.eq_of_singleton q.0)) ∙ q.1

names_own : {R : List Rule} {I : Interpretation} {before : ℕ → ℕ → Type 0} {l h g : ℕ}
    → Justified R I before l h g → (h ≡ l) ⊎ (h ≡ negation l)
names_own {R} (by_6_or_7 ρ σ r o s) = inl (head_named {R = R} r o s.1)
names_own {R} (by_8 ρ σ r o i b q) = ⊎_elim (λ e. inl (head_named {R = R} r o e)) (λ e. inr (head_named {R = R} r o e)) q.1

number_small : {ρ σ : Rule} {g : ℕ} → OnlyGroup ρ g σ → g ≤ length ρ.groups
number_small (the_fact e) = omega arith
number_small (the_group n) = number≤length n

names_group : {R : List Rule} {I : Interpretation} {before : ℕ → ℕ → Type 0} {l h g M : ℕ}
    → ((ρ : Rule) → ρ ∈ R → length ρ.groups ≤ M) → Justified R I before l h g → g ≤ M
names_group small (by_6_or_7 ρ σ r o s) = let k = small ρ r.0 in let j = number_small o in omega arith
names_group small (by_8 ρ σ r o i b q) = let k = small ρ r.0 in let j = number_small o in omega arith

-- of a line: its rank, the head that it names and its group's number
pub record SmallLine (st : Found) (l M : ℕ) : Type 0 where
  pub rank_below : rank_of st l < st.next_rank
  pub rank_small : rank_of st l < 1024
  pub head_own : (head_of st l ≡ l) ⊎ (head_of st l ≡ negation l)
  pub head_small : head_of st l < 1024
  pub group_small : group_of st l ≤ M

module _ (R : List Rule) (A : Marks) (I : Interpretation) (is_held_lem : IsHeld R A I) (below : HeadsBelow 512 R) (settled : Settled R A) where
  -- ---- the literals with unmarked atoms

  clean_sound : SoundUnmarked R A I is_held_lem below settled (clean_found R A)
  unfolding clean_found
  clean_sound =
      rest_keeps false no_lines_yet.ranked A R (SoundUnmarked R A I is_held_lem below settled)
      (pass_keeps false no_lines_yet.ranked A (SoundUnmarked R A I is_held_lem below settled) R
      (λ st ρ m s. unmarked_added R A I is_held_lem below settled m s (at_rule_lem no_lines_yet.ranked A st ρ false)))
      no_lines_yet
      (record {
        sound = record {
          fit = no_lines_fit;
          inside = λ l m. absurd (none_ranked l m);
          below = λ l m. absurd (none_ranked l m);
          line = λ l m. absurd (none_ranked l m);
        };
        unmarked = λ l m. absurd (none_ranked l m);
      })

  clean_still : over_rules false no_lines_yet.ranked A R (clean_found R A) ≡ clean_found R A
  unfolding clean_found
  clean_still = at_rest false no_lines_yet.ranked A R below no_lines_yet no_lines_fit

  abbrev C : ℕ → Bool
  C = member (clean_found R A).ranked

  -- all clean literals have lines
  clean_ranked : {l : ℕ} → Clean R A l → T (C l)
  clean_ranked =
      least_contained (λ x. T (C x)) (λ x h. absurd h) (λ x ρ m e u n. closed x ρ m e u (inl n))
      (λ x ρ β m e u g all. closed x ρ m e u (inr (β, g, all)))
    where
      closed : (x : ℕ) (ρ : Rule) → ρ ∈ R → ρ.head ≡ x → Unmarked A (atom x) → Fires C ρ → T (C x)
      closed x ρ m e u f =
          subst (λ (z : ℕ). T (C z)) e
          (still_closed false no_lines_yet.ranked A R below (clean_found R A) clean_sound.sound.fit clean_still ρ m (rw e (not→false (A (atom x)) u)) f)

  clean_is_𝐭 : (l : ℕ) → T (C l) → value I l ≡ 𝐭
  clean_is_𝐭 = unmarked_𝐭 R A I is_held_lem below settled clean_sound

  clean_all_𝐭 : (l : ℕ) → value I l ≡ 𝐭 → T (C l)
  clean_all_𝐭 l e = clean_ranked (𝐭→clean R A I is_held_lem settled l e)

  module _ (one : OneRulePerHead R) where
    -- ---- all literals

    found_sound : SoundMarked R A I is_held_lem below settled (clean_found R A).ranked one clean_is_𝐭 clean_all_𝐭 (reasons_found R A)
    unfolding reasons_found
    found_sound =
        rest_keeps true (clean_found R A).ranked A R (SoundMarked R A I is_held_lem below settled (clean_found R A).ranked one clean_is_𝐭 clean_all_𝐭)
        (pass_keeps true (clean_found R A).ranked A (SoundMarked R A I is_held_lem below settled (clean_found R A).ranked one clean_is_𝐭 clean_all_𝐭) R
        (λ st ρ m s. marked_added R A I is_held_lem below settled (clean_found R A).ranked one clean_is_𝐭 clean_all_𝐭 m s
        (at_rule_lem (clean_found R A).ranked A st ρ true)))
        (clean_found R A)
        (record {
          sound = clean_sound.sound;
          has_clean = λ l m. m;
          pairs = λ ρ m k i n. absurd (T_not (A (atom ρ.head)) (clean_sound.unmarked ρ.head i) k);
        })

    abbrev S : ℕ → Bool
    S = member (reasons_found R A).ranked

    found_still : over_rules true (clean_found R A).ranked A R (reasons_found R A) ≡ reasons_found R A
    unfolding reasons_found
    found_still = at_rest true (clean_found R A).ranked A R below (clean_found R A) clean_sound.sound.fit

    -- a rule that fires for literals with lines has a line for its head
    found_closed : (ρ : Rule) → ρ ∈ R → Fires S ρ → T (S ρ.head)
    found_closed ρ m f =
        ⊎_elim
        (λ (k : T (A (atom ρ.head))).
        still_closed true (clean_found R A).ranked A R below (reasons_found R A) found_sound.sound.fit found_still ρ m (T→true (A (atom ρ.head)) k) f)
        (λ (u : T (not (A (atom ρ.head)))).
        found_sound.has_clean ρ.head
        (clean_ranked (unmarked→clean R A I is_held_lem settled ρ.head (fires→in R A I is_held_lem S found_sound.sound.inside ρ m f) u)))
        (either (A (atom ρ.head)))

    -- where one literal of an atom was held and not clean when it was marked, both have lines
    both_lines : (B : Marks) → B ⊆ A → (p : ℕ) → Unmarked B (atom p) → Marked A (atom p) → (Clean R B p → ⊥) → T (S p) → Held R B p
        → T (S (negation p))
    both_lines B sub p u k nc m (from_base h) = absurd (T_not (B (atom p)) u h)
    both_lines B sub p u k nc m (by_fact ρ r e a g) = absurd (nc (by_fact ρ r e u g))
    both_lines B sub p u k nc m (by_group ρ β r e a g all) =
        subst (λ (z : ℕ). T (S (negation z))) e
        (found_sound.pairs ρ r (rw e k) (rw e m) (λ f. nc (⊎_elim (λ (z : ρ.groups ≡ []). by_fact ρ r e u z)
        (λ (q : (γ : List ℕ) × (γ ∈ ρ.groups) × ((ι : ℕ) → ι ∈ γ → T (C ι))).
        by_group ρ q.0 r e u q.1 (λ ι i. clean_anti B A sub
        (unmarked→clean R A I is_held_lem settled ι (clean_sound.sound.inside ι (q.2 ι i)) (clean_sound.unmarked ι (q.2 ι i))))) f)))

    -- what is held has a line, if the literals of marked atoms have
    held_ranked : (B : Marks) → ((x : ℕ) → Marked B (atom x) → T (S x)) → {l : ℕ} → Held R B l → T (S l)
    held_ranked B base =
        least_contained (λ x. T (S x)) base
        (λ x ρ m e u n. subst (λ (z : ℕ). T (S z)) e (found_closed ρ m (inl n)))
        (λ x ρ β m e u g all. subst (λ (z : ℕ). T (S z)) e (found_closed ρ m (inr (β, g, all))))

    -- one mark more
    newly_marked : (B : Marks) (a : ℕ) → B with a ⊆ A → CanBeMarked R B a → ((x : ℕ) → Marked B (atom x) → T (S x))
        → (x : ℕ) → Marked (B with a) (atom x) → T (S x)
    newly_marked B a sub c base x h =
        ⊎_elim
        (λ (e : atom x ≡ a).
        ⊎_elim (λ (s : (x ≡ positive (atom x)) × (negation x ≡ negative (atom x))). rw (s.0, e) both.0)
        (λ (s : (x ≡ negative (atom x)) × (negation x ≡ positive (atom x))). rw (s.0, e) both.1) (sign x))
        (λ (k : T (B (atom x))). base x k)
        (with_cases B a (atom x) h)
      where
        held : {l : ℕ} → Held R B l → T (S l)
        held k = held_ranked B base k

        other : (p : ℕ) → atom p ≡ a → HeldNotClean R B p → T (S (negation p))
        other p e k =
            both_lines B (λ b i. sub b (with_⊇ B a b i)) p (rw e c.unmarked) (rw e (sub a (with_itself B a))) k.1 (held k.0) k.0

        both : T (S (positive a)) × T (S (negative a))
        both =
            ⊎_elim (λ (k : Held R B (positive a) × Held R B (negative a)). (held k.0, held k.1))
            (⊎_elim
            (λ (k : HeldNotClean R B (positive a)).
            (held k.0, subst (λ (z : ℕ). T (S z)) (negation_positive a) (other (positive a) (atom_positive a) k)))
            (λ (k : HeldNotClean R B (negative a)).
            (subst (λ (z : ℕ). T (S z)) (negation_negative a) (other (negative a) (atom_negative a) k), held k.0)))
            c.because

    -- the literals of atoms that were marked at any time of the marking have lines
    marked_ranked : {n : ℕ} {B : Marks} → Marking R n B → B ⊆ A → (x : ℕ) → Marked B (atom x) → T (S x)
    marked_ranked none sub x h = absurd h
    marked_ranked (one_more {A = B} a mk c) sub x h =
        newly_marked B a sub c (λ y k. marked_ranked mk (λ b i. sub b (with_⊇ B a b i)) y k) x h

    module _ {n : ℕ} (marking : Marking R n A) where
      -- exactly the held literals have lines
      pub found_exactly : (l : ℕ) → T (member (reasons_found R A).ranked l) ↔ T (I l)
      found_exactly l = (found_sound.sound.inside l, λ m. held_ranked A (marked_ranked marking (λ a h. h)) ((is_held_lem l).0 m))

      -- each line is justified
      pub found_justified : (l : ℕ) → T (I l)
          → Justified R I (λ x y. rank_of (reasons_found R A) x < rank_of (reasons_found R A) y) l (head_of (reasons_found R A) l)
          (group_of (reasons_found R A) l)
      found_justified l m = justified_mono (λ x y b. b.2) (found_sound.sound.line l ((found_exactly l).1 m))

      -- and all that it says is small
      pub found_small : (M : ℕ) → ((ρ : Rule) → ρ ∈ R → length ρ.groups ≤ M) → (l : ℕ) → T (I l) → SmallLine (reasons_found R A) l M
      found_small M small l m =
          let k : T (S l) = (found_exactly l).1 m in
          let lt = ranked_below (reasons_found R A) found_sound.sound.fit l k in
          let rank = found_sound.sound.below l k in
          let most = at_most_1024 (reasons_found R A) found_sound.sound.fit in
          let own = names_own (found_justified l m) in
          record {
            rank_below = rank;
            rank_small = omega arith;
            head_own = own;
            head_small = ⊎_elim (λ (e : head_of (reasons_found R A) l ≡ l). rw e lt)
                (λ (e : head_of (reasons_found R A) l ≡ negation l). rw e (negation_below l lt)) own;
            group_small = names_group small (found_justified l m);
          }
