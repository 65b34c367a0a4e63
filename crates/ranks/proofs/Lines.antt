-- A line more: what it says, and that no other line changes. Assumes nothing.
use mathlib.Core.List.{List}
use mathlib.Core.Bool.{Bool, true, false, not, cond}
use mathlib.Core.Logic.{◌⊎◌, inr, ◌≢◌}
use mathlib.Core.Path.{◌≡◌, refl, sym, ap, ◌∙◌, subst}
use Prim.Native.Nat.{ℕ, suc, ◌≤◌, ◌<◌}
use native.Mathlib.Omega.{arith}
use lib.Dec.{T, T_not}
use lib.ListN.{length, length-set}
use lib.Seq.{get_or-set_same, get_or-set_other}
use Rattle.sets.specs.Sets.{◌with◌, count}
use Rattle.sets.proofs.Besides.{with_⊇, with_cases, with_itself}
use Rattle.sets.proofs.Counting.{count_with, count≤}
use Rattle.bits.specs.Sets.{member}
use Rattle.bits.proofs.Laws.{member_put_in, length_put_in, member_past}
use Rattle.paper.specs.Rules.{negation}
use Rattle.justified.specs.declared.Line.{Line}
use Rattle.justified.specs.ByLiteral.{no_line, line_in}
use Rattle.ranks.specs.declared.Found.{Found}
use Rattle.ranks.specs.Found.{Fit, rank_of, head_of, group_of, with_line, with_negation}

-- lines stay as they are
pub record Grown (st st' : Found) : Type 0 where
  pub kept : (l : ℕ) → T (member st.ranked l) → T (member st'.ranked l)
  pub same_rank : (l : ℕ) → T (member st.ranked l) → rank_of st' l ≡ rank_of st l
  pub same_head : (l : ℕ) → T (member st.ranked l) → head_of st' l ≡ head_of st l
  pub same_group : (l : ℕ) → T (member st.ranked l) → group_of st' l ≡ group_of st l

pub grown_refl : (st : Found) → Grown st st
grown_refl st = record { kept = λ l m. m; same_rank = λ l m. refl; same_head = λ l m. refl; same_group = λ l m. refl }

pub grown_trans : {a b c : Found} → Grown a b → Grown b c → Grown a c
grown_trans g h =
    record {
      kept = λ l m. h.kept l (g.kept l m);
      same_rank = λ l m. h.same_rank l (g.kept l m) ∙ g.same_rank l m;
      same_head = λ l m. h.same_head l (g.kept l m) ∙ g.same_head l m;
      same_group = λ l m. h.same_group l (g.kept l m) ∙ g.same_group l m;
    }

-- lines were added or none, and then nothing changed
pub record Moves (st st' : Found) : Type 0 where
  pub fit : Fit st'
  pub grown : Grown st st'
  pub more : st.next_rank ≤ st'.next_rank
  pub still : st'.next_rank ≡ st.next_rank → st' ≡ st

pub moves_refl : {st : Found} → Fit st → Moves st st
moves_refl {st} f = record { fit = f; grown = grown_refl st; more = omega arith; still = λ e. refl }

pub moves_trans : {a b c : Found} → Moves a b → Moves b c → Moves a c
moves_trans {a} {b} {c} m n =
    record {
      fit = n.fit;
      grown = grown_trans m.grown n.grown;
      more = let p = m.more in let q = n.more in omega arith;
      still = λ e. let p = m.more in let q = n.more in n.still (omega arith) ∙ m.still (omega arith);
    }

-- what is in a row of 16 words is below 1,024
pub row_below : (s : List ℕ) → length s ≡ 16 → (l : ℕ) → T (member s l) → l < 1024
row_below s row l m =
    elim (native.Mathlib.Decide.dec_lt l 1024) [
      | yes h ↦ h
      | no h ↦ absurd (subst T (member_past s l (omega arith)) m)
    ]

-- what has a line is one of 1,024 literals
pub ranked_below : (st : Found) → Fit st → (l : ℕ) → T (member st.ranked l) → l < 1024
ranked_below st f = row_below st.ranked f.row

module _ (st : Found) (l head group : ℕ) (fit : Fit st) (below : l < 1024) where
  ranked_with : member (with_line st l head group).ranked ≡ member st.ranked with l
  ranked_with = member_put_in st.ranked l (let e = fit.row in omega arith)

  pub line_ranked : T (member (with_line st l head group).ranked l)
  line_ranked = rw ranked_with (with_itself (member st.ranked) l)

  -- what has a line now is l or had one
  pub line_cases : (x : ℕ) → T (member (with_line st l head group).ranked x) → (x ≡ l) ⊎ T (member st.ranked x)
  line_cases x m = with_cases (member st.ranked) l x (rw ranked_with at m)

  new_line : Line
  new_line = record { rank = st.next_rank; head = head; group = group }

  line_is : line_in (with_line st l head group).lines l ≡ new_line
  unfolding new_line
  line_is = get_or-set_same st.lines l new_line no_line (let e = fit.room in omega arith)

  pub line_rank : rank_of (with_line st l head group) l ≡ st.next_rank
  unfolding new_line
  line_rank = ap (λ (x : Line). x.rank) line_is

  pub line_head : head_of (with_line st l head group) l ≡ head
  unfolding new_line
  line_head = ap (λ (x : Line). x.head) line_is

  pub line_group : group_of (with_line st l head group) l ≡ group
  unfolding new_line
  line_group = ap (λ (x : Line). x.group) line_is

  module _ (new : T (not (member st.ranked l))) where
    one_counted : count 1024 (member (with_line st l head group).ranked) ≡ suc st.next_rank
    one_counted = ap (count 1024) ranked_with ∙ count_with 1024 (member st.ranked) l below new ∙ sym (ap suc fit.counted)

    -- a rank is below 1,024
    pub rank_below : st.next_rank < 1024
    rank_below = let e = one_counted in let k = count≤ 1024 (member (with_line st l head group).ranked) in omega arith

    another : (x : ℕ) → T (member st.ranked x) → x ≢ l
    another x m e = T_not (member st.ranked l) new (subst (λ (z : ℕ). T (member st.ranked z)) e m)

    same_line : (x : ℕ) → T (member st.ranked x) → line_in (with_line st l head group).lines x ≡ line_in st.lines x
    same_line x m = get_or-set_other st.lines l x _ no_line (another x m)

    pub line_moves : Moves st (with_line st l head group)
    line_moves =
        record {
          fit = record {
            row = length_put_in st.ranked l ∙ fit.row;
            room = length-set st.lines l _ ∙ fit.room;
            counted = let e = one_counted in omega arith;
          };
          grown = record {
            kept = λ x m. rw ranked_with (with_⊇ (member st.ranked) l x m);
            same_rank = λ x m. ap (λ (z : Line). z.rank) (same_line x m);
            same_head = λ x m. ap (λ (z : Line). z.head) (same_line x m);
            same_group = λ x m. ap (λ (z : Line). z.group) (same_line x m);
          };
          more = omega arith;
          still = λ e. absurd (omega arith);
        }

-- the negation of one of 1,024 literals is one of them
pub negation_below : (l : ℕ) → l < 1024 → negation l < 1024
negation_below l h = omega arith

-- the negation has a line, or gets one
pub data NegationToo (st : Found) (head group : ℕ) : Found → Type 0 where
  had_one : T (member st.ranked (negation head)) → NegationToo st head group st
  gets_one : T (not (member st.ranked (negation head))) → NegationToo st head group (with_line st (negation head) head group)

pub negation_too : (st : Found) (head group : ℕ) → NegationToo st head group (with_negation st head group)
unfolding with_negation
negation_too st head group = go (member st.ranked (negation head)) (λ t. had_one t) (λ t. gets_one t)
  where
    go : (b : Bool) → (T b → NegationToo st head group st) → (T (not b) → NegationToo st head group (with_line st (negation head) head group))
        → NegationToo st head group (cond b st (with_line st (negation head) head group))
    go true f g = f tt
    go false f g = g tt

pub negation_moves : {st : Found} {head group : ℕ} {st' : Found} → Fit st → head < 1024 → NegationToo st head group st' → Moves st st'
negation_moves f h (had_one m) = moves_refl f
negation_moves {st} {head} {group} f h (gets_one n) = line_moves st (negation head) head group f (negation_below head h) n

pub negation_ranked : {st : Found} {head group : ℕ} {st' : Found} → Fit st → head < 1024 → NegationToo st head group st'
    → T (member st'.ranked (negation head))
negation_ranked f h (had_one m) = m
negation_ranked {st} {head} {group} f h (gets_one n) = line_ranked st (negation head) head group f (negation_below head h)

pub negation_cases : {st : Found} {head group : ℕ} {st' : Found} → Fit st → head < 1024 → NegationToo st head group st'
    → (x : ℕ) → T (member st'.ranked x) → (x ≡ negation head) ⊎ T (member st.ranked x)
negation_cases f h (had_one m) x k = inr k
negation_cases {st} {head} {group} f h (gets_one n) x k = line_cases st (negation head) head group f (negation_below head h) x k
