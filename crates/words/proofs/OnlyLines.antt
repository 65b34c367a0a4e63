-- Tables that differ only in line numbers are of one length, checked alike and of the same rules.
use mathlib.Core.Path.{◌≡◌, refl, sym, ap, ap₂, ◌∙◌, subst}
use mathlib.Core.List.{List, [], ◌∷◌}
use mathlib.Core.Bool.{Bool}
use Prim.Native.Nat.{ℕ, zero, suc}
use lib.Dec.{leb}
use lib.ListN.{length, take, drop}
use Rattle.paper.specs.Rules.{Rule}
use Rattle.refusal.specs.Numbers.{too_many_atoms, table_too_long}
use Rattle.refusal.specs.Checks.{Checked, asking, or_else}
use Rattle.refusal.proofs.Laws.{or_else_accepted}
use Rattle.words.specs.declared.Due.{Due}
use Rattle.words.specs.declared.Due.TheVariants.{Head, Line, Count, Size, Literal}
use Rattle.words.specs.Layout.{take_groups, drop_groups, records_within, records_of, rules_in, rules_of}
use Rattle.words.specs.Check.{fault, walk, seen_after, next, groups_due, literals_due, no_heads, table_check, AcceptedTable}
use Rattle.words.specs.OnlyLines.{SameFrom, OnlyLinesDiffer}
use Rattle.words.proofs.Laws.{accepted_walk}
use Rattle.std.specs.Prelude.{Ok}

same_length : (due : Due) (t u : List ℕ) → SameFrom due t u → length t ≡ length u
unfolding SameFrom
same_length due [] [] same = refl
same_length due [] (w ∷ u) same = absurd same
same_length due (v ∷ t) [] same = absurd same
same_length due (v ∷ t) (w ∷ u) same = ap suc (same_length (next due v) t u same.1)

-- the literals of a group, and what comes after them
same_literals : (k g : ℕ) (t u : List ℕ) → SameFrom (literals_due k g) t u → (take k t ≡ take k u) × SameFrom (groups_due g) (drop k t) (drop k u)
unfolding SameFrom
same_literals zero g t u same = (refl, same)
same_literals (suc k) g [] [] same = (refl, tt)
same_literals (suc k) g [] (w ∷ u) same = absurd same
same_literals (suc k) g (v ∷ t) [] same = absurd same
same_literals (suc k) g (v ∷ t) (w ∷ u) same =
    let rest = same_literals k g t u same.1 in (ap₂ (λ (x : ℕ) (l : List ℕ). x ∷ l) same.0 rest.0, rest.1)

-- the groups of a body, and what comes after them
same_groups : (m : ℕ) (t u : List ℕ) → SameFrom (groups_due m) t u
    → (take_groups m t ≡ take_groups m u) × SameFrom Head (drop_groups m t) (drop_groups m u)
unfolding SameFrom take_groups drop_groups
same_groups zero t u same = (refl, same)
same_groups (suc m) [] [] same = (refl, tt)
same_groups (suc m) [] (w ∷ u) same = absurd same
same_groups (suc m) (v ∷ t) [] same = absurd same
same_groups (suc m) (v ∷ t) (w ∷ u) same =
    let group = same_literals v m t u same.1 in
    let rest = same_groups m (drop v t) (drop v u) group.1 in
    subst (λ (x : ℕ). (take v t ∷ take_groups m (drop v t) ≡ take x u ∷ take_groups m (drop x u))
    × SameFrom Head (drop_groups m (drop v t)) (drop_groups m (drop x u))) same.0
    (ap₂ (λ (β : List ℕ) (βs : List (List ℕ)). β ∷ βs) group.0 rest.0, rest.1)

same_rules : (n : ℕ) (t u : List ℕ) → SameFrom Head t u → rules_in (records_within n t) ≡ rules_in (records_within n u)
unfolding SameFrom records_within
same_rules zero t u same = refl
same_rules (suc n) [] [] same = refl
same_rules (suc n) [] (w ∷ u) same = absurd same
same_rules (suc n) (v ∷ t) [] same = absurd same
same_rules (suc n) (v ∷ []) (w ∷ []) same = refl
same_rules (suc n) (v ∷ []) (w ∷ y ∷ u) same = absurd same.1
same_rules (suc n) (v ∷ x ∷ t) (w ∷ []) same = absurd same.1
same_rules (suc n) (v ∷ x ∷ []) (w ∷ y ∷ []) same = refl
same_rules (suc n) (v ∷ x ∷ []) (w ∷ y ∷ k ∷ u) same = absurd same.1.1
same_rules (suc n) (v ∷ x ∷ m ∷ t) (w ∷ y ∷ []) same = absurd same.1.1
same_rules (suc n) (v ∷ x ∷ m ∷ t) (w ∷ y ∷ k ∷ u) same =
    let body = same_groups m t u same.1.1.1 in
    ap₂ (λ (h : ℕ) (βs : List (List ℕ)). record { head = h; groups = βs } ∷ rules_in (records_within n (drop_groups m t))) same.0 body.0
    ∙ ap (λ (R : List Rule). record { head = w; groups = take_groups m u } ∷ R) (same_rules n (drop_groups m t) (drop_groups m u) body.1)
    ∙ ap (λ (i : ℕ). record { head = w; groups = take_groups i u } ∷ rules_in (records_within n (drop_groups i u))) same.1.1.0

-- after the same word a check goes on alike where it did so with the rest
same_word : (N M : ℕ) (seen other : ℕ → Bool) (due : Due) (p v w : ℕ) (t u : List ℕ) → v ≡ w
    → (walk N (seen_after due seen v) (next due v) (suc p) t ≡ Ok tt → walk N (seen_after due seen v) (next due v) (suc p) u ≡ Ok tt
    → walk M (seen_after due other v) (next due v) (suc p) t ≡ walk M (seen_after due other v) (next due v) (suc p) u)
    → walk N seen due p (v ∷ t) ≡ Ok tt → walk N seen due p (w ∷ u) ≡ Ok tt → walk M other due p (v ∷ t) ≡ walk M other due p (w ∷ u)
unfolding walk
same_word N M seen other due p v w t u same onward e e' =
    let rest : ℕ → List ℕ → Checked = λ x l. walk N (seen_after due seen x) (next due x) (suc p) l in
    let a = or_else_accepted (fault N seen due p v) (rest v t) e in
    let b = or_else_accepted (fault N seen due p w) (rest w u) e' in
    ap (or_else (fault M other due p v)) (onward a.1 (subst (λ (x : ℕ). rest x u ≡ Ok tt) (sym same) b.1))
    ∙ ap (λ (x : ℕ). or_else (fault M other due p x) (walk M (seen_after due other x) (next due x) (suc p) u)) same

-- what one check accepts on both sides, another answers alike
same_walk : (N M : ℕ) (seen other : ℕ → Bool) (due : Due) (p : ℕ) (t u : List ℕ) → SameFrom due t u
    → walk N seen due p t ≡ Ok tt → walk N seen due p u ≡ Ok tt → walk M other due p t ≡ walk M other due p u
unfolding walk SameFrom
same_walk N M seen other due p [] [] same e e' = refl
same_walk N M seen other due p [] (w ∷ u) same e e' = absurd same
same_walk N M seen other due p (v ∷ t) [] same e e' = absurd same
same_walk N M seen other Head p (v ∷ t) (w ∷ u) same e e' =
    same_word N M seen other Head p v w t u same.0 (same_walk N M (seen_after Head seen v) (seen_after Head other v) Line (suc p) t u same.1) e e'
same_walk N M seen other Line p (v ∷ t) (w ∷ u) same e e' =
    let a = or_else_accepted (fault N seen Line p v) (walk N seen Count (suc p) t) e in
    let b = or_else_accepted (fault N seen Line p w) (walk N seen Count (suc p) u) e' in
    ap₂ or_else (a.0 ∙ sym b.0) (same_walk N M seen other Count (suc p) t u same.1 a.1 b.1)
same_walk N M seen other Count p (v ∷ t) (w ∷ u) same e e' =
    same_word N M seen other Count p v w t u same.0 (same_walk N M seen other (groups_due v) (suc p) t u same.1) e e'
same_walk N M seen other (Size g) p (v ∷ t) (w ∷ u) same e e' =
    same_word N M seen other (Size g) p v w t u same.0 (same_walk N M seen other (literals_due v g) (suc p) t u same.1) e e'
same_walk N M seen other (Literal k g) p (v ∷ t) (w ∷ u) same e e' =
    same_word N M seen other (Literal k g) p v w t u same.0 (same_walk N M seen other (literals_due k g) (suc p) t u same.1) e e'

-- all that an entry asks of a table
pub record Alike (t u : List ℕ) : Type 0 where
  pub lengths : length t ≡ length u
  pub checks : (N : ℕ) → table_check N t ≡ table_check N u
  pub rules : rules_of t ≡ rules_of u

pub only_lines_alike : (N : ℕ) (t u : List ℕ) → AcceptedTable N t → AcceptedTable N u → OnlyLinesDiffer t u → Alike t u
unfolding table_check records_of
only_lines_alike N t u a b same =
    let long = same_length Head t u same in
    record {
      lengths = long;
      checks = λ M. ap₂ (λ (n : ℕ) (c : Checked). asking (leb M 512) too_many_atoms (asking (leb n 8192) table_too_long c)) long
          (same_walk N M no_heads no_heads Head 0 t u same (accepted_walk N t a) (accepted_walk N u b));
      rules = same_rules (length t) t u same ∙ ap (λ (n : ℕ). rules_in (records_within n u)) long;
    }
