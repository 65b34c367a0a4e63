-- The lines that the rules passed so far justify: one record, and one turn of the loop. Assumes nothing.
use mathlib.Core.Bool.{Bool, true, false, ◌&&◌}
use mathlib.Core.List.Memᴰ
use mathlib.Core.List.{List, [], ◌∷◌, ◌++◌, map-append}
use mathlib.Core.Logic.{◌⊎◌, inl, inr, ⊎_elim, ◌↔◌}
use mathlib.Core.Path.{◌≡◌, refl, sym, ap, ap₂, ◌∙◌, subst, subst⁻¹}
use Prim.Native.Nat.{ℕ, ◌*◌, ◌≤◌, ◌<◌}
use native.Mathlib.Omega.{arith}
use native.Mathlib.Decide.{ℕ_discrete}
use lib.Dec.{T, eqb}
use lib.ListN.{length, replicate}
use borrow.Author.Tests.{eqb-true, eq-eqb, ne_eqb}
use Rattle.sets.specs.Sets.{◌∈◌}
use Rattle.sets.proofs.Tests.{true→T, and_both}
use Rattle.paper.specs.Rules.{Rule, negation}
use Rattle.paper.specs.Fires.{no_groups}
use Rattle.paper.specs.Definitions.{Interpretation}
use Rattle.bits.specs.Sets.{member, put_in}
use Rattle.bits.proofs.Laws.{member_put_in_same, member_put_in_other, length_put_in, member_of_zeros}
use Rattle.words.specs.Check.{AcceptedTable}
use Rattle.words.specs.Layout.{TableRecord, rules_in, rules_of, body_at}
use Rattle.words.specs.RecordAt.{groups_in, rule_at}
use Rattle.least.specs.Walk.{GroupsSkipped}
use Rattle.valued.proofs.Through.{Through, This, through_start, through_next, through_end}
use Rattle.justified.specs.Justified.{Justified, by_6_or_7, by_8}
use Rattle.justified.specs.declared.Line.{Line}
use Rattle.justified.specs.ByLiteral.{rank_in, head_in, group_in}
use Rattle.justified.proofs.Laws.{only_head}
use Rattle.grounds.specs.Grounds.{below, carried, by_carried, grounds, judged, with_judged, judged_both, JustifiedLines}
use Rattle.grounds.proofs.Deciding.{grounds→justified, justified→grounds}

-- the tests as the code makes them
module _ (I : Interpretation) (lines : List Line) (ρ : Rule) (l : ℕ) where
  pub told_fact : (S : ℕ → Bool) (g : ℕ) {b : Bool} → g ≡ group_in lines l → g ≡ 0 → b ≡ (no_groups ρ.groups && eqb l ρ.head)
      → b ≡ grounds I S ρ l (group_in lines l)
  unfolding grounds
  told_fact S g e z eb = eb ∙ rw (sym e ∙ z) refl

  pub told_group : (g h r : ℕ) {c : ℕ} {b : Bool} → g ≡ group_in lines l → (g ≡ 0 → ⊥) → h ≡ ρ.head → r ≡ rank_in lines h
      → c ≡ carried I (below lines r) ρ.groups g → b ≡ by_carried I ρ l c
      → b ≡ grounds I (below lines (rank_in lines ρ.head)) ρ l (group_in lines l)
  unfolding grounds
  told_group g h r e n eh er ec eb =
      let r' : r ≡ rank_in lines ρ.head = er ∙ ap (rank_in lines) eh in
      eb ∙ ap (by_carried I ρ l) (ec ∙ ap₂ (λ (x y : ℕ). carried I (below lines x) ρ.groups y) r' e)
      ∙ rw (ne_eqb (group_in lines l) 0 (λ z. n (e ∙ z))) refl

-- a set with a literal besides, if its line was judged so
judged_member : (s : List ℕ) (l x : ℕ) (b : Bool) → l < 64 * length s → T (member (with_judged s l b) x) → T (member s x) ⊎
    ((x ≡ l) × (b ≡ true))
judged_member s l x false h m = inl m
judged_member s l x true h m =
    elim (ℕ_discrete x l) [ yes e ↦ inr (e, refl) | no n ↦ inl (subst T (member_put_in_other s l x n) m) ]

member_judged : (s : List ℕ) (l : ℕ) (b : Bool) → l < 64 * length s → b ≡ true → T (member (with_judged s l b) l)
member_judged s l b h e = rw e (true→T (member (put_in s l) l) (member_put_in_same s l h))

member_kept : (s : List ℕ) (l x : ℕ) (b : Bool) → l < 64 * length s → T (member s x) → T (member (with_judged s l b) x)
member_kept s l x false h m = m
member_kept s l x true h m =
    elim (ℕ_discrete x l) [
      | yes e ↦ rw e (true→T (member (put_in s l) l) (member_put_in_same s l h))
      | no n ↦ subst⁻¹ T
          (member_put_in_other s l x n) m
    ]

pub length_judged : (s : List ℕ) (l : ℕ) (b : Bool) → length (with_judged s l b) ≡ length s
length_judged s l true = length_put_in s l
length_judged s l false = refl

module _ (I : Interpretation) (lines : List Line) where
  abbrev before : ℕ → ℕ → Type 0
  before x y = rank_in lines x < rank_in lines y

  abbrev LineBy : List Rule → ℕ → Type 0
  LineBy R l = Justified R I before l (head_in lines l) (group_in lines l)

  -- a line is justified by the rules of two lists if it is by those of one
  of_either : (R Q : List Rule) (l : ℕ) {h g : ℕ} → Justified (R ++ Q) I before l h g → Justified R I before l h g ⊎ Justified Q I before l h g
  of_either R Q l (by_6_or_7 ρ σ r o s) =
      ⊎_elim (λ m. inl (by_6_or_7 ρ σ (m, r.1) o s)) (λ m. inr (by_6_or_7 ρ σ (m, r.1) o s)) (Memᴰ.append_cases R r.0)
  of_either R Q l (by_8 ρ σ r o v b q) =
      ⊎_elim (λ m. inl (by_8 ρ σ (m, r.1) o v b q)) (λ m. inr (by_8 ρ σ (m, r.1) o v b q)) (Memᴰ.append_cases R r.0)

  by_more : {R Q : List Rule} → ((ρ : Rule) → ρ ∈ R → ρ ∈ Q) → {l h g : ℕ} → Justified R I before l h g → Justified Q I before l h g
  by_more f (by_6_or_7 ρ σ r o s) = by_6_or_7 ρ σ (f ρ r.0, r.1) o s
  by_more f (by_8 ρ σ r o v b q) = by_8 ρ σ (f ρ r.0, r.1) o v b q

  -- one rule justifies no lines but those that name it, of its head and of that one's negation
  only_own : (ρ : Rule) (l : ℕ) {h g : ℕ} → Justified (ρ ∷ []) I before l h g → (h ≡ ρ.head) ×
      ((ρ.head ≡ l) ⊎ (ρ.head ≡ negation l))
  only_own ρ l (by_6_or_7 τ σ r o s) =
      let e : τ ≡ ρ = Memᴰ.eq_of_singleton r.0 in
      let c : s.0 ≡ σ = Memᴰ.eq_of_singleton s.1.0 in
      let head : (x : Rule) → x ≡ σ → x.head ≡ ρ.head = λ x q. ap (λ (z : Rule). z.head) q ∙ only_head o ∙ ap (λ (z : Rule). z.head) e in
      (sym r.1 ∙ ap (λ (z : Rule). z.head) e, inl (sym (head s.0 c) ∙ s.1.1))
  only_own ρ l (by_8 τ σ r o v b q) =
      let e : τ ≡ ρ = Memᴰ.eq_of_singleton r.0 in
      let head : (x : Rule) → x ≡ σ → x.head ≡ ρ.head = λ x w. ap (λ (z : Rule). z.head) w ∙ only_head o ∙ ap
      (λ (z : Rule). z.head) e in (
        sym r.1 ∙ ap (λ (z : Rule). z.head) e,
        ⊎_elim (λ x. inl (sym (head q.0 (Memᴰ.eq_of_singleton x.0)) ∙ x.1))
            (λ x. inr (sym (head q.0 (Memᴰ.eq_of_singleton x.0)) ∙ x.1)) q.1,
      )

  -- the test says it of one rule
  judged→line : (ρ : Rule) (l : ℕ) → (ρ.head ≡ l) ⊎ (ρ.head ≡ negation l) → judged I lines ρ l ≡ true → LineBy (ρ ∷ []) l
  judged→line ρ l own e =
      let q = and_both (eqb (head_in lines l) ρ.head) (grounds I (below lines (rank_in lines ρ.head)) ρ l (group_in lines l)) e in
      rw (eqb-true (head_in lines l) ρ.head q.0) (grounds→justified I lines ρ l (group_in lines l) own q.1)

  line→judged : (ρ : Rule) (l : ℕ) → LineBy (ρ ∷ []) l → judged I lines ρ l ≡ true
  line→judged ρ l j =
      let e = (only_own ρ l j).0 in
      rw (eq-eqb (head_in lines l) ρ.head e)
      (justified→grounds I lines ρ l (group_in lines l) (subst (λ (h : ℕ). Justified (ρ ∷ []) I before l h (group_in lines l)) e j))

  -- one record more
  module _ (R : List Rule) (ρ : Rule) (s : List ℕ) (len : length s ≡ 16) (small : ρ.head < 1024)
      (is : (l : ℕ) → T (member s l) ↔ LineBy R l) where
    abbrev h : ℕ
    h = ρ.head

    abbrev once : List ℕ
    once = with_judged s h (judged I lines ρ h)

    abbrev twice : List ℕ
    twice = with_judged once (negation h) (judged I lines ρ (negation h))

    fits : h < 64 * length s
    fits = omega arith

    fits_2 : negation h < 64 * length once
    fits_2 = let e = length_judged s ρ.head (judged I lines ρ ρ.head) in omega arith

    own_negation : ρ.head ≡ negation (negation h)
    own_negation = omega arith

    pub judged_lines : (l : ℕ) → T (member twice l) ↔ LineBy (R ++ ρ ∷ []) l
    judged_lines l = (
      (λ m. ⊎_elim
          (λ (k : T (member once l)).
          ⊎_elim (λ (i : T (member s l)). by_more (λ τ x. Memᴰ.append_left (ρ ∷ []) x) ((is l).0 i))
          (λ (i : (l ≡ h) × (judged I lines ρ h ≡ true)). rw i.0 (new h (inl refl) i.1)) (judged_member s h l (judged I lines ρ h) fits k))
          (λ (k : (l ≡ negation h) × (judged I lines ρ (negation h) ≡ true)). rw k.0 (new (negation h) (inr own_negation) k.1))
          (judged_member once (negation h) l (judged I lines ρ (negation h)) fits_2 m)),
      λ j. ⊎_elim (λ (i : LineBy R l). member_kept once (negation h) l (judged I lines ρ (negation h)) fits_2
          (member_kept s h l (judged I lines ρ h) fits ((is l).1 i)))
          (λ (i : LineBy (ρ ∷ []) l).
          ⊎_elim (λ (e : ρ.head ≡ l). member_kept once (negation h) l (judged I lines ρ (negation h)) fits_2
          (subst (λ (x : ℕ). T (member once x)) e (member_judged s h (judged I lines ρ h) fits
          (subst⁻¹ (λ (x : ℕ). judged I lines ρ x ≡ true) e (line→judged ρ l i)))))
          (λ (e : ρ.head ≡ negation l).
          let e' : negation h ≡ l = omega arith in
          subst (λ (x : ℕ). T (member twice x)) e' (member_judged once (negation h) (judged I lines ρ (negation h)) fits_2
          (subst⁻¹ (λ (x : ℕ). judged I lines ρ x ≡ true) e' (line→judged ρ l i))))
          (only_own ρ l i).1)
          (of_either R (ρ ∷ []) l j),
    )
      where
        new : (x : ℕ) → (ρ.head ≡ x) ⊎ (ρ.head ≡ negation x) → judged I lines ρ x ≡ true → LineBy (R ++ ρ ∷ []) x
        new x own e = by_more (λ τ y. Memᴰ.append_right R y) (judged→line ρ x own e)

  -- the lines that the records before a place justify
  pub record Judging (t : List ℕ) (at : ℕ) (ok : List ℕ) : Type 0 where
    pub passed : List TableRecord
    pub through : Through t passed at
    pub length_is : length ok ≡ 16
    pub lines_are : (l : ℕ) → T (member ok l) ↔ LineBy (rules_in passed) l

  nothing_by_none : (l : ℕ) {h g : ℕ} → Justified [] I before l h g → ⊥
  nothing_by_none l (by_6_or_7 ρ σ r o s) = Memᴰ.not-nil r.0
  nothing_by_none l (by_8 ρ σ r o v b q) = Memᴰ.not-nil r.0

  pub judging_start : (N : ℕ) (t : List ℕ) → AcceptedTable N t → Judging t 0 (replicate 16 0)
  judging_start N t a =
      record {
        passed = [];
        through = through_start N t a;
        length_is = refl;
        lines_are = λ l. ((λ m. absurd (subst T (member_of_zeros 16 l) m)), λ j. absurd (nothing_by_none l j));
      }

  pub judging_next : (t : List ℕ) (at next : ℕ) (ok ok' : List ℕ) (w : Judging t at ok) (q : This t w.passed at w.through)
      → (rule_at t at).head < 1024
      → ok' ≡ judged_both I lines (rule_at t at) ok
      → GroupsSkipped t (body_at at) (groups_in t at) next → Judging t next ok'
  judging_next t at next ok ok' w q small e s =
      let ρ : Rule = rule_at t at in
      let R : List Rule = rules_in w.passed in
      let a = length_judged ok ρ.head (judged I lines ρ ρ.head) in
      let b = length_judged (with_judged ok ρ.head (judged I lines ρ ρ.head)) (negation ρ.head) (judged I lines ρ (negation ρ.head)) in
      let c = ap length e in
      let d = w.length_is in
      let R' : rules_in (w.passed ++ q.this ∷ []) ≡ R ++ ρ ∷ [] =
      map-append (λ (r : TableRecord). r.rule) w.passed (q.this ∷ []) ∙ ap (λ (σ : Rule). R ++ σ ∷ []) (sym q.rule_is)
      in
      record {
        passed = w.passed ++ q.this ∷ [];
        through = through_next t w.passed at next w.through q s;
        length_is = omega arith;
        lines_are = λ l. subst⁻¹ (λ (Q : List Rule). T (member ok' l) ↔ LineBy Q l) R'
            (subst⁻¹ (λ (x : List ℕ). T (member x l) ↔ LineBy (R ++ ρ ∷ []) l) e (judged_lines R ρ ok w.length_is small w.lines_are l));
      }

  pub judging_end : (t : List ℕ) (at : ℕ) (ok : List ℕ) → length t ≤ at → Judging t at ok → JustifiedLines (rules_of t) I lines (member ok)
  judging_end t at ok le w = subst⁻¹ (λ (Q : List TableRecord). JustifiedLines (rules_in Q) I lines (member ok))
      (through_end t w.passed at le w.through) w.lines_are
