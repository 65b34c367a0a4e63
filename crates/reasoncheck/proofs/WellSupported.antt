-- Values are well-supported exactly if some sheet for them is accepted; ranks that justify a line for each literal make such a sheet. Assumes nothing.
use mathlib.Core.Bool.{cond}
use mathlib.Core.List.Memᴰ
use mathlib.Core.List.{List, [], ◌∷◌, map}
use mathlib.Core.Logic.{⊎_elim}
use mathlib.Core.Path.{◌≡◌, refl, sym, ap, subst}
use Prim.Native.Nat.{ℕ, zero, suc, ◌*◌, ◌≤◌, ◌<◌}
use native.Mathlib.Omega.{arith}
use native.Mathlib.Decide.{ℕ_discrete}
use lib.Dec.{T}
use lib.ListN.{length, length-append}
use borrow.Author.Tests.{eq-eqb, ne_eqb}
use Rattle.limits.specs.Limits.{most_reason_bytes}
use Rattle.sets.specs.Sets.{◌∈◌}
use Rattle.sets.proofs.Tests.{T→true, true→T}
use Rattle.paper.specs.Definitions.{Interpretation, Model, WellSupportedBy, WellSupported}
use Rattle.words.specs.Layout.{rules_of}
use Rattle.words.proofs.Laws.{accepted_within}
use Rattle.values.specs.Given.{given}
use Rattle.valued.proofs.Given.{given_below}
use Rattle.decimals.proofs.Laws.{length_two, length_four}
use Rattle.justified.specs.Justified.{Justified}
use Rattle.justified.proofs.Laws.{justified→well_supported, justified_on}
use Rattle.justified.proofs.Ranked.{RankedLines, well_supported→ranked}
use Rattle.reasontext.specs.ReasonSheet.{ReasonLine, line, line_text, reason_text, FourDigits, IsReasonText}
use Rattle.reasontext.proofs.Printing.{length_line}
use Rattle.reasoncheck.specs.ReasonCheck.{check_fault, literals_below, codes_of, in_line_of, SmallerRank, LineHolds, CheckAllows, accepts}
use Rattle.reasoncheck.proofs.Matches.{below_less, below_in, below_length}
use Rattle.reasoncheck.proofs.Checks.{check_sound}
use Rattle.std.specs.Prelude.{Ok}

in_below : (I : Interpretation) (n l : ℕ) → l < n → T (I l) → l ∈ literals_below I n
unfolding literals_below
in_below I zero l lt m = absurd (omega arith)
in_below I (suc n) l lt m =
    elim (ℕ_discrete l n) [
      | yes e ↦ mathlib.Core.List.Memᴰ.append_right (literals_below I n) (rw (T→true (I n) (subst (λ (x : ℕ). T (I x)) e m)) (Memᴰ.head e))
      | no f ↦ mathlib.Core.List.Memᴰ.append_left (cond (I n) (n ∷ []) []) (in_below I n l (omega arith) m)
    ]

-- ranks, rules and groups for each literal, as lines
module _ (rank head group : ℕ → ℕ) where
  abbrev pub line_for : ℕ → ReasonLine
  line_for l = line l (rank l) (head l) (group l)

  codes_back : (ls : List ℕ) → codes_of (map line_for ls) ≡ ls
  codes_back [] = refl
  codes_back (l ∷ ls) = ap (λ (z : List ℕ). l ∷ z) (codes_back ls)

  rank_back : (ls : List ℕ) (l : ℕ) → l ∈ ls → in_line_of (λ x. x.rank) (map line_for ls) l ≡ rank l
  unfolding in_line_of
  rank_back [] l m = absurd (Memᴰ.not-nil m)
  rank_back (x ∷ ls) l m =
      elim (ℕ_discrete x l) [
        | yes e ↦ rw (eq-eqb x l e) (ap rank e)
        | no n ↦ rw (ne_eqb x l n)
            (rank_back ls l (⊎_elim (λ (e : l ≡ x). absurd (n (sym e))) (λ (k : l ∈ ls). k) (Memᴰ.cases_cons m)))
      ]

  pub short_lines : (ls : List ℕ) → ((l : ℕ) → l ∈ ls → (l < 1024) × (rank l < 1024) × (head l < 1024) × (group l ≤ 64))
      → length (reason_text (map line_for ls)) ≤ 18 * length ls
  unfolding reason_text
  short_lines [] f = omega arith
  short_lines (l ∷ ls) f =
      let q = f l (Memᴰ.head refl) in
      let q₀ = q.0 in
      let q₁ = q.1 in
      let q₂ = q.2 in
      let q₃ = q.3 in
      let e = length_line l (rank l) (head l) (group l) in
      let a = length_four l (omega arith) in
      let b = length_four (rank l) (omega arith) in
      let c = length_four (head l) (omega arith) in
      let d = length_two (group l) (omega arith) in
      let r = short_lines ls (λ x m. f x (Memᴰ.tail m)) in
      let s = length-append (line_text (line_for l)) (reason_text (map line_for ls)) in
      omega arith

  module _ (N : ℕ) (t values : List ℕ) (fine : check_fault N t values ≡ Ok tt) (model : Model (rules_of t) (given N values))
      (small : (l : ℕ) → T (given N values l) → (rank l < 1024) × (head l < 1024) × (group l ≤ 64))
      (justified : (l : ℕ) → T (given N values l) → Justified (rules_of t) (given N values) (λ x y. rank x < rank y) l (head l) (group l)) where
    abbrev I : Interpretation
    I = given N values

    abbrev wanted : List ℕ
    wanted = literals_below I (2 * N)

    in_I : (l : ℕ) → l ∈ wanted → T (I l)
    in_I l m = true→T (I l) (below_in I (2 * N) l m)

    numbers : (l : ℕ) → l ∈ wanted → (l < 1024) × (rank l < 1024) × (head l < 1024) × (group l ≤ 64)
    numbers l m =
        let a = (check_sound N t values fine).atoms in
        let k = below_less I (2 * N) l m in
        let q = small l (in_I l m) in
        (omega arith, q.0, q.1, q.2)

    good : IsReasonText (reason_text (map line_for wanted)) (map line_for wanted)
    good =
        record {
          four_digits = λ x m.
              let s = Memᴰ.of_map line_for wanted m in
              subst FourDigits s.2 (let q = numbers s.0 s.1 in let a = q.0 in let b = q.1 in let c = q.2 in let d = q.3 in
              record { literal_small = omega arith; rank_small = omega arith; head_small = omega arith; group_small = omega arith });
          text_is = refl;
        }

    rank_of_lem : (l : ℕ) → T (I l) → in_line_of (λ x. x.rank) (map line_for wanted) l ≡ rank l
    rank_of_lem l m = rank_back wanted l (in_below I (2 * N) l (given_below N values l m) m)

    holds : (x : ReasonLine) → x ∈ map line_for wanted → LineHolds (rules_of t) I (map line_for wanted) x
    holds x m =
        let s = Memᴰ.of_map line_for wanted m in
        subst (LineHolds (rules_of t) I (map line_for wanted)) s.2
        (record {
          rank_small = let q = numbers s.0 s.1 in let b = q.1 in omega arith;
          justified = justified_on I (λ a b ma mb k. rw (rank_of_lem a ma, rank_of_lem b mb) k) (in_I s.0 s.1) (justified s.0 (in_I s.0 s.1));
        })

    pub sheet_accepted : CheckAllows N t values (reason_text (map line_for (literals_below (given N values) (2 * N)))) (Ok tt)
    sheet_accepted = accepts fine (map line_for wanted) good model (sym (codes_back wanted)) holds

    pub sheet_short : length (reason_text (map line_for (literals_below (given N values) (2 * N)))) ≤ most_reason_bytes
    sheet_short =
        let a = (check_sound N t values fine).atoms in
        let b = short_lines wanted numbers in
        let c = below_length I (2 * N) in
        omega arith

-- an accepted text's ranks are an order by which the values are well-supported
pub accepted→well_supported : (N : ℕ) (t values text : List ℕ) → CheckAllows N t values text (Ok tt)
    → (ls : List ReasonLine) × IsReasonText text ls × WellSupportedBy (rules_of t) (given N values) (SmallerRank ls)
accepted→well_supported N t values text (accepts fine ls good model codes holds) = (
  ls,
  good,
  justified→well_supported (given N values) (in_line_of (λ x. x.rank) ls) (rules_of t) model (λ l m.
      let i : l ∈ codes_of ls = subst (λ (c : List ℕ). l ∈ c) codes (in_below (given N values) (2 * N) l (given_below N values l m) m) in
      let s = Memᴰ.of_map (λ (x : ReasonLine). x.literal) ls i in (
        s.0.rule_head,
        s.0.group,
        subst (λ (x : ℕ). Justified (rules_of t) (given N values) (SmallerRank ls) x s.0.rule_head s.0.group) s.2
            (holds s.0 s.1).justified,
      )),
)

-- and well-supported values, whatever the order, have a sheet that is accepted
pub well_supported→accepted : (N : ℕ) (t values : List ℕ) → check_fault N t values ≡ Ok tt → WellSupported (rules_of t) (given N values)
    → (text : List ℕ) × (length text ≤ most_reason_bytes) × CheckAllows N t values text (Ok tt)
well_supported→accepted N t values fine ws =
    let s = check_sound N t values fine in
    let q : RankedLines (rules_of t) (given N values) N 64 =
    well_supported→ranked (rules_of t) (given N values) N 64 (λ l m. given_below N values l m)
    (λ ρ r. ((accepted_within N t s.table).each_body ρ r).at_most_64) ws
    in
    let a = s.atoms in
    let small : (l : ℕ) → T (given N values l) → (q.rank l < 1024) × (q.rule_head l < 1024) × (q.group l ≤ 64) =
    λ l m. (let r = q.rank_below l m in omega arith, let h = q.head_below l m in omega arith, q.group_below l)
    in (
      reason_text (map (line_for q.rank q.rule_head q.group) (literals_below (given N values) (2 * N))),
      sheet_short q.rank q.rule_head q.group N t values fine ws.1.model small q.justified,
      sheet_accepted q.rank q.rule_head q.group N t values fine ws.1.model small q.justified,
    )
