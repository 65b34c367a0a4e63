-- The writer's sheet with evaluation's values is accepted by the checker, and has at most 18,432 bytes. Assumes nothing.
use mathlib.Core.Bool.{Bool, true, false, ◌&&◌, ◌||◌}
use mathlib.Core.List.{List, map}
use mathlib.Core.Logic.{⊎_elim}
use mathlib.Core.Path.{◌≡◌, refl, sym, ap, ap₂, ◌∙◌, subst, subst⁻¹, fun_ext}
use Prim.Native.Nat.{ℕ, zero, suc, ◌+◌, ◌*◌, ◌%◌, ◌≤◌, ◌<◌}
use native.Mathlib.Omega.{arith}
use lib.Dec.{T, leb, ltb, eqb}
use lib.ListN.{length, get_or, take, drop, length-append, length-drop}
use lib.Seq.{sets, sets-eq, take-append_seam, take_at}
use borrow.Author.Tests.{le-leb, eq-eqb, ne_eqb}
use Rattle.limits.specs.Limits.{most_reason_bytes}
use Rattle.sets.specs.Sets.{◌∈◌}
use Rattle.sets.proofs.Tests.{true→T, same_tests→≡, refuted→false}
use Rattle.sets.proofs.Besides.{with_cases}
use Rattle.refusal.specs.Checks.{or_else}
use Rattle.paper.specs.Table1.{Value, 𝐟, 𝐮, 𝐢, 𝐭, code}
use Rattle.paper.specs.Rules.{Rule, HeadsBelow, atom, positive, negative, negation}
use Rattle.paper.specs.Definitions.{Interpretation, by_membership, value, Smallest}
use Rattle.paper.specs.Marking.{Marks, Held, from_base, by_fact, by_group, Marking, none, one_more, Settled, IsHeld}
use Rattle.paper.proofs.Closure.{held_set, held_set_is}
use Rattle.paper.proofs.Leasts.{sign, negation_positive}
use Rattle.paper.proofs.Order.{can_be_marked_below}
use Rattle.paper.proofs.Theorems.{settled_is_a_model, settled_is_smallest, smallest_by_test, smallest_is_unique}
use Rattle.words.specs.Check.{AcceptedTable}
use Rattle.words.specs.Layout.{rules_of}
use Rattle.words.proofs.Laws.{accepted_atoms, accepted_one_rule, accepted_heads, accepted_within}
use Rattle.values.specs.Given.{puts_literal, given}
use Rattle.values.specs.Values.{codes_from, written}
use Rattle.values.proofs.Written.{length_codes, written_at}
use Rattle.bits.specs.Sets.{member}
use Rattle.evaluation.specs.Evaluation.{evaluation_fault, EvaluationAllows}
use Rattle.evaluation.proofs.Evaluated.{evaluation_accepted}
use Rattle.evaluation.proofs.Laws.{evaluated_is}
use Rattle.ranks.specs.Found.{reasons_found, rank_of, head_of, group_of}
use Rattle.ranks.proofs.FoundLines.{found_exactly, found_justified, found_small}
use Rattle.reasontext.specs.ReasonSheet.{reason_text}
use Rattle.reasoncheck.specs.ReasonCheck.{codes_fault, check_fault, literals_below, CheckAllows}
use Rattle.reasoncheck.proofs.Matches.{below_less, below_in, below_length}
use Rattle.reasoncheck.proofs.WellSupported.{line_for, short_lines, sheet_accepted}
use Rattle.reasons.specs.Sheet.{lines_found, sheet_by}
use Rattle.reasons.specs.Reasons.{ReasonsAllows, refused, no_room, writes}
use Rattle.std.specs.Prelude.{Ok, Result}
use Rattle.refusal.specs.declared.Refusal.{Refusal}

-- what is held is of the first N atoms
module _ (R : List Rule) (N : ℕ) (below : HeadsBelow N R) where
  marked_below_lem : {n : ℕ} {A : Marks} → Marking R n A → (a : ℕ) → T (A a) → a < N
  marked_below_lem none a m = absurd m
  marked_below_lem (one_more {A = A} b k c) a m =
      ⊎_elim (λ (e : a ≡ b). rw e (can_be_marked_below R N below A b c)) (λ (h : T (A a)). marked_below_lem k a h) (with_cases A b a m)

  held_below : {n : ℕ} {A : Marks} → Marking R n A → (l : ℕ) → Held R A l → l < 2 * N
  held_below k l (from_base m) = let q = marked_below_lem k (atom l) m in omega arith
  held_below k l (by_fact ρ r e a f) = subst (λ (x : ℕ). x < 2 * N) e (below ρ r)
  held_below k l (by_group ρ β r e a b f) = subst (λ (x : ℕ). x < 2 * N) e (below ρ r)

-- codes tell which literals are in
puts_positive : (p q : Bool) → leb 2 (code (by_membership p q)) ≡ p
puts_positive true true = refl
puts_positive true false = refl
puts_positive false true = refl
puts_positive false false = refl

puts_negative : (p q : Bool) → (eqb (code (by_membership p q)) 0 || eqb (code (by_membership p q)) 2) ≡ q
puts_negative true true = refl
puts_negative true false = refl
puts_negative false true = refl
puts_negative false false = refl

puts_own : (I : Interpretation) (l : ℕ) → puts_literal (code (value I (positive (atom l)))) l ≡ I l
puts_own I l =
    ⊎_elim
    (λ (s : (l ≡ positive (atom l)) × (negation l ≡ negative (atom l))).
    let e = s.0 in
    let z : l % 2 ≡ 0 = omega arith in
    rw (eq-eqb (l % 2) 0 z) (puts_positive (I (positive (atom l))) (I (negation (positive (atom l)))) ∙ ap I (sym s.0)))
    (λ (s : (l ≡ negative (atom l)) × (negation l ≡ positive (atom l))).
    let e = s.0 in
    let z : (l % 2 ≡ 0 → ⊥) = λ x. omega arith in
    rw (ne_eqb (l % 2) 0 z)
    (puts_negative (I (positive (atom l))) (I (negation (positive (atom l)))) ∙ ap I (negation_positive (atom l) ∙ sym s.0)))
    (sign l)

-- the values of an interpretation of the first N atoms give it
given_back : (I : Interpretation) (N : ℕ) (room : List ℕ) → ((l : ℕ) → T (I l) → l < 2 * N) → given N
    (written (λ a. value I (positive a)) N room) ≡ I
unfolding given
given_back I N room below = fun_ext (λ l. go l (ltb (atom l) N) refl)
  where
    go : (l : ℕ) (b : Bool) → ltb (atom l) N ≡ b → (b && puts_literal (get_or (written (λ a. value I (positive a)) N room) (atom l) 0) l) ≡ I l
    go l true e =
        ap (λ (c : ℕ). puts_literal c l) (written_at (λ a. value I (positive a)) N room (atom l) (borrow.Author.Tests.ltb-true (atom l) N e))
        ∙ puts_own I l
    go l false e =
        sym (refuted→false (I l) (λ m. let k = below l m in let j = borrow.Author.Tests.ltb-false (atom l) N e in omega arith))

-- codes of values are at most 3
code≤3 : (v : Value) → code v ≤ 3
code≤3 𝐟 = omega arith
code≤3 𝐮 = omega arith
code≤3 𝐢 = omega arith
code≤3 𝐭 = omega arith

codes_fine : (v : ℕ → Value) (a b n : ℕ) → codes_fault b (codes_from v a n) ≡ Ok tt
unfolding codes_fault codes_from
codes_fine v a b zero = refl
codes_fine v a b (suc n) = rw (le-leb (code (v a)) 3 (code≤3 (v a))) (codes_fine v (suc a) (suc b) n)

values_fine : (v : ℕ → Value) (N : ℕ) (t room : List ℕ) → evaluation_fault N t (length room) ≡ Ok tt → check_fault N t
    (written v N room) ≡ Ok tt
unfolding check_fault
values_fine v N t room e =
    let q = (evaluation_accepted N t (length room) e).2 in
    let a = length-append (codes_from v 0 N) (drop N room) in
    let b = length_codes v 0 N in
    let c = length-drop N room in
    let len : length (written v N room) ≡ length room = omega arith in
    ap₂ or_else (ap (evaluation_fault N t) len ∙ e)
    (ap (codes_fault 0) (take_at (codes_from v 0 N) (drop N room) N b) ∙ codes_fine v 0 0 N)

-- the sheet of a settled marking of an accepted table
module _ (N : ℕ) (t : List ℕ) (table : AcceptedTable N t) {n : ℕ} (A : Marks) (marking : Marking (rules_of t) n A)
    (settled : Settled (rules_of t) A) where
  abbrev R : List Rule
  R = rules_of t

  one_rule : Rattle.paper.specs.Rules.OneRulePerHead R
  one_rule = accepted_one_rule N t table

  heads : HeadsBelow 512 R
  heads ρ r = let k = accepted_heads N t table ρ r in let a = accepted_atoms N t table in omega arith

  few : (ρ : Rule) → ρ ∈ R → length ρ.groups ≤ 64
  few ρ r = ((accepted_within N t table).each_body ρ r).at_most_64

  -- for any set of the held literals
  module _ (I : Interpretation) (held : IsHeld R A I) where
    ranked_is : member (reasons_found R A).ranked ≡ I
    ranked_is =
        fun_ext (λ l. let q = found_exactly R A I held heads settled one_rule marking l in
        same_tests→≡ (member (reasons_found R A).ranked l) (I l) q.0 q.1)

    sheet_is : sheet_by N R A
        ≡ reason_text (map (line_for (rank_of (reasons_found R A)) (head_of (reasons_found R A)) (group_of (reasons_found R A))) (literals_below I (2 * N)))
    unfolding sheet_by lines_found
    sheet_is =
        ap (λ (S : Interpretation).
        reason_text (map (line_for (rank_of (reasons_found R A)) (head_of (reasons_found R A)) (group_of (reasons_found R A))) (literals_below S (2 * N))))
        ranked_is

    small : (l : ℕ) → T (I l) → (rank_of (reasons_found R A) l < 1024) × (head_of (reasons_found R A) l < 1024)
        × (group_of (reasons_found R A) l ≤ 64)
    small l m = let q = found_small R A I held heads settled one_rule marking 64 few l m in (q.rank_small, q.head_small, q.group_small)

    within : length (sheet_by N R A) ≤ most_reason_bytes
    within =
        let a = accepted_atoms N t table in
        let b = short_lines (rank_of (reasons_found R A)) (head_of (reasons_found R A)) (group_of (reasons_found R A)) (literals_below I (2 * N))
        (λ l m. let q = small l (true→T (I l) (below_in I (2 * N) l m)) in let k = below_less I (2 * N) l m in (omega arith, q.0, q.1, q.2)) in
        let c = below_length I (2 * N) in
        let e = ap length sheet_is in
        omega arith

  pub sheet_within : length (sheet_by N (rules_of t) A) ≤ most_reason_bytes
  sheet_within = within (held_set R A) (held_set_is R A)

  -- the smallest model is what is held
  held_of : (I : Interpretation) → Smallest R I → IsHeld R A I
  held_of I s =
      subst (IsHeld R A) (smallest_is_unique R (held_set R A) I (settled_is_smallest R one_rule marking settled (held_set R A) (held_set_is R A))
      ((smallest_by_test R one_rule I).0 s)) (held_set_is R A)

  pub sheet_of_evaluation : (room values : List ℕ) → EvaluationAllows N t room (Ok tt) values
      → CheckAllows N t values (sheet_by N (rules_of t) A) (Ok tt)
  sheet_of_evaluation room values o =
      let q = evaluated_is N t room values (Ok tt) o refl in
      let I : Interpretation = q.1.0 in
      let v : (ℕ → Value) = λ a. value I (positive a) in
      let hI = held_of I q.1.1 in
      let same : given N (written v N room) ≡ I =
      given_back I N room (λ l m. held_below R N (accepted_heads N t table) marking l ((hI l).0 m))
      in
      let J : Interpretation = given N (written v N room) in
      let hJ : IsHeld R A J = subst⁻¹ (IsHeld R A) same hI in
      let fine = values_fine v N t room q.0 in
      rw (q.1.2, sheet_is J hJ)
      (sheet_accepted (rank_of (reasons_found R A)) (head_of (reasons_found R A)) (group_of (reasons_found R A)) N t (written v N room) fine
      (settled_is_a_model R one_rule A settled J hJ) (small J hJ) (found_justified R A J hJ heads settled one_rule marking))

-- what a room then begins with
begins : (room sheet : List ℕ) → length sheet ≤ length room → take (length sheet) (sets room 0 sheet) ≡ sheet
begins room sheet le =
    ap (take (length sheet)) (sets-eq sheet room 0 (omega arith))
    ∙ take-append_seam sheet (drop (0 + length sheet) room)

-- the writer's sheet with evaluation's values is accepted
pub own_sheet_accepted : (N : ℕ) (t room values-room : List ℕ) {x : Result ℕ Refusal} {k : ℕ} {room' values : List ℕ}
    → ReasonsAllows N t room x room'
    → x ≡ Ok k
    → EvaluationAllows N t values-room (Ok tt) values → CheckAllows N t values (take k room') (Ok tt)
own_sheet_accepted N t room vs (refused e) s o = let z : ◌≡◌ {A = ℕ} 0 1 = cc in absurd (omega arith)
own_sheet_accepted N t room vs (no_room e A m st lt) s o = let z : ◌≡◌ {A = ℕ} 0 1 = cc in absurd (omega arith)
own_sheet_accepted N t room vs {k = k} {values = values} (writes e A m st le) s o =
    let sheet : List ℕ = sheet_by N (rules_of t) A in
    let ek : length sheet ≡ k = cc in
    subst (λ (x : ℕ). CheckAllows N t values (take x (sets room 0 sheet)) (Ok tt)) ek
    (subst⁻¹ (λ (x : List ℕ). CheckAllows N t values x (Ok tt)) (begins room sheet le) (sheet_of_evaluation N t e A m st vs values o))

-- and a length that the writer answers, or asks for by 15, is at most 18,432
pub own_sheet_short : (N : ℕ) (t room : List ℕ) {x : Result ℕ Refusal} {k : ℕ} {room' : List ℕ} → ReasonsAllows N t room x room'
    → (x ≡ Ok k) → k ≤ most_reason_bytes
own_sheet_short N t room (refused e) s = let z : ◌≡◌ {A = ℕ} 0 1 = cc in absurd (omega arith)
own_sheet_short N t room (no_room e A m st lt) s = let z : ◌≡◌ {A = ℕ} 0 1 = cc in absurd (omega arith)
own_sheet_short N t room {k = k} (writes e A m st le) s =
    let ek : length (sheet_by N (rules_of t) A) ≡ k = cc in let w = sheet_within N t e A m st in omega arith
