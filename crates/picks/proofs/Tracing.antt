-- Picks by the entry's promise are passes of document 01's marking. Assumes nothing.
use mathlib.Core.Bool.{Bool}
use mathlib.Core.List.{List, ◌∷◌}
use mathlib.Core.Logic.{⊎_elim}
use mathlib.Core.Path.{◌≡◌, refl, sym, ◌∙◌, subst, subst⁻¹}
use Prim.Native.Nat.{ℕ, ◌≤◌, ◌<◌}
use native.Mathlib.Omega.{arith}
use lib.Dec.{T, T_not}
use lib.ListN.{length}
use borrow.Author.Tests.{lt-ltb}
use Rattle.words.specs.Check.{AcceptedTable}
use Rattle.words.specs.Layout.{rules_of}
use Rattle.refusal.proofs.Laws.{refused≢accepted}
use Rattle.words.proofs.Laws.{accepted_heads, accepted_atoms}
use Rattle.sets.specs.Sets.{◌with◌}
use Rattle.paper.specs.Marking.{Marks, Marking, none, no_marks, Pass, end, marks, leaves, Passes, no_pass, then_pass}
use Rattle.paper.proofs.Order.{can_be_marked_below, pass_marking}
use Rattle.sets.proofs.Besides.{with_cases}
use Rattle.bits.specs.Sets.{member, put_in}
use Rattle.bits.specs.Rows.{Words}
use Rattle.bits.proofs.Laws.{member_put_in, member_of_zeros, words_of_zeros, words_put_in}
use Rattle.records.specs.Records.{record_fault, marks_of, no_marks_for}
use Rattle.picks.specs.Faults.{pick_fault}
use Rattle.records.proofs.Laws.{good_record}
use Rattle.picks.proofs.Counted.{Counted, fresh_counted, pick_counted}
use Rattle.records.specs.declared.MarkRecord.{MarkRecord}
use Rattle.picks.specs.Entries.{PickAllows}
use Rattle.picks.specs.Traces.{Picks, no_picks, then_picks, PickPasses}
use Rattle.std.specs.Prelude.{Ok, Result}
use Rattle.picks.specs.declared.PickAnswer.{PickAnswer}
use Rattle.refusal.specs.declared.Refusal.{Refusal}

-- a record for N atoms: eight words of 64 bits, their marks counted, and none at N or above
pub record RecordFor (N : ℕ) (r : MarkRecord) : Type 0 where
  pub same_n : r.n ≡ N
  pub counted : Counted r
  pub words : Words r.marks
  pub below : (a : ℕ) → T (marks_of r a) → a < N

pub fresh_for : (N : ℕ) → RecordFor N (no_marks_for N)
fresh_for N = record { same_n = refl; counted = fresh_counted N; words = words_of_zeros 8; below = λ a h. absurd (subst T (member_of_zeros 8 a) h) }

pub fresh_marks : (N : ℕ) → marks_of (no_marks_for N) ≡ no_marks
fresh_marks N = mathlib.Core.Path.fun_ext (member_of_zeros 8)

module _ (N : ℕ) (t : List ℕ) (accepted : AcceptedTable N t) where
  -- its record has no fault
  pub record_for_good : (r : MarkRecord) → RecordFor N r → record_fault r ≡ Ok tt
  record_for_good r g =
      good_record r
      (record {
        at_most_512 = subst⁻¹ (λ (n : ℕ). n ≤ 512) g.same_n (accepted_atoms N t accepted);
        below = λ b h m. subst⁻¹ (λ (n : ℕ). b < n) g.same_n (g.below b m);
        counted = g.counted.true_count;
      })

  -- an atom below N is not refused
  pub pick_not_refused : (r : MarkRecord) → RecordFor N r → (a : ℕ) → a < N → pick_fault r t a ≡ Ok tt
  unfolding pick_fault
  pick_not_refused r g a lt =
      rw (record_for_good r g, g.same_n, accepted, lt-ltb a N lt)

  -- one pick by the promise is one step of a pass
  step : {r : MarkRecord} {a : ℕ} {r' : MarkRecord} {answer : Result PickAnswer Refusal} → RecordFor N r → PickAllows r t a answer r'
      → RecordFor N r' × ((rest : List ℕ) (B : Marks) → Pass (rules_of t) (marks_of r') rest B → Pass (rules_of t) (marks_of r) (a ∷ rest) B)
  step {r} {a = a} g (PickAllows.refused {f} e) = (
    g,
    λ rest B p.
        leaves
        (λ c. refused≢accepted f (sym e ∙ pick_not_refused r g a (can_be_marked_below (rules_of t) N (accepted_heads N t accepted) (marks_of r) a c))) p,
  )
  step {r} {a = a} g (PickAllows.already_marked e m) = (g, λ rest B p. leaves (λ c. T_not (marks_of r a) c.unmarked m) p)
  step {r} {a = a} g (PickAllows.cannot_be_marked_now e u n) = (g, λ rest B p. leaves n p)
  step {r} {a = a} g (PickAllows.marked e c) =
      let lt : a < N = can_be_marked_below (rules_of t) N (accepted_heads N t accepted) (marks_of r) a c in
      let le : N ≤ 512 = accepted_atoms N t accepted in
      let len : length r.marks ≡ 8 = g.counted.eight in
      let m : member (put_in r.marks a) ≡ (marks_of r with a) = member_put_in r.marks a (omega arith) in (
        record {
          same_n = g.same_n;
          counted = pick_counted g.counted (PickAllows.marked e c);
          words = words_put_in r.marks a g.words;
          below = λ b h.
              ⊎_elim (λ (x : b ≡ a). rw x lt) (λ (x : T (marks_of r b)). g.below b x)
              (with_cases (marks_of r) a b (subst (λ (A : ℕ → Bool). T (A b)) m h));
        },
        λ rest B p. marks c (subst (λ (A : ℕ → Bool). Pass (rules_of t) A rest B) m p),
      )

  -- a list of picks is a pass
  pub picks_pass : {r r' : MarkRecord} {l : List ℕ} → RecordFor N r → Picks t r l r'
      → RecordFor N r' × Pass (rules_of t) (marks_of r) l (marks_of r')
  picks_pass g no_picks = (g, end)
  picks_pass g (then_picks {r'' = r''} {rest = rest} p ps) =
      let s = step g p in
      let q = picks_pass s.0 ps in
      (q.0, s.1 rest (marks_of r'') q.1)

  pub passes_passes : {k : ℕ} {r r' : MarkRecord} → RecordFor N r → PickPasses t N k r r'
      → RecordFor N r' × Passes (rules_of t) N k (marks_of r) (marks_of r')
  passes_passes g PickPasses.no_pass = (g, no_pass)
  passes_passes g (PickPasses.then_pass l ps all p) =
      let q = passes_passes g ps in
      let s = picks_pass q.0 p in
      (s.0, then_pass l q.1 all s.1)

  -- from a fresh record: a marking of document 01
  pub picks_marking : {r : MarkRecord} {l : List ℕ} → Picks t (no_marks_for N) l r → RecordFor N r × ((n : ℕ) × Marking (rules_of t) n (marks_of r))
  picks_marking {r} ps =
      let q = picks_pass (fresh_for N) ps in
      (q.0, pass_marking (rules_of t) (subst⁻¹ (λ (A : ℕ → Bool). Marking (rules_of t) 0 A) (fresh_marks N) none) q.1)
