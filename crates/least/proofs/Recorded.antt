-- The record at a place of a table. Assumes nothing.
use mathlib.Core.Bool.{Bool}
use mathlib.Core.List.{List, [], ◌∷◌}
use mathlib.Core.Path.{◌≡◌, refl, sym, ap, ap₂, ◌∙◌, subst}
use Prim.Native.Nat.{ℕ, ◌≤◌, ◌<◌}
use native.Mathlib.Omega.{arith}
use lib.ListN.{length, drop}
use Rattle.paper.specs.Rules.{Rule}
use Rattle.words.specs.RecordAt.{WholeGroups, groups_in, body_from, rule_at, after_record}
use Rattle.words.specs.Layout.{TableRecord, take_groups, drop_groups, words_of, records_of, rules_in, rules_of, body_at}
use Rattle.words.proofs.Places.{RecordAt, record_at, some_record}
use Rattle.words.proofs.Reading.{take_groups_groups_words, drop_groups_groups_words, length_take_groups, whole_groups}
use Rattle.words.specs.Check.{AcceptedTable}
use Rattle.words.proofs.Laws.{words_of_records_of, accepted_heads, accepted_atoms}
use Rattle.least.specs.Groups.{WhichAllows, is_a_fact}
use Rattle.least.specs.Walk.{GroupsSkipped, which_from, Records}
use Rattle.least.proofs.Groups.{walk_allowed}
use Rattle.std.specs.Prelude.{Some, Option}

-- the record at a place is a fact, told by its m, or its body was walked through
pub fact_there : (S : ℕ → Bool) (t : List ℕ) (at m : ℕ) → body_at at ≤ length t → m ≡ groups_in t at → m ≡ 0
    → WhichAllows S (rule_at t at).groups (Some 0) × GroupsSkipped t (body_at at) (groups_in t at) (body_at at)
unfolding take_groups drop_groups
fact_there S t at m le em e =
    let z : groups_in t at ≡ 0 = sym em ∙ e in
    (is_a_fact (rw z refl), record { after = rw z refl; inside = le; not_before = omega arith })

pub body_there : (S : ℕ → Bool) (t : List ℕ) (at m : ℕ) (w : Option ℕ) (next : ℕ)
    → m ≡ groups_in t at → WholeGroups (groups_in t at) (body_from t at) → (m ≡ 0 → ⊥)
    → w ≡ which_from S 1 (take_groups m (body_from t at)) → GroupsSkipped t (body_at at) m next
    → WhichAllows S (rule_at t at).groups w × GroupsSkipped t (body_at at) (groups_in t at) next
body_there S t at m w next em whole some ew s = (
  walk_allowed S (rule_at t at).groups
      (λ e. some (em ∙ sym (length_take_groups (groups_in t at) (body_from t at) whole) ∙ ap length e))
      (ew ∙ ap (λ (n : ℕ). which_from S 1 (take_groups n (body_from t at))) em),
  subst (λ (n : ℕ). GroupsSkipped t (body_at at) n next) em s,
)

-- the record at a place, and the records after it
pub record Here (t : List ℕ) (at : ℕ) : Type 0 where
  pub inside : body_at at ≤ length t
  pub whole : WholeGroups (groups_in t at) (body_from t at)
  pub rest : List TableRecord
  pub rules : rules_of (drop at t) ≡ rule_at t at ∷ rules_in rest
  pub after : after_record t at ≡ words_of rest

pub here : (t : List ℕ) (at : ℕ) → at < length t → Records t at → Here t at
here t at lt r =
    let q = some_record t at (records_of (drop at t)) lt r.words in
    let ρ : Rule = q.0.rule in
    let Q : List TableRecord = q.1 in
    let p : RecordAt t at q.0 Q = record_at t at q.0 Q (r.words ∙ ap words_of q.2) in
    let groups : take_groups (groups_in t at) (body_from t at) ≡ ρ.groups =
    ap₂ take_groups p.count p.groups ∙ take_groups_groups_words ρ.groups (words_of Q)
    in
    record {
      inside = omega (arith, p.inside);
      whole = rw (p.count, p.groups) (whole_groups ρ.groups (words_of Q));
      rest = Q;
      rules = ap rules_in q.2
          ∙ ap₂ (λ (h : ℕ) (βs : List (List ℕ)). record { head = h; groups = βs } ∷ rules_in Q) (sym p.head) (sym groups);
      after = ap₂ drop_groups p.count p.groups ∙ drop_groups_groups_words ρ.groups (words_of Q);
    }

pub records_nothing : (t : List ℕ) (at : ℕ) → length t ≤ at → rules_of (drop at t) ≡ []
records_nothing t at h = ap rules_of (lib.ListN.drop_of_length-le t h) ∙ ap rules_in Rattle.words.proofs.Reading.records_of_nothing

-- an accepted table can be gone through
pub accepted_records : (N : ℕ) (t : List ℕ) → AcceptedTable N t → Records t 0
accepted_records N t a =
    record {
      inside = omega arith;
      words = sym (words_of_records_of N t a);
      heads = λ ρ m. let h = accepted_heads N t a ρ m in let k = accepted_atoms N t a in omega arith;
    }
