-- What an accepted table means, and that the words of records within the limits are accepted.
use mathlib.Core.Path.{◌≡◌, refl, sym, ap, ap₂, ◌∙◌, subst}
use mathlib.Core.Logic.{⊎_elim}
use mathlib.Core.List.Memᴰ
use mathlib.Core.List.{List, [], ◌∷◌}
use mathlib.Core.Bool.{Bool}
use Prim.Native.Nat.{ℕ, ◌*◌, ◌≤◌, ◌<◌}
use native.Mathlib.Nat.{le_refl}
use lib.Dec.{leb}
use lib.ListN.{length}
use borrow.Author.Tests.{leb-true, le-leb}
use Rattle.paper.specs.Rules.{Rule, OneRulePerHead, HeadsBelow}
use Rattle.sets.specs.Sets.{◌∈◌}
use Rattle.refusal.specs.Numbers.{too_many_atoms, table_too_long}
use Rattle.refusal.specs.Checks.{Checked, asking}
use Rattle.words.specs.declared.Due.TheVariants.{Head}
use Rattle.words.specs.Layout.{TableRecord, words_of, records_of, rules_of}
use Rattle.words.specs.Check.{no_heads, walk, table_check, AcceptedTable}
use Rattle.words.specs.Within.{DistinctHeads, Within}
use Rattle.refusal.proofs.Laws.{asking_accepted}
use Rattle.words.proofs.Reading.{records_of_words_of}
use Rattle.words.proofs.Good.{good_heads, good_lines, good_distinct, good_bodies, good_of}
use Rattle.words.proofs.FromWords.{Records, records}
use Rattle.words.proofs.FromRecords.{accept_records}
use Rattle.std.specs.Prelude.{Ok}

-- with distinct heads there is only one rule for each head
pub distinct_one_rule : (R : List Rule) → DistinctHeads R → OneRulePerHead R
unfolding DistinctHeads
distinct_one_rule [] distinct ρ σ m m' e = absurd (Memᴰ.not-nil m)
distinct_one_rule (τ ∷ R) distinct ρ σ m m' e =
    ⊎_elim
    (λ (p : ρ ≡ τ). ⊎_elim
    (λ (q : σ ≡ τ). p ∙ sym q) (λ q. absurd (distinct.0 σ q (sym e ∙ ap (λ (x : Rule). x.head) p))) (Memᴰ.cases_cons m'))
    (λ p. ⊎_elim (λ (q : σ ≡ τ). absurd (distinct.0 ρ p (e ∙ ap (λ (x : Rule). x.head) q)))
    (λ q. distinct_one_rule R distinct.1 ρ σ p q e) (Memᴰ.cases_cons m'))
    (Memᴰ.cases_cons m)

pub accepted_atoms : (N : ℕ) (t : List ℕ) → AcceptedTable N t → N ≤ 512
unfolding table_check
accepted_atoms N t a = leb-true N 512 (asking_accepted (leb N 512) _ _ a).0

pub accepted_length : (N : ℕ) (t : List ℕ) → AcceptedTable N t → length t ≤ 8192
unfolding table_check
accepted_length N t a = leb-true (length t) 8192 (asking_accepted (leb (length t) 8192) _ _ (asking_accepted (leb N 512) _ _ a).1).0

pub accepted_walk : (N : ℕ) (t : List ℕ) → AcceptedTable N t → walk N no_heads Head 0 t ≡ Ok tt
unfolding table_check
accepted_walk N t a = (asking_accepted (leb (length t) 8192) _ _ (asking_accepted (leb N 512) _ _ a).1).1

accepted_records : (N : ℕ) (t : List ℕ) → AcceptedTable N t → Records N no_heads t
accepted_records N t a = records N no_heads (length t) 0 t (le_refl (length t)) (accepted_walk N t a)

-- an accepted table is the words of its records
pub words_of_records_of : (N : ℕ) (t : List ℕ) → AcceptedTable N t → words_of (records_of t) ≡ t
words_of_records_of N t a =
    let read = accepted_records N t a in
    ap words_of (ap records_of read.split ∙ records_of_words_of read.Q) ∙ sym read.split

-- the records of an accepted table are within the limits
pub accepted_within : (N : ℕ) (t : List ℕ) → AcceptedTable N t → Within N (records_of t)
accepted_within N t a =
    let read = accepted_records N t a in
    subst (Within N) (sym (ap records_of read.split ∙ records_of_words_of read.Q))
    (record {
      at_most_512 = accepted_atoms N t a;
      at_most_8192 = subst (λ (u : List ℕ). length u ≤ 8192) read.split (accepted_length N t a);
      each_line = good_lines N no_heads read.Q read.good;
      heads_below_lem = good_heads N no_heads read.Q read.good;
      distinct_heads = good_distinct N no_heads read.Q read.good;
      each_body = good_bodies N no_heads read.Q read.good;
    })

-- the words of records within the limits are accepted
pub within_accepted : (N : ℕ) (Q : List TableRecord) → Within N Q → AcceptedTable N (words_of Q)
unfolding table_check
within_accepted N Q w =
    ap₂ (λ (b b' : Bool). asking b too_many_atoms (asking b' table_too_long (walk N no_heads Head 0 (words_of Q))))
    (le-leb N 512 w.at_most_512) (le-leb (length (words_of Q)) 8192 w.at_most_8192)
    ∙ accept_records N no_heads Q 0 (good_of N no_heads Q w.heads_below_lem w.distinct_heads w.each_line w.each_body (λ ρ m. refl))

pub accepted_one_rule : (N : ℕ) (t : List ℕ) → AcceptedTable N t → OneRulePerHead (rules_of t)
accepted_one_rule N t a = distinct_one_rule (rules_of t) (accepted_within N t a).distinct_heads

pub accepted_heads : (N : ℕ) (t : List ℕ) → AcceptedTable N t → HeadsBelow N (rules_of t)
accepted_heads N t a = (accepted_within N t a).heads_below_lem

pub accepted_literals : (N : ℕ) (t : List ℕ) → AcceptedTable N t → (ρ : Rule) (β : List ℕ) (l : ℕ)
    → ρ ∈ rules_of t → β ∈ ρ.groups → l ∈ β → l < 2 * N
accepted_literals N t a ρ β l m m' m'' = (((accepted_within N t a).each_body ρ m).each_group β m').literals_below_lem l m''

-- the empty table is accepted for every allowed N
pub empty_accepted : (N : ℕ) → N ≤ 512 → AcceptedTable N []
unfolding table_check walk
empty_accepted N h = ap (λ (b : Bool). asking b too_many_atoms (Ok tt)) (le-leb N 512 h)

-- two answers that the promise of the check allows are equal
pub check_determined : (N : ℕ) (t : List ℕ) (r r' : Checked) → r ≡ table_check N t → r' ≡ table_check N t → r ≡ r'
check_determined N t r r' e e' = e ∙ sym e'
