-- The host's answers from evaluation's outcomes. Assumes nothing.
use mathlib.Core.Bool.{Bool, true, false, not, cond}
use mathlib.Core.List.{List, ◌++◌}
use mathlib.Core.Path.{◌≡◌, refl, sym, ap, ◌∙◌, subst}
use Prim.Native.Nat.{ℕ, ◌/◌, ◌%◌, ◌≤◌, ◌<◌}
use native.Mathlib.Omega.{arith}
use lib.Dec.{leb}
use lib.ListN.{length, take, drop}
use lib.Seq.{take-append_seam}
use borrow.Author.Tests.{eq-eqb, ne_eqb, lt-leb}
use Rattle.refusal.specs.declared.Refusal.{Refusal}
use Rattle.refusal.specs.Numbers.{cut_short, table_too_long, too_many_atoms}
use Rattle.refusal.specs.Checks.{Checked}
use Rattle.refusal.proofs.Laws.{or_else_nothing}
use Rattle.refusal.proofs.Places.{PlacesTo, asking_to}
use Rattle.evaluation.specs.Evaluation.{evaluation_fault, EvaluationAllows}
use Rattle.evaluation.proofs.Laws.{refused_is, evaluated_is, evaluation_within}
use Rattle.host.specs.Bytes.{words_in, lone_byte, then_lone_byte}
use Rattle.host.specs.Evaluation.{host_fault, packed, HostEvaluation}
use Rattle.host.specs.WholeWords.{Packable, CheckPackable, WordsEvaluation, too_long_answer}
use Rattle.host.proofs.Bytes.{length_words_in}
use Rattle.std.specs.Prelude.{Ok, Err}

pub within_packable : (x : Checked) (f : Refusal) → PlacesTo 8192 x → x ≡ Err f → Packable f
within_packable x f w e =
    let k : PlacesTo 8192 (Err f) = subst (PlacesTo 8192) e w in
    let n = k.0 in
    let p = k.1 in
    record { number_small = omega arith; place_small = omega arith }

pub words_refused : (N : ℕ) (t room room' : List ℕ) (ans : Checked) (r : Refusal) (a : ℕ)
    → EvaluationAllows N t room ans room' → ans ≡ Err r → a ≡ packed r
    → WordsEvaluation N t room a room'
words_refused N t room room' ans r a o e p =
    let q = refused_is N t room room' ans r o e in
    rw (p, q.1) (WordsEvaluation.refused q.0)

pub words_packable : (N : ℕ) (t room room' : List ℕ) (ans : Checked) (r : Refusal)
    → EvaluationAllows N t room ans room' → ans ≡ Err r → Packable r
words_packable N t room room' ans r o e =
    within_packable (evaluation_fault N t (length room)) r (evaluation_within N t (length room)) (refused_is N t room room' ans r o e).0

pub words_evaluated : (N : ℕ) (t room room' : List ℕ) (ans : Checked)
    → EvaluationAllows N t room ans room' → ans ≡ Ok tt → WordsEvaluation N t room 0 room'
words_evaluated N t room room' ans o e =
    let q = evaluated_is N t room room' ans o e in
    rw q.1.2 (WordsEvaluation.evaluated q.0 q.1.0 q.1.1)

-- a fault of the words comes before the lone byte
pub cut_refused : (fault : Checked) (words : ℕ) (r : Refusal) → CheckPackable fault → fault ≡ Err r
    → (then_lone_byte fault words true ≡ Err r) × Packable r
cut_refused fault words r small e = (ap (λ (c : Checked). then_lone_byte c words true) e, small r e)

pub cut_accepted : (fault : Checked) (words : ℕ) (r : Refusal) → words ≤ 8192 → fault ≡ Ok tt → r ≡ cut_short words
    → (then_lone_byte fault words true ≡ Err r) × Packable r
cut_accepted fault words r h e q = (
  ap (λ (c : Checked). then_lone_byte c words true) e ∙ ap Err (sym q),
  rw q (record { number_small = omega arith; place_small = omega arith }),
)

-- a lone byte after an accepted table is refused at a small place
pub lone_within : (fault : Checked) (t : List ℕ) (lone : Bool) → PlacesTo 8192 fault → (fault ≡ Ok tt → length t ≤ 8192)
    → PlacesTo 8192 (then_lone_byte fault (length t) lone)
lone_within (Err f) t lone small short = small
lone_within (Ok tt) t lone small short =
    let h = short refl in asking_to 8192 (not lone) (cut_short (length t)) (Ok tt) (omega arith, omega arith, omega arith) tt

pub evaluation_packable : (N : ℕ) (t : List ℕ) (room : ℕ) (x : Checked) → x ≡ evaluation_fault N t room → CheckPackable x
evaluation_packable N t room x e f p = within_packable (evaluation_fault N t room) f (evaluation_within N t room) (sym e ∙ p)

-- the words that were filled in
pub front_words : (bs old now : List ℕ) (m : ℕ) → m ≡ length bs / 2 → now ≡ words_in bs ++ drop (length bs / 2) old → take m now ≡ words_in bs
front_words bs old now m em e =
    ap (take m) e ∙ ap (λ (k : ℕ). take k (words_in bs ++ drop (length bs / 2) old)) (em ∙ sym (length_words_in bs))
    ∙ take-append_seam (words_in bs) (drop (length bs / 2) old)

pub host_too_long : (N : ℕ) (bs room : List ℕ) (a : ℕ) → 8192 < length bs / 2 → a ≡ too_long_answer N → HostEvaluation N bs room a room
unfolding host_fault evaluation_fault
host_too_long N bs room a h e = rw e (go (leb N 512) refl)
  where
    long : leb (length (words_in bs)) 8192 ≡ false
    long = lt-leb (length (words_in bs)) 8192 (let n = length_words_in bs in omega arith)

    go : (b : Bool) → leb N 512 ≡ b → HostEvaluation N bs room (cond b (packed table_too_long) (packed too_many_atoms)) room
    go true p = HostEvaluation.refused {f = table_too_long} (rw (p, long) refl)
    go false p = HostEvaluation.refused {f = too_many_atoms} (rw p refl)

pub host_cut : (N : ℕ) (bs room : List ℕ) (t : List ℕ) (fault : Checked) (r : Refusal) (a : ℕ) → length bs % 2 ≡ 1 → t ≡ words_in bs
    → fault ≡ evaluation_fault N t (length room) → then_lone_byte fault (length bs / 2) true ≡ Err r → a ≡ packed r
    → HostEvaluation N bs room a room
unfolding host_fault
host_cut N bs room t fault r a odd et ef e p =
    rw p (HostEvaluation.refused {f = r} (rw (eq-eqb (length bs % 2) 1 odd, ← et, ← ef, ap length et ∙ length_words_in bs) e))

pub host_whole : (N : ℕ) (bs room : List ℕ) (t : List ℕ) (a : ℕ) (room' : List ℕ) → (length bs % 2 ≡ 1 → ⊥)
    → t ≡ words_in bs → WordsEvaluation N t room a room' → HostEvaluation N bs room a room'
unfolding host_fault
host_whole N bs room t a room' even et w = go (subst (λ (x : List ℕ). WordsEvaluation N x room a room') et w)
  where
    same : host_fault N (words_in bs) (lone_byte bs) (length room) ≡ evaluation_fault N (words_in bs) (length room)
    same = rw (ne_eqb (length bs % 2) 1 even) (or_else_nothing (evaluation_fault N (words_in bs) (length room)))

    go : {b : ℕ} {y : List ℕ} → WordsEvaluation N (words_in bs) room b y → HostEvaluation N bs room b y
    go (WordsEvaluation.refused e) = HostEvaluation.refused (same ∙ e)
    go (WordsEvaluation.evaluated e I s) = HostEvaluation.evaluated (same ∙ e) I s
