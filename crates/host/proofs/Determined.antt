-- Two outcomes that the host's promise allows are equal. Assumes nothing.
use mathlib.Core.Bool.{Bool, not}
use mathlib.Core.List.{List}
use mathlib.Core.Logic.{◌⊎◌, inl, inr, ⊎_elim, ◌↔◌}
use mathlib.Core.Path.{◌≡◌, refl, sym, ap, ◌∙◌, subst}
use Prim.Native.Nat.{ℕ, ◌≤◌, ◌<◌}
use native.Mathlib.Omega.{arith}
use lib.ListN.{length}
use Rattle.refusal.specs.declared.Refusal.{Refusal}
use Rattle.refusal.specs.Numbers.{cut_short}
use Rattle.refusal.specs.Checks.{asking}
use Rattle.words.specs.Check.{AcceptedTable}
use Rattle.words.specs.Layout.{rules_of}
use Rattle.refusal.proofs.Places.{PlacesTo}
use Rattle.refusal.proofs.Reasons.{HasReason, small_has_reason}
use Rattle.refusal.proofs.Laws.{or_else_accepted, refused≢accepted}
use Rattle.words.proofs.Laws.{accepted_length}
use Rattle.paper.specs.Rules.{positive}
use Rattle.paper.specs.Definitions.{Interpretation, value}
use Rattle.paper.proofs.Smallest.{smallest_unique}
use Rattle.values.specs.Values.{written}
use Rattle.evaluation.specs.Evaluation.{evaluation_fault}
use Rattle.evaluation.proofs.Evaluated.{evaluation_accepted}
use Rattle.evaluation.proofs.Laws.{evaluation_within}
use Rattle.host.specs.Bytes.{words_in, lone_byte}
use Rattle.host.specs.Evaluation.{host_fault, HostEvaluation, packed}
use Rattle.host.proofs.Evaluating.{lone_within}
use Rattle.std.specs.Prelude.{Ok, Err}

-- where the host finds no fault the whole words are an accepted table
pub host_accepted : (N : ℕ) (t : List ℕ) (lone : Bool) (room : ℕ) → host_fault N t lone room ≡ Ok tt → AcceptedTable N t
unfolding host_fault
host_accepted N t lone room e =
    (evaluation_accepted N t room (or_else_accepted (evaluation_fault N t room) (asking (not lone) (cut_short (length t)) (Ok tt)) e).0).1

pub host_determined : (N : ℕ) (bytes room : List ℕ) {a b : ℕ} {x y : List ℕ}
    → HostEvaluation N bytes room a x → HostEvaluation N bytes room b y → (a ≡ b) × (x ≡ y)
host_determined N bytes room (HostEvaluation.refused {f} e) (HostEvaluation.refused {f = g} e') = let q : f ≡ g = cc in (ap packed q, refl)
host_determined N bytes room (HostEvaluation.refused {f} e) (HostEvaluation.evaluated e' I s) = absurd (refused≢accepted f (sym e ∙ e'))
host_determined N bytes room (HostEvaluation.evaluated e I s) (HostEvaluation.refused {f} e') = absurd (refused≢accepted f (sym e' ∙ e))
host_determined N bytes room (HostEvaluation.evaluated e I s) (HostEvaluation.evaluated e' J s') =
    (refl, ap (λ (K : Interpretation). written (λ a. value K (positive a)) N room) (smallest_unique (rules_of (words_in bytes)) I J s s'))

-- a refusal's number is not 0, and number and place have room in the answer
host_within : (N : ℕ) (t : List ℕ) (lone : Bool) (room : ℕ) → PlacesTo 8192 (host_fault N t lone room)
unfolding host_fault
host_within N t lone room =
    lone_within (evaluation_fault N t room) t lone (evaluation_within N t room) (λ e. accepted_length N t (evaluation_accepted N t room e).1)

-- an answer tells its cause: 0 exactly if nothing refuses, else the fault that the written order finds
pub host_answer_tells : (N : ℕ) (bytes room : List ℕ) {a : ℕ} {room' : List ℕ} → HostEvaluation N bytes room a room'
    → ((host_fault N (words_in bytes) (lone_byte bytes) (length room) ≡ Ok tt) × (a ≡ 0))
    ⊎ ((f : Refusal) × (host_fault N (words_in bytes) (lone_byte bytes) (length room) ≡ Err f)
    × (a ≡ packed f) × (1 ≤ f.number) × (f.place < 4294967296) × HasReason f)
host_answer_tells N bytes room (HostEvaluation.refused {f} e) =
    let k : PlacesTo 8192 (Err f) = subst (PlacesTo 8192) e (host_within N (words_in bytes) (lone_byte bytes) (length room)) in
    inr (f, e, refl, k.2, omega (arith, k.1), small_has_reason 8192 f k)
host_answer_tells N bytes room (HostEvaluation.evaluated e I s) = inl (e, refl)

pub zero_exactly_if_accepted : (N : ℕ) (bytes room : List ℕ) {a : ℕ} {room' : List ℕ} → HostEvaluation N bytes room a room'
    → (a ≡ 0) ↔ (host_fault N (words_in bytes) (lone_byte bytes) (length room) ≡ Ok tt)
zero_exactly_if_accepted N bytes room o =
    ⊎_elim (λ q. ((λ z. q.0), λ e. q.1))
    (λ q. ((λ z. absurd (omega (arith, z, q.2, q.3))), λ e. absurd (refused≢accepted q.0 (sym q.1 ∙ e))))
    (host_answer_tells N bytes room o)
