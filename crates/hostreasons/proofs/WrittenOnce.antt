-- Two outcomes that the host's writer allows are equal. Assumes nothing.
use mathlib.Core.List.{List}
use mathlib.Core.Path.{◌≡◌, refl, sym, ap, ◌∙◌}
use Prim.Native.Nat.{ℕ}
use Rattle.refusal.proofs.Laws.{refused≢accepted}
use Rattle.host.specs.Bytes.{words_in}
use Rattle.host.specs.Evaluation.{packed}
use Rattle.reasons.proofs.Determined.{reasons_determined}
use Rattle.hostreasons.specs.ReasonBytes.{packed_number, HostReasons}

module _ (N : ℕ) (bs room : List ℕ) where
  pub host_reasons_determined : {a b : ℕ} {x y : List ℕ} → HostReasons N bs room a x → HostReasons N bs room b y → (a ≡ b) × (x ≡ y)
  host_reasons_determined (HostReasons.refused {f} e) (HostReasons.refused {f = g} e') = let q : f ≡ g = cc in (ap packed q, refl)
  host_reasons_determined (HostReasons.refused {f} e) (HostReasons.answered e' o) = absurd (refused≢accepted f (sym e ∙ e'))
  host_reasons_determined (HostReasons.answered e o) (HostReasons.refused {f} e') = absurd (refused≢accepted f (sym e' ∙ e))
  host_reasons_determined (HostReasons.answered e o) (HostReasons.answered e' o') =
      let q = reasons_determined N (words_in bs) room o o' in (ap packed_number q.0, q.1)
