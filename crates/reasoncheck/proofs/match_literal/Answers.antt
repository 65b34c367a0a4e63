use mathlib.Core.Path.{sym, ◌∙◌}
use native.Mathlib.Omega.{arith}
use Rattle.reasoncheck.specs.Matching.{wants_none, has_its_own, has_not}
use Rattle.reasoncheck.proofs.match_literal.Goals.{then-text-k-via-then-text-k, then-text-k-via-else-text-k+then-literal-l}
use Rattle.reasoncheck.proofs.match_literal.Goals as goal

pub returns-then-not-wants_line : goal.returns-then-not-wants_line
returns-then-not-wants_line c =
    wants_none (sym c.wants_line.ensures ∙ c.if-not-wants_line.true)

pub returns-then-text-k : goal.returns-then-text-k
returns-then-text-k c =
    has_not (sym c.wants_line.ensures ∙ c.if-not-wants_line.false) (λ lt e.
    elim c.then-text-k.branch [
      | then-text-k-via-then-text-k w ↦ let k = w.if-text-k.true in omega arith
      | then-text-k-via-else-text-k+then-literal-l w ↦ w.if-literal-l.true (w.literal.ensures ∙ e)
    ])

pub returns : goal.returns
returns c =
    rw c.line.ensures (has_its_own (sym c.wants_line.ensures ∙ c.if-not-wants_line.false) c.if-text-k.false
    (sym c.literal.ensures ∙ c.if-literal-l.false))
