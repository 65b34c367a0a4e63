use native.Mathlib.Omega.{arith}
use mathlib.Core.Path.{sym, ◌∙◌, subst⁻¹}
use Rattle.values.specs.Given.{given}
use Rattle.reasoncheck.specs.Matching.{LinesAllow}
use Rattle.reasoncheck.proofs.Matches.{passing_start, passing_next, passing_unwanted, passing_fails, passing_end, below_length}
use Rattle.reasoncheck.proofs.line_fault.Goals.{then-wants_line+else-not-line_holds, else-wants_line}
use Rattle.reasoncheck.proofs.line_fault.Goals as goal

pub loop-l-init : goal.loop-l-init
loop-l-init c =
    passing_start _ _

pub overflow_add-k : goal.overflow_add-k
overflow_add-k c =
    let w = c.loop-l.invariant.count_is in
    let values = c.args.values.now in
    omega (arith, below_length (given values.n values.codes.now) c.loop-l.l, c.loop-l-test.true, c.requires)

pub returns-then-not-line_holds : goal.returns-then-not-line_holds
returns-then-not-line_holds c =
    let values = c.args.values.now in
    subst⁻¹ (LinesAllow (given values.n values.codes.now) _ _) c.refused.ensures
    (passing_fails _ _ _ _ _ c.loop-l-test.true c.loop-l.invariant (sym c.wants_line.ensures ∙ c.if-wants_line.true)
    (sym c.line_holds.ensures ∙ c.if-not-line_holds.true))

pub overflow_add-k-then-wants_line : goal.overflow_add-k-then-wants_line
overflow_add-k-then-wants_line c =
    let w = c.loop-l.invariant.count_is in
    let values = c.args.values.now in
    omega (arith, below_length (given values.n values.codes.now) c.loop-l.l, c.loop-l-test.true, c.requires)

pub loop-l-preserved : goal.loop-l-preserved
loop-l-preserved c =
    elim c.if-wants_line.branch [
      | then-wants_line+else-not-line_holds w ↦
          rw w.k-is (passing_next _ _ _ _ c.loop-l.invariant (sym c.wants_line.ensures ∙ w.if-wants_line.true)
          (sym w.line_holds.ensures ∙ w.if-not-line_holds.false))
      | else-wants_line w ↦ rw w.k-is (passing_unwanted _ _ _ _ c.loop-l.invariant (sym c.wants_line.ensures ∙ w.if-wants_line.false))
    ]

pub returns : goal.returns
returns c =
    passing_end _ _ _ _ _ c.loop-l-test.false c.loop-l.invariant
