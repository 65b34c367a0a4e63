use mathlib.Core.Path.{refl, sym, ap, ◌∙◌}
use native.Mathlib.Nat.{zero-add}
use native.Mathlib.Omega.{arith}
use lib.ListN.{get_or}
use lib.Seq.{sets}
use Rattle.valuesheet.proofs.Printing.{bytes_turn, line_fits, lines_turn, no_lines}
use Rattle.valuesheet.proofs.put_lines.Goals as goal

pub loop-a-init : goal.loop-a-init
loop-a-init c =
    (omega arith, omega arith, refl, zero-add _, refl)

pub put_line-requires : goal.put_line-requires
put_line-requires c =
    record {
      e_bound = c.entry-e.ensures.upper_bound;
      e_in_bounds = omega (
        arith,
        line_fits c.args.names.now c.args.n c.loop-a.a c.requires.n_in_bounds c.loop-a-test.true _
            c.entry-e.ensures.value c.loop-a.at _ c.loop-a.invariant.3,
        c.requires.names_in_bounds,
        c.loop-a.invariant.2,
      );
    }

pub loop-a-preserved : goal.loop-a-preserved
loop-a-preserved c = (
  omega arith,
  omega (arith, c.line_bytes-at.ensures.upper_bound),
  c.put_line.auto.text ∙ c.loop-a.invariant.2,
  bytes_turn c.args.names.now c.args.n c.loop-a.a c.requires.n_in_bounds
      c.loop-a-test.true _ c.entry-e.ensures.value c.loop-a.at _ _ c.line_bytes-at.ensures.value c.loop-a.invariant.3,
  lines_turn c.args.names.now c.args.n c.loop-a.a c.requires.n_in_bounds c.loop-a-test.true _
      c.entry-e.ensures.value c.args.sheet.now (λ x. get_or c.args.values.now x 0) c.loop-a.text _
      c.loop-a.at _ _ c.byte.ensures c.line_bytes-at.ensures.value c.put_line.ensures ∙ c.loop-a.invariant.4,
)

pub shape_of-text : goal.shape_of-text
shape_of-text c =
    c.loop-a.invariant.2

pub returns : goal.returns
returns c =
    ap (sets c.loop-a.text c.loop-a.at) (sym (no_lines c.args.sheet.now
    (λ x. get_or c.args.values.now x 0) c.args.names.now c.args.n c.loop-a.a c.requires.n_in_bounds c.loop-a-test.false))
    ∙ c.loop-a.invariant.4
