use mathlib.Core.Path.{ap, ◌∙◌}
use native.Mathlib.Omega.{arith}
use Rattle.reader.specs.Sheet.{continues_name}
use Rattle.reader.proofs.Runs.{run_starts, run_more, run_ended}
use Rattle.reader.proofs.name_run.Goals as goal

pub loop-n-init : goal.loop-n-init
loop-n-init c =
    (omega arith, run_starts c.args.sheet.now c.args.q)

pub loop-n-smaller : goal.loop-n-smaller
loop-n-smaller c =
    let more = run_more c.args.sheet.now c.args.q c.loop-n.n _
    c.loop-n.invariant.1 (c.continues_name.ensures ∙ ap continues_name c.byte.ensures) c.loop-n-test.true in
    omega (arith, more.0)

pub loop-n-preserved : goal.loop-n-preserved
loop-n-preserved c =
    run_more c.args.sheet.now c.args.q c.loop-n.n _
    c.loop-n.invariant.1 (c.continues_name.ensures ∙ ap continues_name c.byte.ensures) c.loop-n-test.true

pub returns : goal.returns
returns c =
    record {
      value = run_ended c.args.sheet.now c.args.q c.loop-n.n _
          c.loop-n.invariant.1 (c.continues_name.ensures ∙ ap continues_name c.byte.ensures) c.loop-n-test.false;
      result_in_bounds = c.loop-n.invariant.0;
    }
