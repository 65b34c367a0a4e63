use Rattle.std.specs.Prelude.{Err}
use Rattle.std.proofs.Common.{rules}
use mathlib.Core.Path.{refl, ◌≡◌}
use Rattle.words.proofs.Laws.{accepted_atoms}
use Rattle.reasoncheck.proofs.Checks.{refused_judged, accepted_matched}
use Rattle.reasoncheck.proofs.Held.{judged}
use Rattle.reasoncheck.proofs.judge_lines.Goals as goal

pub match_lines-requires : goal.match_lines-requires
match_lines-requires c =
    (accepted_atoms c.args.values.now.n c.args.table.now c.requires, refl)

pub returns-in_err-match_lines : goal.returns-in_err-match_lines
returns-in_err-match_lines c =
    let e : c.from_residual.result ≡ Err c.in_err-match_lines.field-0.0 = search rules in
    rw e (λ ls h. refused_judged _ _ _ ls (c.match_lines.ensures ls h) c.in_err-match_lines.was)

pub line_fault-requires : goal.line_fault-requires
line_fault-requires c =
    accepted_atoms c.args.values.now.n c.args.table.now c.requires

pub returns : goal.returns
returns c =
    λ ls h. let m = accepted_matched _ _ ls (c.match_lines.ensures ls h) c.in_ok-match_lines.was in
    judged _ _ _ ls _ _ m.0 m.1 c.justified_lines-ok.ensures c.line_fault.ensures
