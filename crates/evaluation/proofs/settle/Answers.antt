use Rattle.std.proofs.Common.{rules}
use mathlib.Core.Path.{subst, subst⁻¹}
use mathlib.Core.Bool.{Bool, false}
use Rattle.words.specs.Layout.{rules_of}
use Rattle.pending.proofs.Marked.{working_starts}
use Rattle.evaluation.specs.declared.Unsettled.{Unsettled}
use Rattle.evaluation.specs.Rounds.{Settling}
use Rattle.evaluation.proofs.Rounds.{round_settles, round_falls}
use Rattle.evaluation.proofs.Evaluated.{first_settles, first_stands}
use Rattle.evaluation.proofs.settle.Goals as goal
use Rattle.evaluation.proofs.settle.Goals.{then-mark_all+else-loop-test, else-mark_all}

pub close-requires : goal.close-requires
close-requires c =
    let facts = c.facts-m.ensures.facts in
    (search rules, rw c.rules.view_is (working_starts _ _ _ _ c.facts-m.ensures.table facts facts.row (λ l h. h)))

pub loop-init : goal.loop-init
loop-init c =
    record {
      begun = (first_settles _ _ c.args.n c.requires.1 c.requires.0 c.facts-m.ensures.facts _ (rw c.rules.view_is at c.close.ensures)
          _ _ c.mark_all.ensures).begun;
      standing = first_stands _ _ c.args.n c.requires.1 c.requires.0 c.facts-m.ensures.facts _ (rw c.rules.view_is at c.close.ensures) _ _ c.mark_all.ensures;
    }

pub loop-smaller : goal.loop-smaller
loop-smaller c =
    round_falls (rules_of c.args.rules.now) c.args.n c.requires.1 c.requires.0 _ _ _ _ _ c.loop.invariant.begun c.round.ensures.round c.loop-test.true

pub loop-preserved : goal.loop-preserved
loop-preserved c =
    record {
      begun = (round_settles (rules_of c.args.rules.now) c.args.n c.requires.1 c.requires.0 _ _ _ _ _ c.loop.invariant.begun c.round.ensures.round).begun;
      standing = c.round.ensures.standing;
    }

pub returns : goal.returns
returns c =
    let settled = (λ (m : Unsettled) (any : Bool). Settling (rules_of c.args.rules.now) m.marks m.held.taken any) in
    elim c.if-mark_all.branch [
      | then-mark_all+else-loop-test w ↦ subst⁻¹ (λ (m : Unsettled). settled m false) w.m-is (subst (settled w.round.new.self) w.loop-test.false
          (round_settles (rules_of c.args.rules.now) c.args.n c.requires.1 c.requires.0 _ _ _ _ _ w.loop.invariant.begun w.round.ensures.round))
      | else-mark_all w ↦ subst⁻¹ (λ (m : Unsettled). settled m false) w.m-is (subst (settled c.mark_all.new.self) w.if-mark_all.false
          (first_settles _ _ c.args.n c.requires.1 c.requires.0 c.facts-m.ensures.facts _ (rw c.rules.view_is at c.close.ensures) _ _ c.mark_all.ensures))
    ]
