use mathlib.Core.Path.{ap, ◌∙◌}
use lib.ListN.{drop}
use Prim.Native.Nat.{ℕ}
use Rattle.paper.specs.Table1.{code}
use Rattle.paper.specs.Definitions.{any_value}
use Rattle.words.specs.Layout.{take_groups}
use Rattle.valued.specs.InStructs.{model_of}
use Rattle.valued.proofs.Valuing.{body_none, body_some, fact_skipped}
use Rattle.valued.proofs.ValuedRecord.body_code.Goals as goal

pub returns-then-m-eq0 : goal.returns-then-m-eq0
returns-then-m-eq0 c =
    let rule = c.args.self.now in
    let record_ = rule.record in
    record {
      code_value = body_none (model_of rule.values) record_.table.now record_.at _ c.group_count-m.ensures c.if-m-eq0.true;
      groups_skipped = rw c.body-first.ensures
          (fact_skipped record_.table.now record_.at _ record_.inside c.group_count-m.ensures c.if-m-eq0.true);
    }

pub returns-clause-code_value : goal.returns-clause-code_value
returns-clause-code_value c =
    let rule = c.args.self.now in
    let t = rule.record.table.now in
    let I = model_of rule.values in
    body_some I t rule.record.at _ _ c.group_count-m.ensures c.if-m-eq0.false rule.record.whole
    (c.groups_code.ensures.code_value
    ∙ ap (λ (first : ℕ). code (any_value I (take_groups c.group_count-m.result (drop first t)))) c.body-first.ensures)
