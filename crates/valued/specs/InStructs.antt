-- Stage: the interpretation of values, and the rule of a record, as the code holds them.
use Rattle.paper.specs.Rules.{Rule}
use Rattle.paper.specs.Definitions.{Interpretation}
use Rattle.words.specs.RecordAt.{rule_at}
use Rattle.values.specs.Given.{given}
use Rattle.valued.specs.declared.Values.{Values}
use Rattle.valued.specs.declared.Record.{Record}

abbrev pub model_of : Values → Interpretation
model_of v = given v.n v.codes.now

abbrev pub rule_of : Record → Rule
rule_of r = rule_at r.table.now r.at
