-- Stage: a search for lines by what it reads.
use Rattle.std.specs.Prelude.{List, ℕ}
use Rattle.paper.specs.Rules.{Rule}
use Rattle.bits.specs.Sets.{member}
use Rattle.ranks.specs.declared.Found.{Found}
use Rattle.ranks.specs.declared.Search.{Search}
use Rattle.ranks.specs.KnownClean.{marked_in, clean_in}
use Rattle.ranks.specs.Found.{at_rule, over_rules, found_at_rest}
use Rattle.waiting.specs.declared.Sources.{Sources}
use Rattle.waiting.specs.Waiting.{Ranking, Awake}

abbrev pub RankingIn : Sources → Search → Type 0
RankingIn from s = Ranking (clean_in from.heads.clean) from.table.words.now from.table.index.now from.order.now s.found s.counts

abbrev pub AwakeIn : Sources → Search → List ℕ → Type 0
AwakeIn from s w =
    Awake (marked_in from.heads.clean) (clean_in from.heads.clean) (member from.heads.marks.now) from.table.words.now from.table.index.now from.order.now s.found s.counts w

-- what the heads that are looked for get by a rule, by one pass over rules, and by passes until one adds nothing
abbrev pub at_rule_in : Sources → Found → Rule → Found
at_rule_in from = at_rule (marked_in from.heads.clean) (clean_in from.heads.clean) (member from.heads.marks.now)

abbrev pub over_rules_in : Sources → List Rule → Found → Found
over_rules_in from = over_rules (marked_in from.heads.clean) (clean_in from.heads.clean) (member from.heads.marks.now)

abbrev pub found_at_rest_in : Sources → List Rule → Found → Found
found_at_rest_in from = found_at_rest (marked_in from.heads.clean) (clean_in from.heads.clean) (member from.heads.marks.now)
