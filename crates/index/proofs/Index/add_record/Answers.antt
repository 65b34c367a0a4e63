use mathlib.Core.Path.{ap, ◌∙◌}
use native.Mathlib.Omega.{arith}
use Rattle.index.specs.declared.Index.{Index}
use Rattle.index.proofs.Placed.{cursor_record}
use Rattle.index.proofs.Indexing.{with_fact_indexed, record_comes, record_turn}
use Rattle.index.proofs.Index.add_record.Goals as goal

pub word_inside-m-requires : goal.word_inside-m-requires
word_inside-m-requires c =
    (cursor_record _ _ _ c.requires.2.cursor c.requires.1).0

pub add_groups-requires : goal.add_groups-requires
add_groups-requires c = (
  c.requires.0,
  record_comes _ c.requires.0 _ c.requires.1 _ c.requires.2 _ _ c.word_inside-head.ensures.value c.word_inside-m.ensures.value,
  with_fact_indexed _ c.requires.0 _ c.requires.1 _ c.requires.2 _ _ c.word_inside-head.ensures.value c.word_inside-m.ensures.value _ c.put_fact.ensures,
)

pub returns : goal.returns
returns c =
    record {
      indexed_to = record_turn _ c.requires.0 _ c.requires.1 _ c.requires.2 _ _ c.word_inside-head.ensures.value c.word_inside-m.ensures.value _ _
          (c.add_groups.ensures.facts_same ∙ ap (λ (x : Index). x.facts) c.put_fact.ensures) c.add_groups.ensures.cursor
          c.add_groups.ensures.indexed c.add_groups.ensures.table_value;
      lower_bound = omega (arith, c.add_groups.ensures.lower_bound);
    }
