use native.Mathlib.Omega.{arith}
use mathlib.Core.Path.{ap, ◌∙◌}
use Rattle.index.specs.declared.Index.{Index}
use Rattle.index.proofs.Placed.{table_short}
use Rattle.index.proofs.Indexing.{group_inside, head_small, code_small, group_starts, literal_turn}
use Rattle.index.proofs.Index.add_group.Goals as goal

pub overflow_add-first : goal.overflow_add-first
overflow_add-first c = omega (arith, group_inside _ c.requires.0 _ _ _ c.requires.1.1)

pub word_inside-k-requires : goal.word_inside-k-requires
word_inside-k-requires c = omega (arith, group_inside _ c.requires.0 _ _ _ c.requires.1.1)

pub set_owner-requires : goal.set_owner-requires
set_owner-requires c = (
  omega (arith, group_inside _ c.requires.0 _ _ _ c.requires.1.1, table_short _ c.requires.0),
  omega (arith, head_small _ c.requires.0 _ _ _ c.requires.1.1),
)

pub loop-i-init : goal.loop-i-init
loop-i-init c =
    record {
      indexed = group_starts _ c.requires.0 _ _ _ c.requires.1.1 _ _ c.requires.2 c.set_owner.ensures;
      facts_same = ap (λ (x : Index). x.facts) c.set_owner.ensures;
    }

pub word_inside-l-requires : goal.word_inside-l-requires
word_inside-l-requires c =
    omega (arith, group_inside _ c.requires.0 _ _ _ c.requires.1.1, c.word_inside-k.ensures.value)

pub note_literal-requires : goal.note_literal-requires
note_literal-requires c = (
  omega (
    arith,
    c.word_inside-l.ensures.value,
    code_small _ c.requires.0 _ _ _ c.requires.1.1 c.loop-i.i (omega (arith, c.word_inside-k.ensures.value)),
  ),
  omega (arith, group_inside _ c.requires.0 _ _ _ c.requires.1.1, table_short _ c.requires.0, c.word_inside-k.ensures.value),
  omega (arith, group_inside _ c.requires.0 _ _ _ c.requires.1.1, table_short _ c.requires.0),
)

pub loop-i-preserved : goal.loop-i-preserved
loop-i-preserved c =
    record {
      indexed = literal_turn _ c.requires.0 _ _ _ c.requires.1.1 _ _ _ _ (omega (arith, c.word_inside-k.ensures.value))
          c.word_inside-l.ensures.value c.loop-i.invariant.indexed c.note_literal.ensures;
      facts_same = ap (λ (x : Index). x.facts) c.note_literal.ensures ∙ c.loop-i.invariant.facts_same;
    }

pub overflow_add-result : goal.overflow_add-result
overflow_add-result c =
    omega (arith, group_inside _ c.requires.0 _ _ _ c.requires.1.1, table_short _ c.requires.0, c.word_inside-k.ensures.value)
