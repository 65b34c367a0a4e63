use mathlib.Core.Path.{refl}
use Prim.Native.Nat.{◌<◌}
use native.Mathlib.Omega.{arith}
use lib.ListN.{length}
use Rattle.bits.specs.Sets.{member}
use Rattle.ranks.specs.KnownClean.{marked_in, clean_in}
use Rattle.words.specs.Layout.{rules_of}
use Rattle.words.specs.RecordAt.{rule_at}
use Rattle.ranks.proofs.Adding.{chosen_can}
use Rattle.waiting.specs.Waiting.{place_for}
use Rattle.waiting.proofs.Numbering.{in_drop, at_most_1024_rules}
use Rattle.waiting.proofs.Awake.{looked_at_adds, stays_awake}
use Rattle.waiting.proofs.look.Goals as goal

pub offset_bounds-sources-j : goal.offset_bounds-sources-j
offset_bounds-sources-j c =
    omega (arith, c.requires.1, at_most_1024_rules _ c.requires.0.ranking.index.table)

pub bounds-sources-j : goal.bounds-sources-j
bounds-sources-j c =
    omega (arith, c.requires.1, at_most_1024_rules _ c.requires.0.ranking.index.table)

pub invariant_of-record : goal.invariant_of-record
invariant_of-record c =
    let stands = (c.requires.0.ranking.numbered.each c.args.j c.requires.1).stands in
    record { inside = stands.inside; whole = stands.whole }

pub add_and_wake-requires : goal.add_and_wake-requires
add_and_wake-requires c =
    let sources = c.args.sources.now in
    let heads = sources.heads in
    let t = sources.table.words.now in
    let at = place_for sources.order.now c.args.j in
    let ranking = c.requires.0.ranking in
    let r = ranking.numbered.each c.args.j c.requires.1 in
    let body = ranking.index.table.within.each_body (rule_at t at) (in_drop c.args.j (rules_of t) r.rule) in
    let few : length (rule_at t at).groups < 65536 = omega (arith, body.at_most_64) in (
      ranking,
      c.requires.0.row,
      chosen_can (marked_in heads.clean) (clean_in heads.clean) (member heads.marks.now) t at c.args.search.now.found r.stands ranking.fit few
          c.head.ensures.value c.choose-adds.ensures,
    )

pub returns-clause-awake : goal.returns-clause-awake
returns-clause-awake c =
    let e = looked_at_adds c.requires.0 c.args.j refl c.head.ensures.value c.choose-adds.ensures c.add_and_wake.ensures.found_after in
    stays_awake c.requires.0 c.requires.1 e c.add_and_wake.ensures.stirred
