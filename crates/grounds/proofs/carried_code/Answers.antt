use mathlib.Core.Path.{sym}
use native.Mathlib.Omega.{arith}
use Rattle.words.specs.RecordAt.{groups_in, body_from, rule_at}
use Rattle.words.proofs.Reading.{length_take_groups}
use Rattle.grounds.proofs.Nth.{whole_fewer, group_of, carried_whole, carried_not, carried_past}
use Rattle.grounds.proofs.carried_code.Goals as goal

pub returns-then-group_count-g : goal.returns-then-group_count-g
returns-then-group_count-g c =
    let rule = c.args.rule.now in
    let t = rule.record.table.now in
    let at = rule.record.at in
    sym (carried_past _ _ (rule_at t at).groups _
    (omega (arith, c.if-group_count-g.true, c.group_count.ensures, length_take_groups (groups_in t at) (body_from t at) rule.record.whole)))

pub skip_groups-place-requires : goal.skip_groups-place-requires
skip_groups-place-requires c =
    let rule = c.args.rule.now in (
      rw c.body.ensures rule.record.inside,
      rw c.body.ensures (whole_fewer _ _ _ (omega (arith, c.if-group_count-g.false, c.group_count.ensures)) rule.record.whole),
    )

pub group_at-group-requires : goal.group_at-group-requires
group_at-group-requires c =
    let rule = c.args.rule.now in
    let q = group_of rule.record.table.now rule.record.at rule.record.whole c.requires c.if-group_count-g.false
    c.group_count.ensures c.body.ensures c.skip_groups-place.ensures in
    (q.inside, q.fits)

pub group_code-requires : goal.group_code-requires
group_code-requires c =
    let rule = c.args.rule.now in
    let q = group_of rule.record.table.now rule.record.at rule.record.whole c.requires c.if-group_count-g.false
    c.group_count.ensures c.body.ensures c.skip_groups-place.ensures in
    rw c.group_at-group.ensures (rule.below _ q.of_groups)

pub returns-then-group_below : goal.returns-then-group_below
returns-then-group_below c =
    let rule = c.args.rule.now in
    let q = group_of rule.record.table.now rule.record.at rule.record.whole c.requires c.if-group_count-g.false
    c.group_count.ensures c.body.ensures c.skip_groups-place.ensures in
    carried_whole _ _ _ _ _ q _ _ _ c.group_at-group.ensures c.group_below.ensures _ c.if-group_below.true c.group_code.ensures

pub returns-else-group_below : goal.returns-else-group_below
returns-else-group_below c =
    let rule = c.args.rule.now in
    let q = group_of rule.record.table.now rule.record.at rule.record.whole c.requires c.if-group_count-g.false
    c.group_count.ensures c.body.ensures c.skip_groups-place.ensures in
    carried_not _ _ _ _ _ q _ _ _ c.group_at-group.ensures c.group_below.ensures c.if-group_below.false
