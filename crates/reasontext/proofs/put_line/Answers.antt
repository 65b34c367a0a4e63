use native.Mathlib.Omega.{arith}
use Rattle.reasontext.proofs.Printing.{four_put, room_1, room_2, room_3, room_4}
use Rattle.reasontext.proofs.put_line.Goals as goal

pub put_number-ranks-requires : goal.put_number-ranks-requires
put_number-ranks-requires c = (
  omega (arith, c.requires.0),
  room_1 c.args.l c.args.rank c.args.head
      c.args.group c.args.text.now c.args.at c.requires.4,
)

pub put_number-heads-requires : goal.put_number-heads-requires
put_number-heads-requires c = (
  omega (arith, c.requires.1),
  room_2 c.args.l c.args.rank c.args.head c.args.group c.args.text.now
      c.args.at c.requires.4 (c.put_number-ranks.ensures.value, c.put_number-ranks.ensures.text_is),
)

pub put_number-groups-requires : goal.put_number-groups-requires
put_number-groups-requires c = (
  omega (arith, c.requires.2),
  room_3 c.args.l c.args.rank c.args.head c.args.group c.args.text.now
      c.args.at c.requires.4 (c.put_number-ranks.ensures.value, c.put_number-ranks.ensures.text_is)
      (c.put_number-heads.ensures.value, c.put_number-heads.ensures.text_is),
)

pub put_number-requires : goal.put_number-requires
put_number-requires c = (
  omega (arith, c.requires.3),
  room_4 c.args.l c.args.rank c.args.head c.args.group c.args.text.now
      c.args.at c.requires.4 (c.put_number-ranks.ensures.value, c.put_number-ranks.ensures.text_is)
      (c.put_number-heads.ensures.value, c.put_number-heads.ensures.text_is) (c.put_number-groups.ensures.value, c.put_number-groups.ensures.text_is),
)

pub returns : goal.returns
returns c =
    let whole = four_put c.args.l c.args.rank c.args.head c.args.group c.args.text.now c.args.at
    (c.put_number-ranks.ensures.value, c.put_number-ranks.ensures.text_is) (c.put_number-heads.ensures.value, c.put_number-heads.ensures.text_is)
    (c.put_number-groups.ensures.value, c.put_number-groups.ensures.text_is) (c.put_number.ensures.value, c.put_number.ensures.text_is) in record {
      value = whole.0;
      text_is = whole.1;
    }
