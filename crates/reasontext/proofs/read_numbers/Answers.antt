use mathlib.Core.Path.{refl, sym, ap, ◌∙◌}
use Prim.Native.Nat.{ℕ}
use native.Mathlib.Omega.{arith}
use lib.ListN.{length}
use lib.Seq.{sets, length-sets}
use Rattle.reasontext.specs.Reading.{TextRead, at_end}
use Rattle.reasontext.proofs.Texts.{Begun}
use Rattle.reasontext.proofs.Going.{going_start, going_on, stopped, numbers_stopped, ended}
use Rattle.reasontext.proofs.read_numbers.Goals as goal

pub loop-i-init : goal.loop-i-init
loop-i-init c =
    going_start _ _

pub shape_of-room-then-breaks_text : goal.shape_of-room-then-breaks_text
shape_of-room-then-breaks_text c =
    ap length c.loop-i.invariant.room_is ∙ simp length-sets

pub returns-then-breaks_text : goal.returns-then-breaks_text
returns-then-breaks_text c =
    let w = c.loop-i.invariant in
    let e = stopped _ _ _ _ _ _ w c.loop-i-test.true refl (sym c.breaks_text.ensures ∙ c.if-breaks_text.true) in
    let n = numbers_stopped _ _ _ _ _ w e in record {
      fault_value = c.refused.ensures ∙ sym (ap (λ (r : TextRead). r.fault) e);
      count_value = w.count_is ∙ ap length n;
      room_after = w.room_is ∙ ap (sets _ 0) n;
    }

pub store_whole-requires : goal.store_whole-requires
unfolding Begun
store_whole-requires c =
    c.loop-i.invariant.begun_is.1

pub after_byte-s-requires : goal.after_byte-s-requires
unfolding Begun
after_byte-s-requires c =
    let w = c.loop-i.invariant in
    (w.begun_is.1, w.field≤, omega (arith, w.count≤, c.loop-i-test.true))

pub loop-i-preserved : goal.loop-i-preserved
loop-i-preserved c =
    going_on _ _ _ _ _ _ c.loop-i.invariant c.loop-i-test.true refl (sym c.breaks_text.ensures ∙ c.if-breaks_text.false) c.after_byte-s.ensures
    c.store_whole.ensures

pub shape_of-room : goal.shape_of-room
shape_of-room c =
    ap length c.loop-i.invariant.room_is ∙ simp length-sets

pub returns : goal.returns
returns c =
    let w = c.loop-i.invariant in
    let e = ended _ _ _ _ _ w c.loop-i-test.false in record {
      fault_value = c.end_fault.ensures ∙ ap (λ (p : ℕ). (at_end c.loop-i.s.field c.loop-i.s.begun p).fault) (omega arith) ∙ sym e.0;
      count_value = w.count_is ∙ ap length e.1;
      room_after = w.room_is ∙ ap (sets _ 0) e.1;
    }
