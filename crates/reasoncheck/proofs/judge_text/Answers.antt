use Rattle.std.specs.Prelude.{Err}
use Rattle.std.proofs.Common.{rules}
use mathlib.Core.Path.{◌≡◌, sym, ap, ◌∙◌}
use lib.ListN.{length}
use lib.Seq.{sets}
use Rattle.reasontext.specs.Reading.{TextRead, read_text, lines_in}
use Rattle.reasontext.proofs.Texts.{read_lines, good_read}
use Rattle.reasoncheck.proofs.Rooms.{room_holds}
use Rattle.reasoncheck.proofs.Checks.{check_sound, text_refused, model_refused, lines_judged}
use Rattle.reasoncheck.proofs.judge_text.Goals as goal

pub returns-in_err-fault : goal.returns-in_err-fault
returns-in_err-fault c =
    let e : c.from_residual.result ≡ Err c.in_err-fault.field-0.0 = search rules in
    rw e (text_refused _ _ _ _ c.requires (sym c.read_numbers-read.ensures.fault_value ∙ c.in_err-fault.was))

pub invariant_of-values : goal.invariant_of-values
invariant_of-values c = record { readable = (check_sound _ _ _ c.requires).codes }

pub model_fault-requires : goal.model_fault-requires
model_fault-requires c = (check_sound _ _ _ c.requires).table

pub returns-in_err-model_fault : goal.returns-in_err-model_fault
returns-in_err-model_fault c =
    let e : c.from_residual-in_err-model_fault.result ≡ Err c.in_err-model_fault.field-0.0 = search rules in
    rw e (model_refused _ _ _ _ c.requires (sym c.read_numbers-read.ensures.fault_value ∙ c.in_ok-fault.was) c.model_fault.ensures
    c.in_err-model_fault.was)

pub judge_lines-requires : goal.judge_lines-requires
judge_lines-requires c = (check_sound _ _ _ c.requires).table

pub returns : goal.returns
returns c =
    let good = sym c.read_numbers-read.ensures.fault_value ∙ c.in_ok-fault.was in
    let text = c.args.text.now in
    let n = ap (λ (r : TextRead). r.numbers) (good_read text _ (read_lines text good)) in
    lines_judged _ _ _ _ c.requires good c.model_fault.ensures c.in_ok-model_fault.was
    (c.judge_lines.ensures (lines_in (read_text text).numbers) (room_holds _ _ _ (c.read_numbers-read.ensures.count_value ∙ ap length n)
    (c.read_numbers-read.ensures.room_after ∙ ap (sets _ 0) n)))
