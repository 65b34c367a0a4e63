use borrow.Author.Tests.{le-leb, lt-leb}
use mathlib.Core.Path.{sym, ◌∙◌}
use Rattle.records.specs.Records.{record_fault}
use Rattle.records.proofs.Laws.{no_fault, wrong_count}
use Rattle.records.proofs.record_fault.Goals as goal

pub returns-then-record-gt-MOST_N : goal.returns-then-record-gt-MOST_N
unfolding record_fault
returns-then-record-gt-MOST_N c =
    rw (lt-leb _ _ c.if-record-gt-MOST_N.true, sym c.refused.ensures)

pub returns-then-marks_from : goal.returns-then-marks_from
unfolding record_fault
returns-then-marks_from c =
    rw (le-leb _ _ c.if-record-gt-MOST_N.false, sym c.marks_from.ensures, c.if-marks_from.true, sym c.refused-then-marks_from.ensures)

pub returns-then-record-count : goal.returns-then-record-count
returns-then-record-count c =
    c.refused-then-record-count.ensures ∙ sym (wrong_count _ c.if-record-gt-MOST_N.false (λ e. c.if-record-count.true (e ∙ sym c.count.ensures)))

pub returns : goal.returns
returns c =
    let none = sym c.marks_from.ensures ∙ c.if-marks_from.false in
    sym (no_fault _ c.if-record-gt-MOST_N.false none (c.if-record-count.false ∙ c.count.ensures))
