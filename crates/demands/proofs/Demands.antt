-- The three demands, about what the public entries promise, in the demands' order, then what document 02 asks besides. Each is proved by the room it cites.
-- Assumes nothing.
use mathlib.Core.Bool.{Bool, true, false}
use mathlib.Core.List.{List, [], ◌∷◌, ◌++◌}
use mathlib.Core.Logic.Iff
use mathlib.Core.Logic.{◌↔◌, ◌⊎◌, ⊎_elim}
use mathlib.Core.Path.{◌≡◌, refl, sym, ◌∙◌, subst, subst⁻¹}
use Prim.Native.Nat.{ℕ, ◌+◌, ◌≤◌, ◌<◌, ◌/◌}
use lib.Dec.{T, leb}
use lib.ListN.{length, get_or, take, drop}
use Rattle.limits.specs.Limits.{most_atoms, most_line, most_reason_bytes}
use Rattle.refusal.specs.declared.Refusal.{Refusal}
use Rattle.refusal.specs.Numbers.{too_many_atoms, broken_record, not_settled, text_room_too_small, not_a_truth_code}
use Rattle.paper.specs.Table1.{Value, 𝐢, 𝐭, code, ◌and◌, ◌or◌, not', ◌implies◌}
use Rattle.paper.specs.Rules.{Rule, positive}
use Rattle.sets.specs.Sets.{◌∈◌, ◌⊆◌, count}
use Rattle.paper.specs.Definitions.{Interpretation, value, body_value, Carries, Supports, WellSupportedBy, WellSupported, Smallest, SmallestWellSupported}
use Rattle.paper.specs.Marking.{Marks, Marking, Marked, Unmarked, Held, Clean, CanBeMarked, Settled, IsHeld, Conflict, settled_value, inconsistent}
use Rattle.paper.proofs.Theorems as paper
use Rattle.paper.proofs.Theorems.{smallest_by_test, smallest_exists}
use Rattle.paper.proofs.Settled.{clean→𝐭}
use Rattle.refusal.specs.Checks.{Checked, Decided}
use Rattle.truth.specs.Connectives.{conjunction, disjunction, negated, implied}
use Rattle.truth.proofs.Laws as truth
use Rattle.truth.proofs.Laws.{one_answer, and_is_table_1, or_is_table_1, not_is_table_1, implication_is_table_1, first_refused, second_refused}
use Rattle.words.specs.Check.{table_check, AcceptedTable}
use Rattle.words.specs.Layout.{TableRecord, records_of, rules_in, rules_of, words_of}
use Rattle.words.specs.OnlyLines.{OnlyLinesDiffer}
use Rattle.words.proofs.Laws.{check_determined, accepted_one_rule, accepted_within, words_of_records_of}
use Rattle.words.proofs.OnlyLines.{Alike, only_lines_alike}
use Rattle.least.specs.Groups.{WhichAllows, OnlyGroup}
use Rattle.least.proofs.Groups.{which_determined, which→supports, which→carries_𝐢, only→supports, only→carries}
use Rattle.records.specs.Records.{record_fault, marks_of, no_marks_for, with_mark, FreshAllows, CountAllows}
use Rattle.picks.specs.Faults.{pick_fault, settled_fault, report_fault}
use Rattle.records.specs.declared.MarkRecord.{MarkRecord}
use Rattle.refusal.specs.Questions.{QuestionAllows}
use Rattle.picks.specs.Entries.{PickAllows, SettledAllows, ReportAllows}
use Rattle.values.specs.Values.{written}
use Rattle.picks.specs.Traces.{Picks, PickPasses}
use Rattle.records.proofs.Laws as records
use Rattle.picks.proofs.Determined as picks
use Rattle.picks.proofs.Counted as counted
use Rattle.picks.proofs.Accepted as asked
use Rattle.picks.proofs.Demand3 as rooms
use Rattle.picks.proofs.OnlyLines.{pick_alike, settled_alike, report_alike}
use Rattle.refusal.proofs.Questions.{question_determined, yes_exactly_if}
use Rattle.refusal.proofs.Reasons.{HasReason}
use Rattle.conflict.specs.Conflict.{ConflictAllows}
use Rattle.conflict.proofs.OnlyLines.{conflict_alike}
use Rattle.evaluation.specs.Evaluation.{evaluation_fault, EvaluationAllows}
use Rattle.evaluation.proofs.Evaluated as evaluated
use Rattle.evaluation.proofs.Laws.{always_settles, refused_is, evaluation_determined}
use Rattle.evaluation.proofs.OnlyLines.{evaluation_alike}
use Rattle.values.specs.Given.{given}
use Rattle.reasontext.specs.ReasonSheet.{ReasonLine, IsReasonText}
use Rattle.reasoncheck.specs.ReasonCheck.{check_fault, SmallerRank, CheckAllows}
use Rattle.reasoncheck.proofs.Determined.{check_determined as reason-check-determined}
use Rattle.reasoncheck.proofs.Checks.{sound_check}
use Rattle.reasoncheck.proofs.WellSupported.{accepted→well_supported, well_supported→accepted}
use Rattle.reasoncheck.proofs.OnlyLines.{check_alike}
use Rattle.reasons.specs.Reasons.{ReasonsAllows}
use Rattle.reasons.proofs.Accepted.{own_sheet_accepted, own_sheet_short}
use Rattle.reasons.proofs.Determined.{reasons_determined, reasons_alike, learnt_length_serves}
use Rattle.hostreasons.specs.CheckBytes.{HostCheck}
use Rattle.hostreasons.specs.ReasonBytes.{HostReasons}
use Rattle.hostreasons.proofs.Determined.{ReadsAs, host_check_determined, check_answer_tells}
use Rattle.hostreasons.proofs.WrittenOnce.{host_reasons_determined}
use Rattle.hostreasons.proofs.OnlyLines.{host_check_alike, host_reasons_alike}
use Rattle.demands.proofs.Report.{evaluation_equals_report}
use Rattle.demands.proofs.Conflict.{evaluation_codes_tell, host_codes_tell, answers_tell}
use Rattle.reader.specs.declared.Reading.{Reading}
use Rattle.reader.specs.declared.Reading.TheVariants.{End, Literal}
use Rattle.reader.specs.declared.SheetLiteral.{SheetLiteral}
use Rattle.reader.specs.declared.Next.{Next}
use Rattle.reader.specs.declared.Role.TheVariants.{Head}
use Rattle.reader.specs.Sheet.{line_of}
use Rattle.reader.specs.Readings.{reading_at, next_at, GivesOnly, NoLiteral, reached}
use Rattle.reader.proofs.Laws as reader
use Rattle.names.specs.Names.{bytes_at, name_of}
use Rattle.literals.specs.Literals.{Sofar, code_for}
use Rattle.sheetwords.specs.Sheets.{sheet_outcome}
use Rattle.sheetwords.specs.Sheets as sheet
use Rattle.sheetwords.proofs.Names.{read_to_the_end}
use Rattle.buffers.specs.Padded.{padded}
use Rattle.valuesheet.specs.ValueSheet.{letter_of, line_for}
use Rattle.valuesheet.specs.Lines.{lines}
use Rattle.sheets.specs.declared.SheetCounts.{SheetCounts}
use Rattle.sheets.specs.SheetEntry.{sheet_of, counts, SheetAllows, SheetAnswer}
use Rattle.sheets.proofs.Laws.{sheet_one_rule, sheet_determined, Leaves, accepted_leaves, lines_left, leaves_a_table}
use Rattle.sheets.proofs.Lines.{as_many_lines, line_of_atom, literal_has_line, lines_differ, as_many_lines_left, line_left, literal_has_line_left, names_left_apart, literal_has_name_left, name_left_is_written, head_has_record_left}
use Rattle.host.specs.Bytes.{words_in, lone_byte}
use Rattle.host.specs.Evaluation.{host_fault, packed, HostEvaluation}
use Rattle.host.specs.Conflict.{host_table_fault, HostConflict}
use Rattle.host.proofs.Conflict as host
use Rattle.host.proofs.Determined.{host_accepted, host_determined, host_answer_tells, zero_exactly_if_accepted}
use Rattle.host.proofs.OnlyLines.{host_alike, host_conflict_alike}
use Rattle.hostsheet.specs.SheetBytes.{HostSheet, words_over, names_over}
use Rattle.hostsheet.proofs.Bounds.{answer_tells}
use Rattle.hostsheet.proofs.Determined.{host_sheet_determined}
use Rattle.std.specs.Prelude.{Ok, Err, Some, Option, Result}
use Rattle.picks.specs.declared.PickAnswer.{PickAnswer}

-- ---- Demand 1. Every entry's promise allows one outcome for all inputs: where the written order finds a fault, that refusal and buffers as they were.
-- (That each entry takes all inputs and ends is what the prover checks of it: none has a requires.)

-- and, or, not, implication: Table 1 over codes; a number above 3 is 20 at place 0
pub and_determined : (v w : ℕ) {r r' : Result ℕ Refusal} → r ≡ conjunction v w → r' ≡ conjunction v w → r ≡ r'
and_determined v w e e' = one_answer e e'

pub or_determined : (v w : ℕ) {r r' : Result ℕ Refusal} → r ≡ disjunction v w → r' ≡ disjunction v w → r ≡ r'
or_determined v w e e' = one_answer e e'

pub not_determined : (v : ℕ) {r r' : Result ℕ Refusal} → r ≡ negated v → r' ≡ negated v → r ≡ r'
not_determined v e e' = one_answer e e'

pub implication_determined : (v w : ℕ) {r r' : Result ℕ Refusal} → r ≡ implied v w → r' ≡ implied v w → r ≡ r'
implication_determined v w e e' = one_answer e e'

pub and_value : (a b : Value) {r : Result ℕ Refusal} → r ≡ conjunction (code a) (code b) → r ≡ Ok (code (a and b))
and_value a b e = e ∙ and_is_table_1 a b

pub or_value : (a b : Value) {r : Result ℕ Refusal} → r ≡ disjunction (code a) (code b) → r ≡ Ok (code (a or b))
or_value a b e = e ∙ or_is_table_1 a b

pub not_value : (a : Value) {r : Result ℕ Refusal} → r ≡ negated (code a) → r ≡ Ok (code (not' a))
not_value a e = e ∙ not_is_table_1 a

pub implication_value : (a b : Value) {r : Result ℕ Refusal} → r ≡ implied (code a) (code b) → r ≡ Ok (code (a implies b))
implication_value a b e = e ∙ implication_is_table_1 a b

pub and_refused : (v w : ℕ) {r : Result ℕ Refusal} → (3 < v) ⊎ (3 < w) → r ≡ conjunction v w → r ≡ Err (not_a_truth_code 0)
and_refused v w h e = e ∙ sym (⊎_elim (first_refused ◌and◌ v w) (second_refused ◌and◌ v w) h)

pub or_refused : (v w : ℕ) {r : Result ℕ Refusal} → (3 < v) ⊎ (3 < w) → r ≡ disjunction v w → r ≡ Err (not_a_truth_code 0)
or_refused v w h e = e ∙ sym (⊎_elim (first_refused ◌or◌ v w) (second_refused ◌or◌ v w) h)

pub not_refused : (v : ℕ) {r : Result ℕ Refusal} → 3 < v → r ≡ negated v → r ≡ Err (not_a_truth_code 0)
not_refused v h e = e ∙ sym (truth.not_refused v h)

pub implication_refused : (v w : ℕ) {r : Result ℕ Refusal} → (3 < v) ⊎ (3 < w) → r ≡ implied v w → r ≡ Err (not_a_truth_code 0)
implication_refused v w h e = e ∙ sym (⊎_elim (first_refused ◌implies◌ v w) (second_refused ◌implies◌ v w) h)

-- the word table check
pub check_allows_one : (N : ℕ) (t : List ℕ) (r r' : Checked) → r ≡ table_check N t → r' ≡ table_check N t → r ≡ r'
check_allows_one = check_determined

-- fresh record: 1; a refused one has N 0, no marks and count 0
pub fresh_refused : (N : ℕ) {answer : Checked} {r : MarkRecord} → leb N 512 ≡ false
    → FreshAllows N answer r → (answer ≡ Err too_many_atoms) × (r ≡ no_marks_for 0)
fresh_refused N e o = records.fresh_determined N o (FreshAllows.refused e)

pub fresh_accepted : (N : ℕ) {answer : Checked} {r : MarkRecord} → leb N 512 ≡ true
    → FreshAllows N answer r → (answer ≡ Ok tt) × (r ≡ no_marks_for N)
fresh_accepted N e o = records.fresh_determined N o (FreshAllows.fresh e)

module _ (r : MarkRecord) (t : List ℕ) where
  -- pick: 1, 17, 2, words, 16; a refusal alters nothing
  pub pick_determined : (a : ℕ) {x y : Result PickAnswer Refusal} {r' r'' : MarkRecord}
      → PickAllows r t a x r' → PickAllows r t a y r'' → (x ≡ y) × (r' ≡ r'')
  pick_determined a o o' = picks.pick_determined r t a o o'

  pub pick_refused : (a : ℕ) {f : Refusal} {answer : Result PickAnswer Refusal} {r' : MarkRecord}
      → pick_fault r t a ≡ Err f → PickAllows r t a answer r'
      → (answer ≡ Err f) × (r' ≡ r)
  pick_refused a e o = picks.pick_determined r t a o (PickAllows.refused e)

  pub pick_marks : (a : ℕ) {answer : Result PickAnswer Refusal} {r' : MarkRecord} → pick_fault r t a ≡ Ok tt
      → CanBeMarked (rules_of t) (marks_of r) a → PickAllows r t a answer r'
      → (answer ≡ (Ok PickAnswer.Marked)) × (r' ≡ with_mark r a)
  pick_marks a e c o = picks.pick_determined r t a o (PickAllows.marked e c)

  pub pick_finds_it_marked : (a : ℕ) {answer : Result PickAnswer Refusal} {r' : MarkRecord}
      → pick_fault r t a ≡ Ok tt → Marked (marks_of r) a → PickAllows r t a answer r'
      → (answer ≡ (Ok PickAnswer.AlreadyMarked)) × (r' ≡ r)
  pick_finds_it_marked a e m o = picks.pick_determined r t a o (PickAllows.already_marked e m)

  pub pick_leaves_it : (a : ℕ) {answer : Result PickAnswer Refusal} {r' : MarkRecord} → pick_fault r t a ≡ Ok tt → Unmarked (marks_of r) a
      → (CanBeMarked (rules_of t) (marks_of r) a → ⊥) → PickAllows r t a answer r' → (answer ≡ (Ok PickAnswer.CannotBeMarkedNow)) × (r' ≡ r)
  pick_leaves_it a e u n o = picks.pick_determined r t a o (PickAllows.cannot_be_marked_now e u n)

  -- settled question: 1, 17, 2, words; it alters nothing
  pub settled_determined : {x y : Decided} → SettledAllows r t x → SettledAllows r t y → x ≡ y
  settled_determined o o' = picks.settled_determined r t o o'

  pub settled_refused : {f : Refusal} {answer : Decided} → settled_fault r t ≡ Err f → SettledAllows r t answer → answer ≡ Err f
  settled_refused e o = picks.settled_determined r t o (QuestionAllows.refused e)

  pub settled_yes : {answer : Decided} → settled_fault r t ≡ Ok tt
      → Settled (rules_of t) (marks_of r) → SettledAllows r t answer → answer ≡ Ok true
  settled_yes e s o = picks.settled_determined r t o (QuestionAllows.answers_yes e s)

  pub settled_no : {answer : Decided} → settled_fault r t ≡ Ok tt
      → (Settled (rules_of t) (marks_of r) → ⊥) → SettledAllows r t answer → answer ≡ Ok false
  settled_no e n o = picks.settled_determined r t o (QuestionAllows.answers_no e n)

  -- report: 1, 17, 2, 3, words, 18; a refusal alters nothing
  pub report_determined : (room : List ℕ) {x y : Checked} {room' room'' : List ℕ}
      → ReportAllows r t room x room' → ReportAllows r t room y room'' → (x ≡ y) × (room' ≡ room'')
  report_determined room o o' = picks.report_determined r t room o o'

  pub report_refused : (room : List ℕ) {f : Refusal} {answer : Checked} {room' : List ℕ} → report_fault r t (length room) ≡ Err f
      → ReportAllows r t room answer room' → (answer ≡ Err f) × (room' ≡ room)
  report_refused room e o = picks.report_determined r t room o (ReportAllows.refused e)

  pub report_before_settled : (room : List ℕ) {answer : Checked} {room' : List ℕ} → report_fault r t (length room) ≡ Ok tt
      → (Settled (rules_of t) (marks_of r) → ⊥) → ReportAllows r t room answer room' → (answer ≡ Err not_settled) ×
      (room' ≡ room)
  report_before_settled room e n o = picks.report_determined r t room o (ReportAllows.before_settled e n)

  pub report_of_any_marks : (room : List ℕ) {answer : Checked} {room' : List ℕ}
      → report_fault r t (length room) ≡ Ok tt → Settled (rules_of t) (marks_of r)
      → (H : Interpretation) → IsHeld (rules_of t) (marks_of r) H → ReportAllows r t room answer room'
      → (answer ≡ Ok tt) × (room' ≡ written (settled_value (marks_of r) H) r.n room)
  report_of_any_marks room e s H h o = picks.report_determined r t room o (ReportAllows.reported e s H h)

-- mark count: 1, 17; the stored number, which is that of the marks; it alters nothing
pub count_determined : (r : MarkRecord) {x y : Result ℕ Refusal} → CountAllows r x → CountAllows r y → x ≡ y
count_determined r o o' = records.count_determined r o o'

pub count_refused : (r : MarkRecord) {f : Refusal} {answer : Result ℕ Refusal}
    → record_fault r ≡ Err f → CountAllows r answer → answer ≡ Err f
count_refused r e o = records.count_determined r o (CountAllows.refused e)

pub count_counts : (r : MarkRecord) {answer : Result ℕ Refusal} → record_fault r ≡ Ok tt
    → CountAllows r answer → (answer ≡ Ok r.count) × (r.count ≡ count most_atoms (marks_of r))
count_counts r e o = (records.count_determined r o (CountAllows.counted e), (records.record_good r e).counted)

-- the question of conflict: 1, 2, words; nothing is lent to be written
pub conflict_determined : (N : ℕ) (t : List ℕ) {x y : Decided} → ConflictAllows N t x → ConflictAllows N t y → x ≡ y
conflict_determined N t o o' = question_determined o o'

pub conflict_refused : (N : ℕ) (t : List ℕ) {f : Refusal} {answer : Decided} → table_check N t ≡ Err f
    → ConflictAllows N t answer → answer ≡ Err f
conflict_refused N t e o = question_determined o (QuestionAllows.refused e)

pub conflict_yes : (N : ℕ) (t : List ℕ) {answer : Decided} → AcceptedTable N t
    → Conflict (rules_of t) → ConflictAllows N t answer → answer ≡ Ok true
conflict_yes N t e c o = question_determined o (QuestionAllows.answers_yes e c)

pub conflict_no : (N : ℕ) (t : List ℕ) {answer : Decided} → AcceptedTable N t
    → (Conflict (rules_of t) → ⊥) → ConflictAllows N t answer → answer ≡ Ok false
conflict_no N t e n o = question_determined o (QuestionAllows.answers_no e n)

-- evaluation: 1, 2, 3, words; a refusal alters nothing
pub evaluation_allows_one : (N : ℕ) (t room : List ℕ) {x y : Checked} {room' room'' : List ℕ}
    → EvaluationAllows N t room x room' → EvaluationAllows N t room y room''
    → (x ≡ y) × (room' ≡ room'')
evaluation_allows_one N t room o o' = evaluation_determined N t room o o'

pub evaluation_refused : (N : ℕ) (t room : List ℕ) {f : Refusal} {answer : Checked} {room' : List ℕ} → evaluation_fault N t
    (length room) ≡ Err f
    → EvaluationAllows N t room answer room' → (answer ≡ Err f) × (room' ≡ room)
evaluation_refused N t room e o = evaluation_determined N t room o (EvaluationAllows.refused e)

-- the host's evaluation: the same over bytes, then 4 for a lone last byte; 2^32 × number + place
pub host_evaluation_determined : (N : ℕ) (bytes room : List ℕ) {x y : ℕ} {room' room'' : List ℕ}
    → HostEvaluation N bytes room x room' → HostEvaluation N bytes room y room''
    → (x ≡ y) × (room' ≡ room'')
host_evaluation_determined N bytes room o o' = host_determined N bytes room o o'

pub host_evaluation_refused : (N : ℕ) (bytes room : List ℕ) {f : Refusal} {answer : ℕ} {room' : List ℕ}
    → host_fault N (words_in bytes) (lone_byte bytes) (length room) ≡ Err f
    → HostEvaluation N bytes room answer room' → (answer ≡ packed f) × (room' ≡ room)
host_evaluation_refused N bytes room e o = host_determined N bytes room o (HostEvaluation.refused e)

-- so an answer tells its cause: 0 if nothing refuses, else the fault that the order finds, with its number, one of the 22, in the high half and
-- its place in the low one
pub host_evaluation_tells : (N : ℕ) (bytes room : List ℕ) {answer : ℕ} {room' : List ℕ} → HostEvaluation N bytes room answer room'
    → ((host_fault N (words_in bytes) (lone_byte bytes) (length room) ≡ Ok tt) × (answer ≡ 0))
    ⊎ ((f : Refusal) × (host_fault N (words_in bytes) (lone_byte bytes) (length room) ≡ Err f)
    × (answer ≡ packed f) × (1 ≤ f.number) × (f.place < 4294967296) × HasReason f)
host_evaluation_tells = host_answer_tells

pub host_evaluation_zero : (N : ℕ) (bytes room : List ℕ) {answer : ℕ} {room' : List ℕ} → HostEvaluation N bytes room answer room'
    → (answer ≡ 0) ↔ (host_fault N (words_in bytes) (lone_byte bytes) (length room) ≡ Ok tt)
host_evaluation_zero = zero_exactly_if_accepted

-- the host's question of conflict: the same over bytes, then 4 for a lone last byte
pub host_conflict_determined : (N : ℕ) (bytes : List ℕ) {x y : ℕ} → HostConflict N bytes x → HostConflict N bytes y → x ≡ y
host_conflict_determined = host.host_conflict_determined

pub host_conflict_refused : (N : ℕ) (bytes : List ℕ) {f : Refusal} {answer : ℕ}
    → host_table_fault N (words_in bytes) (lone_byte bytes) ≡ Err f → HostConflict N bytes answer → answer ≡ packed f
host_conflict_refused N bytes e o = host.host_conflict_determined N bytes o (HostConflict.answered (QuestionAllows.refused e))

-- so an answer tells its cause: 0 that there is no conflict, 1 that there is one, else the fault that the order finds
pub host_conflict_tells : (N : ℕ) (bytes : List ℕ) {answer : ℕ} → HostConflict N bytes answer
    → ((host_table_fault N (words_in bytes) (lone_byte bytes) ≡ Ok tt) × (Conflict (rules_of (words_in bytes)) → ⊥) × (answer ≡ 0))
    ⊎ (((host_table_fault N (words_in bytes) (lone_byte bytes) ≡ Ok tt) × Conflict (rules_of (words_in bytes)) × (answer ≡ 1))
    ⊎ ((f : Refusal) × (host_table_fault N (words_in bytes) (lone_byte bytes) ≡ Err f)
    × (answer ≡ packed f) × (1 ≤ f.number) × (f.place < 4294967296) × HasReason f))
host_conflict_tells = host.conflict_answer_tells

-- the sheet reader: only 8, 10 and 11, at every place; the same again after the end or a refusal; and it ends
pub reader_determined : (s : List ℕ) (p : ℕ) (x y : Next) → x ≡ next_at s p → y ≡ next_at s p → x ≡ y
reader_determined = reader.reading_determined

pub reader_refuses : (s : List ℕ) (p : ℕ) (x : Reading) → x ≡ reading_at s p → GivesOnly x
reader_refuses s p x e = subst⁻¹ GivesOnly e (reader.gives_only_8_10_11 s p)

pub reader_same_again : (s : List ℕ) (p : ℕ) (x y : Next) → x ≡ next_at s p → y ≡ next_at s x.place → NoLiteral x.reading → y ≡ x
reader_same_again = reader.same_again

pub reader_ends : (s : List ℕ) (x : Reading) → x ≡ reading_at s (reached s 0 (length s + 1)) → NoLiteral x
reader_ends s x e = subst⁻¹ NoLiteral e (reader.reader_ends s)

module _ (s : List ℕ) (wordRoom nameRoom : ℕ) (text : List ℕ) where
  -- the sheet entry: 8, 9, then the first literal with a fault, last 15; a refusal leaves zeros in the buffers and the text as it was
  pub sheet_allows_one : {x y : SheetAnswer} {ws ws' ns ns' text' text'' : List ℕ} → SheetAllows s wordRoom nameRoom text x ws ns text'
      → SheetAllows s wordRoom nameRoom text y ws' ns' text'' → (x ≡ y) × (ws ≡ ws') × (ns ≡ ns') × (text' ≡ text'')
  sheet_allows_one o o' = sheet_determined s wordRoom nameRoom text o o'

  pub sheet_refused : {f : Refusal} {answer : SheetAnswer} {ws ns text' : List ℕ} → sheet_outcome s wordRoom nameRoom ≡ sheet.refused f
      → SheetAllows s wordRoom nameRoom text answer ws ns text'
      → (answer ≡ Err f) × (ws ≡ padded wordRoom []) × (ns ≡ padded nameRoom []) × (text' ≡ text)
  sheet_refused e o = sheet_determined s wordRoom nameRoom text o (SheetAllows.refused e)

-- the host's sheet entry: the same over bytes, surplus bytes as they were
pub host_sheet_allows_one : (s words names text : List ℕ) {x y : ℕ} {ws ws' ns ns' text' text'' : List ℕ}
    → HostSheet s words names text x ws ns text'
    → HostSheet s words names text y ws' ns' text'' → (x ≡ y) × (ws ≡ ws') × (ns ≡ ns') × (text' ≡ text'')
host_sheet_allows_one s words names text o o' = host_sheet_determined s words names text o o'

pub host_sheet_refused : (s words names text : List ℕ) {f : Refusal} {answer : ℕ} {ws ns text' : List ℕ}
    → sheet_outcome s (length words / 2) (length names / 4) ≡ sheet.refused f
    → HostSheet s words names text answer ws ns text'
    → (answer ≡ packed f) × (ws ≡ words_over (padded (length words / 2) []) words)
    × (ns ≡ names_over (padded (length names / 4) []) names) × (text' ≡ text)
host_sheet_refused s words names text e o = host_sheet_determined s words names text o (HostSheet.answered (SheetAllows.refused e))

-- so an answer tells its cause: the length of the value sheet, if the sheet is accepted and it fits, else the fault that the order finds, 15 last
pub host_sheet_tells : (s words names text : List ℕ) {answer : ℕ} {ws ns text' : List ℕ} → HostSheet s words names text answer ws ns text'
    → ((x : Sofar) × (I : Interpretation) × (sheet_outcome s (length words / 2) (length names / 4) ≡ sheet.accepted x)
    × SmallestWellSupported (rules_in x.records) I
    × (length (sheet_of s x I) ≤ length text) × (answer ≡ length (sheet_of s x I)) × (answer < 4294967296))
    ⊎ ((f : Refusal)
    × ((sheet_outcome s (length words / 2) (length names / 4) ≡ sheet.refused f)
    ⊎ ((x : Sofar) × (I : Interpretation) × (sheet_outcome s (length words / 2) (length names / 4) ≡ sheet.accepted x)
    × SmallestWellSupported (rules_in x.records) I
    × (length text < length (sheet_of s x I)) × (f ≡ text_room_too_small (length (sheet_of s x I)))))
    × (answer ≡ packed f) × (1 ≤ f.number) × (f.place < 4294967296) × HasReason f)
host_sheet_tells = answer_tells

-- ---- Demand 2. For an accepted table every atom's value is its value in the smallest well-supported model, by Definitions 5, 6, 8, 9 as printed.

-- the model is there for every accepted table
pub model_exists : (N : ℕ) (t : List ℕ) → AcceptedTable N t → (I : Interpretation) × SmallestWellSupported (rules_of t) I
model_exists N t accepted =
    let one = accepted_one_rule N t accepted in
    let m = smallest_exists (rules_of t) one in
    (m.0, (smallest_by_test (rules_of t) one m.0).0 m.1)

-- evaluation writes the codes of the values, and no byte past them
pub evaluation_values : (N : ℕ) (t room : List ℕ) {answer : Checked} {room' : List ℕ}
    → evaluation_fault N t (length room) ≡ Ok tt → EvaluationAllows N t room answer room'
    → (I : Interpretation) → SmallestWellSupported (rules_of t) I
    → (answer ≡ Ok tt) × (room' ≡ written (λ a. value I (positive a)) N room)
evaluation_values N t room e o I i =
    let one = accepted_one_rule N t (evaluated.evaluation_accepted N t (length room) e).1 in
    evaluation_determined N t room o (EvaluationAllows.evaluated e I ((smallest_by_test (rules_of t) one I).1 i))

-- and so does the host's
pub host_evaluation_values : (N : ℕ) (bytes room : List ℕ) {answer : ℕ} {room' : List ℕ}
    → host_fault N (words_in bytes) (lone_byte bytes) (length room) ≡ Ok tt
    → HostEvaluation N bytes room answer room' → (I : Interpretation) → SmallestWellSupported (rules_of (words_in bytes)) I
    → (answer ≡ 0) × (room' ≡ written (λ a. value I (positive a)) N room)
host_evaluation_values N bytes room e o I i =
    let one = accepted_one_rule N (words_in bytes) (host_accepted N (words_in bytes) (lone_byte bytes) (length room) e) in
    host_determined N bytes room o (HostEvaluation.evaluated e I ((smallest_by_test (rules_of (words_in bytes)) one I).1 i))

module _ (s : List ℕ) (wordRoom nameRoom : ℕ) (text : List ℕ) (x : Sofar) (read : sheet_outcome s wordRoom nameRoom ≡ sheet.accepted x) where
  -- the words that an accepted sheet leaves are an accepted table for the N that it answers, with the sheet's records
  pub sheet_leaves_a_table : {c : SheetCounts} {ws ns text' : List ℕ} → SheetAllows s wordRoom nameRoom text (Ok c) ws ns text'
      → AcceptedTable c.atoms (take c.words ws) × (records_of (take c.words ws) ≡ x.records)
  sheet_leaves_a_table {c} o = leaves_a_table s wordRoom nameRoom c _ _ _ (accepted_leaves s wordRoom nameRoom text o c refl) x read

  module _ (I : Interpretation) (smallest : SmallestWellSupported (rules_in x.records) I) where
    -- the value sheet by the written layout, with the values of the model ..
    pub sheet_values : {answer : SheetAnswer} {ws ns text' : List ℕ}
        → length (sheet_of s x I) ≤ length text → SheetAllows s wordRoom nameRoom text answer ws ns text'
        → (answer ≡ counts s x I) × (ws ≡ padded wordRoom (words_of x.records)) × (ns ≡ padded nameRoom x.names)
        × (text' ≡ sheet_of s x I ++ drop (length (sheet_of s x I)) text)
    sheet_values h o =
        sheet_determined s wordRoom nameRoom text o
        (SheetAllows.accepted read ((smallest_by_test (rules_in x.records) (sheet_one_rule s wordRoom nameRoom x read) I).1 smallest) h)

    -- .. or 15, where it does not fit
    pub sheet_does_not_fit : {answer : SheetAnswer} {ws ns text' : List ℕ}
        → length text < length (sheet_of s x I) → SheetAllows s wordRoom nameRoom text answer ws ns text'
        → (answer ≡ Err (text_room_too_small (length (sheet_of s x I))))
        × (ws ≡ padded wordRoom []) × (ns ≡ padded nameRoom []) × (text' ≡ text)
    sheet_does_not_fit h o =
        sheet_determined s wordRoom nameRoom text o
        (SheetAllows.does_not_fit read ((smallest_by_test (rules_in x.records) (sheet_one_rule s wordRoom nameRoom x read) I).1 smallest) h)

-- and so does the host's, over bytes
module _ (s words names text : List ℕ) (x : Sofar) (read : sheet_outcome s (length words / 2) (length names / 4) ≡ sheet.accepted x)
    (I : Interpretation) (smallest : SmallestWellSupported (rules_in x.records) I) where
  pub host_sheet_values : {answer : ℕ} {ws ns text' : List ℕ}
      → length (sheet_of s x I) ≤ length text → HostSheet s words names text answer ws ns text'
      → (answer ≡ length (sheet_of s x I)) × (ws ≡ words_over (padded (length words / 2) (words_of x.records)) words)
      × (ns ≡ names_over (padded (length names / 4) x.names) names) × (text' ≡ sheet_of s x I ++ drop (length (sheet_of s x I)) text)
  host_sheet_values h o =
      let one = sheet_one_rule s (length words / 2) (length names / 4) x read in
      host_sheet_determined s words names text o (HostSheet.answered (SheetAllows.accepted read
      ((smallest_by_test (rules_in x.records) one I).1 smallest) h))

  pub host_sheet_does_not_fit : {answer : ℕ} {ws ns text' : List ℕ}
      → length text < length (sheet_of s x I) → HostSheet s words names text answer ws ns text'
      → (answer ≡ packed (text_room_too_small (length (sheet_of s x I)))) × (ws ≡ words_over (padded (length words / 2) []) words)
      × (ns ≡ names_over (padded (length names / 4) []) names) × (text' ≡ text)
  host_sheet_does_not_fit h o =
      let one = sheet_one_rule s (length words / 2) (length names / 4) x read in
      host_sheet_determined s words names text o
      (HostSheet.answered (SheetAllows.does_not_fit read ((smallest_by_test (rules_in x.records) one I).1 smallest) h))

-- every name has its line. By the counts that the sheet entry answers and the buffers that it leaves:
module _ (s : List ℕ) (wordRoom nameRoom : ℕ) (text : List ℕ) {c : SheetCounts} {ws ns text' : List ℕ}
    (o : SheetAllows s wordRoom nameRoom text (Ok c) ws ns text') where
  left : Leaves s wordRoom nameRoom c ws ns text'
  left = accepted_leaves s wordRoom nameRoom text o c refl

  -- the names are pairwise different ..
  pub names_differ : (a b : ℕ) → a < c.atoms → b < c.atoms → name_of s (get_or ns a 0) ≡ name_of s (get_or ns b 0) → a ≡ b
  names_differ = names_left_apart s wordRoom nameRoom c ws ns text' left

  -- .. every literal of the sheet has one of them ..
  pub literal_has_a_name : (i : ℕ) (l : SheetLiteral) → reading_at s (reached s 0 i) ≡ Literal l
      → (a : ℕ) × (a < c.atoms) × (name_of s (get_or ns a 0) ≡ bytes_at s l.start l.len)
  literal_has_a_name = literal_has_name_left s wordRoom nameRoom c ws ns text' left

  -- .. none is left out, since the reader has come to the sheet's end ..
  pub sheet_is_read_to_its_end : (i : ℕ) × (reached s 0 i ≡ length s) × (reading_at s (reached s 0 i) ≡ End)
  sheet_is_read_to_its_end = read_to_the_end s wordRoom nameRoom left.sofar left.read

  -- .. and each name is that of a literal
  pub name_has_a_literal : (a : ℕ) → a < c.atoms
      → (i : ℕ) × (l : SheetLiteral) × (reading_at s (reached s 0 i) ≡ Literal l) × (name_of s (get_or ns a 0) ≡ bytes_at s l.start l.len)
  name_has_a_literal = name_left_is_written s wordRoom nameRoom c ws ns text' left

  -- the records left stand in lines 1, 2, 3, ..: each line of the sheet has its record, and none is 0
  pub sheet_records_by_line : (i : ℕ) (other : TableRecord) → i < length (records_of (take c.words ws))
      → (get_or (records_of (take c.words ws)) i other).line ≡ i + 1
  sheet_records_by_line = lines_left s wordRoom nameRoom c ws ns text' left

  -- and each head of the sheet has one in the line where it stands, with its sign and its name
  pub head_has_its_record : (i : ℕ) (l : SheetLiteral) → reading_at s (reached s 0 i) ≡ Literal l → l.role ≡ Head
      → (r : TableRecord) × (r ∈ records_of (take c.words ws)) × (r.line ≡ line_of s l.start)
      × (a : ℕ) × (r.rule.head ≡ code_for l.negated a) × (a < c.atoms) × (name_of s (get_or ns a 0) ≡ bytes_at s l.start l.len)
  head_has_its_record = head_has_record_left s wordRoom nameRoom c ws ns text' left

  module _ (I : Interpretation) (smallest : SmallestWellSupported (rules_of (take c.words ws)) I) where
    by_test : Smallest (rules_of (take c.words ws)) I
    by_test =
        let table = (leaves_a_table s wordRoom nameRoom c ws ns text' left left.sofar left.read).0 in
        (smallest_by_test _ (accepted_one_rule c.atoms (take c.words ws) table) I).1 smallest

    -- the value sheet has exactly N lines, and line a (from 0) is the bytes of atom a's name, a tab, the letter of its value, byte 10
    pub value_sheet_lines : (length (lines (take c.bytes text')) ≡ c.atoms)
        × ((a : ℕ) → a < c.atoms → get_or (lines (take c.bytes text')) a [] ≡ line_for s (get_or ns a 0) (code (value I (positive a))))
    value_sheet_lines = (as_many_lines_left s wordRoom nameRoom c ws ns text' left I by_test, line_left s wordRoom nameRoom c ws ns text' left I by_test)

    -- so no run that anybody wrote down can fall out
    pub literal_has_its_line : (i : ℕ) (l : SheetLiteral) → reading_at s (reached s 0 i) ≡ Literal l
        → (a : ℕ) × (a < length (lines (take c.bytes text')))
        × (get_or (lines (take c.bytes text')) a [] ≡ bytes_at s l.start l.len ++ (9 ∷ letter_of (code (value I (positive a))) ∷ 10 ∷ []))
    literal_has_its_line = literal_has_line_left s wordRoom nameRoom c ws ns text' left I by_test

-- and so for the host's, over bytes
module _ (s words names text : List ℕ) (x : Sofar) (read : sheet_outcome s (length words / 2) (length names / 4) ≡ sheet.accepted x)
    (I : Interpretation) (smallest : SmallestWellSupported (rules_in x.records) I) {answer : ℕ} {ws ns text' : List ℕ}
    (fits : length (sheet_of s x I) ≤ length text) (o : HostSheet s words names text answer ws ns text') where
  pub host_value_sheet_lines : (length (lines (take answer text')) ≡ length x.names)
      × ((a : ℕ) → a < length x.names → get_or (lines (take answer text')) a [] ≡ line_for s (get_or x.names a 0) (code (value I (positive a))))
  host_value_sheet_lines =
      let is = host_sheet_values s words names text x read I smallest fits o in (
        as_many_lines s (length words / 2) (length names / 4) x read I answer text' _ is.0 is.3,
        line_of_atom s (length words / 2) (length names / 4) x read I answer text' _ is.0 is.3,
      )

  pub host_literal_has_its_line : (i : ℕ) (l : SheetLiteral) → reading_at s (reached s 0 i) ≡ Literal l
      → (a : ℕ) × (a < length (lines (take answer text')))
      × (get_or (lines (take answer text')) a [] ≡ bytes_at s l.start l.len ++ (9 ∷ letter_of (code (value I (positive a))) ∷ 10 ∷ []))
  host_literal_has_its_line =
      let is = host_sheet_values s words names text x read I smallest fits o in
      literal_has_line s (length words / 2) (length names / 4) x read I answer text' _ is.0 is.3

  -- and no name stands in two lines
  pub host_names_differ : (a b : ℕ) → a < length (lines (take answer text')) → b < length (lines (take answer text'))
      → (name : List ℕ) (v w : ℕ) → get_or (lines (take answer text')) a [] ≡ name ++ (9 ∷ v ∷ 10 ∷ [])
      → get_or (lines (take answer text')) b [] ≡ name ++ (9 ∷ w ∷ 10 ∷ []) → a ≡ b
  host_names_differ =
      let is = host_sheet_values s words names text x read I smallest fits o in
      lines_differ s (length words / 2) (length names / 4) x read I answer text' _ is.0 is.3

-- ---- Demand 3. The order of work never matters: one accepted table, a fresh record, every list of picks.

-- two lists of picks that settle, with repeats and refusals, leave equal records
pub picks_end_the_same : (N : ℕ) (t : List ℕ) → AcceptedTable N t
    → {l l' : List ℕ} {r r' : MarkRecord} → Picks t (no_marks_for N) l r → Picks t (no_marks_for N) l' r'
    → Settled (rules_of t) (marks_of r) → Settled (rules_of t) (marks_of r') → r ≡ r'
picks_end_the_same = rooms.same_record

-- a pick touches no other atom's mark, and not N, whatever record and table it is lent
pub pick_touches_no_other : {r r' : MarkRecord} {t : List ℕ} {a : ℕ} {answer : Result PickAnswer Refusal} → PickAllows r t a answer r'
    → (r'.n ≡ r.n) × ((b : ℕ) → (b ≡ a → ⊥) → marks_of r' b ≡ marks_of r b)
pick_touches_no_other o = rooms.only_its_own_atom o

module _ (N : ℕ) (t : List ℕ) (accepted : AcceptedTable N t) {l : List ℕ} {r : MarkRecord} (picked : Picks t (no_marks_for N) l r) where
  -- each pick marks its own atom exactly when it may
  pub pick_marks_when_it_may : (a : ℕ) {answer : Result PickAnswer Refusal} {r' : MarkRecord} → PickAllows r t a answer r'
      → (answer ≡ (Ok PickAnswer.Marked)) ↔ CanBeMarked (rules_of t) (marks_of r) a
  pick_marks_when_it_may a o = rooms.marks_when_it_may N t accepted picked a o

  -- a pick of an atom below N, the settled question and the count are never refused, and the report with room only before settled
  pub pick_is_not_refused : (a : ℕ) → a < N → {answer : Result PickAnswer Refusal} {r' : MarkRecord}
      → PickAllows r t a answer r' → (f : Refusal) → answer ≡ Err f → ⊥
  pick_is_not_refused a lt o = rooms.pick_never_refused N t accepted picked a lt o

  pub settled_is_not_refused : {answer : Decided} → SettledAllows r t answer → (f : Refusal) → answer ≡ Err f → ⊥
  settled_is_not_refused o = rooms.settled_never_refused N t accepted picked o

  pub report_is_refused_before_settled : (room : List ℕ) → N ≤ length room
      → {answer : Checked} {room' : List ℕ} → ReportAllows r t room answer room'
      → (f : Refusal) → answer ≡ Err f → (f ≡ not_settled) × (Settled (rules_of t) (marks_of r) → ⊥)
  report_is_refused_before_settled room fits o = rooms.report_refused_before_settled N t accepted picked room fits o

  pub count_is_not_refused : {answer : Result ℕ Refusal} → CountAllows r answer → answer ≡ Ok (count most_atoms (marks_of r))
  count_is_not_refused o = rooms.count_never_refused N t accepted picked o

  module _ (settled : Settled (rules_of t) (marks_of r)) (I : Interpretation) (smallest : SmallestWellSupported (rules_of t) I) where
    -- when nothing can be marked the report is demand 2's values ..
    pub report_is_the_values : (room : List ℕ) → N ≤ length room → {answer : Checked} {room' : List ℕ} → ReportAllows r t room answer room'
        → (answer ≡ Ok tt) × (room' ≡ written (λ a. value I (positive a)) N room)
    report_is_the_values room fits o =
        rooms.report_after_picks N t accepted picked settled I ((smallest_by_test (rules_of t) (accepted_one_rule N t accepted) I).1 smallest) room fits o

    -- .. and the marks are as many as the inconsistent atoms
    pub count_is_the_inconsistent : {answer : Result ℕ Refusal} → CountAllows r answer → answer ≡ Ok (count most_atoms (inconsistent I))
    count_is_the_inconsistent o =
        rooms.count_after_picks N t accepted picked settled I ((smallest_by_test (rules_of t) (accepted_one_rule N t accepted) I).1 smallest) o

  -- until then a pass over all atoms, in any order, marks at least one
  pub pass_marks_at_least_one : (Settled (rules_of t) (marks_of r) → ⊥) → (order : List ℕ)
      → ((a : ℕ) → a < N → a ∈ order) → {r' : MarkRecord} → Picks t r order r'
      → (a : ℕ) × CanBeMarked (rules_of t) (marks_of r) a × Marked (marks_of r') a
  pass_marks_at_least_one n order all p = rooms.pass_marks_at_least_one N t accepted picked n order all p

  -- and whole evaluation is that report
  pub evaluation_is_the_report : (room : List ℕ) {answer : Checked} {x y : List ℕ}
      → EvaluationAllows N t room (Ok tt) x → Settled (rules_of t) (marks_of r)
      → ReportAllows r t room answer y → (answer ≡ Ok tt) × (x ≡ y)
  evaluation_is_the_report room {x = x} {y = y} o s w = evaluation_equals_report N t room x y o picked s w

-- so N passes settle
pub n_passes_settle : (N : ℕ) (t : List ℕ) → AcceptedTable N t → {r : MarkRecord}
    → PickPasses t N N (no_marks_for N) r → Settled (rules_of t) (marks_of r)
n_passes_settle = rooms.n_passes_settle

-- ---- Document 02, W2. Each record knows its line, and no answer depends on one.

-- what the check accepts is the words of its records, and their lines are at most 32,768
pub accepted_is_its_records : (N : ℕ) (t : List ℕ) → Ok tt ≡ table_check N t
    → (words_of (records_of t) ≡ t) × ((r : TableRecord) → r ∈ records_of t → r.line ≤ most_line)
accepted_is_its_records N t e = (words_of_records_of N t (sym e), (accepted_within N t (sym e)).each_line)

-- two accepted tables that differ only in line numbers, from each entry that is lent a table: equal answers, equal buffers
module _ (N : ℕ) (t u : List ℕ) (accepted : AcceptedTable N t) (accepted' : AcceptedTable N u) (only : OnlyLinesDiffer t u) where
  alike : Alike t u
  alike = only_lines_alike N t u accepted accepted' only

  pub check_without_lines : (M : ℕ) {x y : Checked} → x ≡ table_check M t → y ≡ table_check M u → x ≡ y
  check_without_lines M e e' = e ∙ alike.checks M ∙ sym e'

  pub pick_without_lines : (r : MarkRecord) (a : ℕ) {x y : Result PickAnswer Refusal} {r' r'' : MarkRecord}
      → PickAllows r t a x r' → PickAllows r u a y r'' → (x ≡ y) × (r' ≡ r'')
  pick_without_lines r = pick_alike r t u alike

  pub settled_without_lines : (r : MarkRecord) {x y : Decided} → SettledAllows r t x → SettledAllows r u y → x ≡ y
  settled_without_lines r = settled_alike r t u alike

  pub report_without_lines : (r : MarkRecord) (room : List ℕ) {x y : Checked} {room' room'' : List ℕ}
      → ReportAllows r t room x room' → ReportAllows r u room y room'' → (x ≡ y) × (room' ≡ room'')
  report_without_lines r = report_alike r t u alike

  pub conflict_without_lines : (M : ℕ) {x y : Decided} → ConflictAllows M t x → ConflictAllows M u y → x ≡ y
  conflict_without_lines = conflict_alike t u alike

  pub evaluation_without_lines : (M : ℕ) (room : List ℕ) {x y : Checked} {room' room'' : List ℕ}
      → EvaluationAllows M t room x room' → EvaluationAllows M u room y room'' → (x ≡ y) × (room' ≡ room'')
  evaluation_without_lines M = evaluation_alike M t u alike

-- and the host's, over bytes with or without a lone last one
module _ (N : ℕ) (b c : List ℕ) (accepted : AcceptedTable N (words_in b)) (accepted' : AcceptedTable N (words_in c))
    (only : OnlyLinesDiffer (words_in b) (words_in c)) (lone : lone_byte b ≡ lone_byte c) where
  alike_bytes : Alike (words_in b) (words_in c)
  alike_bytes = only_lines_alike N (words_in b) (words_in c) accepted accepted' only

  pub host_evaluation_without_lines : (M : ℕ) (room : List ℕ) {x y : ℕ} {room' room'' : List ℕ}
      → HostEvaluation M b room x room' → HostEvaluation M c room y room'' → (x ≡ y) × (room' ≡ room'')
  host_evaluation_without_lines M = host_alike M b c alike_bytes lone

  pub host_conflict_without_lines : (M : ℕ) {x y : ℕ} → HostConflict M b x → HostConflict M c y → x ≡ y
  host_conflict_without_lines M = host_conflict_alike M b c alike_bytes lone

-- ---- Document 02, W3. A quick yes or no on conflict: full evaluation agrees.

module _ (N : ℕ) (t : List ℕ) {answer : Decided} (o : ConflictAllows N t answer) where
  -- yes exactly if the smallest well-supported model, for orders of any kind, has an inconsistent atom
  pub conflict_exactly_if_inconsistent : AcceptedTable N t → (I : Interpretation) → SmallestWellSupported (rules_of t) I
      → (answer ≡ Ok true) ↔ ((a : ℕ) × (value I (positive a) ≡ 𝐢))
  conflict_exactly_if_inconsistent accepted I smallest =
      Iff.trans (yes_exactly_if accepted o) (paper.conflict_exactly_if_inconsistent (rules_of t) (accepted_one_rule N t accepted) I smallest)

  -- yes exactly if evaluation of the same table writes code 2 for some atom
  pub conflict_exactly_if_a_code_is_2 : (room : List ℕ) {room' : List ℕ} → EvaluationAllows N t room (Ok tt) room'
      → (answer ≡ Ok true) ↔ ((a : ℕ) × (a < N) × (get_or room' a 0 ≡ 2))
  conflict_exactly_if_a_code_is_2 room e = evaluation_codes_tell N t room o e

  -- yes exactly if a fresh record is not settled; no and refusals are the settled question's yes and refusals
  pub conflict_exactly_if_not_settled : {settled : Decided} → SettledAllows (no_marks_for N) t settled
      → ((answer ≡ Ok true) ↔ (settled ≡ Ok false)) × ((answer ≡ Ok false) ↔ (settled ≡ Ok true))
      × ((f : Refusal) → (answer ≡ Err f) ↔ (settled ≡ Err f))
  conflict_exactly_if_not_settled s = answers_tell N t o s

-- and the host's: 1 exactly if its evaluation of the same bytes writes code 2 for some atom
pub host_conflict_exactly_if_a_code_is_2 : (N : ℕ) (bytes room : List ℕ) {answer : ℕ} {room' : List ℕ}
    → HostConflict N bytes answer → HostEvaluation N bytes room 0 room' → (answer ≡ 1) ↔ ((a : ℕ) × (a < N) × (get_or room' a 0 ≡ 2))
host_conflict_exactly_if_a_code_is_2 = host_codes_tell

-- ---- Document 02, W4. Which group did it: what Held and Clean ask of each body (least::which_group), and the reason that the answer names.

module _ (S : ℕ → Bool) (ρ : Rule) {which : Option ℕ} (o : WhichAllows S ρ.groups which) where
  -- one answer for each set and body
  pub which_group_determined : {which' : Option ℕ} → WhichAllows S ρ.groups which' → which ≡ which'
  which_group_determined = which_determined S o

  -- for any set of literals that stand before the head, by an order of any kind
  module _ (I : Interpretation) (before : ℕ → ℕ → Type 0) (earlier : (ι : ℕ) → T (S ι) → before ι ρ.head)
      (g : ℕ) (is_number : which ≡ Some g) where
    answer : WhichAllows S ρ.groups (Some g)
    answer = subst (WhichAllows S ρ.groups) is_number o

    -- all of them t: the fact or group of that number, and so the rule, is supported (Definition 8, conditions 6 and 7)
    pub which_group_supports : ((ι : ℕ) → T (S ι) → value I ι ≡ 𝐭)
        → (σ : Rule) × OnlyGroup ρ g σ × Supports I before σ × Supports I before ρ
    which_group_supports all-t =
        let q = which→supports I before ρ S earlier all-t answer in
        (q.0, q.1, q.2, only→supports I before ρ q.1 q.2)

    -- all of them in I, and the body i: the group of that number, and so the rule, carries i (condition 8)
    pub which_group_carries_𝐢 : S ⊆ I → body_value I ρ.groups ≡ 𝐢
        → (σ : Rule) × OnlyGroup ρ g σ × Carries I before σ 𝐢 × Carries I before ρ 𝐢
    which_group_carries_𝐢 inside body =
        let q = which→carries_𝐢 I before ρ S earlier inside body answer in
        (q.0, q.1, q.2, only→carries I before ρ q.1 q.2)

    -- so clean literals of a settled marking support, and held ones carry i, in the interpretation that it gives
    module _ (R : List Rule) (A : Marks) (is_held_lem : IsHeld R A I) where
      pub which_clean_group_supports : Settled R A → ((ι : ℕ) → T (S ι) → Clean R A ι)
          → (σ : Rule) × OnlyGroup ρ g σ × Supports I before σ × Supports I before ρ
      which_clean_group_supports settled clean = which_group_supports (λ ι m. clean→𝐭 R A I is_held_lem settled ι (clean ι m))

      pub which_held_group_carries_𝐢 : ((ι : ℕ) → T (S ι) → Held R A ι) → body_value I ρ.groups ≡ 𝐢
          → (σ : Rule) × OnlyGroup ρ g σ × Carries I before σ 𝐢 × Carries I before ρ 𝐢
      which_held_group_carries_𝐢 held = which_group_carries_𝐢 (λ ι m. (is_held_lem ι).1 (held ι m))

-- ---- Document 02, W5. The reason sheet, and a checker that anybody can run.

-- the writer: 1, 2, words, 15; the checker: 1, 2, 3, words, 20, 21, 34, 22, else accepted. Each has one outcome for what it is lent
pub reasons_allows_one : (N : ℕ) (t room : List ℕ) {x y : Result ℕ Refusal} {room' room'' : List ℕ}
    → ReasonsAllows N t room x room' → ReasonsAllows N t room y room'' → (x ≡ y) × (room' ≡ room'')
reasons_allows_one N t room = reasons_determined N t room

pub reason_check_allows_one : (N : ℕ) (t values text : List ℕ) {x y : Checked} → CheckAllows N t values text x → CheckAllows N t values text y
    → x ≡ y
reason_check_allows_one N t values text = reason-check-determined N t values text

-- and so the host's, over bytes, then 4 for a lone last byte
pub host_reasons_allows_one : (N : ℕ) (bytes room : List ℕ) {x y : ℕ} {room' room'' : List ℕ}
    → HostReasons N bytes room x room' → HostReasons N bytes room y room'' → (x ≡ y) × (room' ≡ room'')
host_reasons_allows_one N bytes room = host_reasons_determined N bytes room

pub host_check_allows_one : (N : ℕ) (bytes values text : List ℕ) {x y : ℕ} → HostCheck N bytes values text x → HostCheck N bytes values text y
    → x ≡ y
host_check_allows_one N bytes values text = host_check_determined N bytes values text

-- so an answer tells its cause: 0 that the checker accepts, else the fault that the order finds
pub host_check_tells : (N : ℕ) (bytes values text : List ℕ) {answer : ℕ} → HostCheck N bytes values text answer
    → ((host_fault N (words_in bytes) (lone_byte bytes) (length values) ≡ Ok tt) × CheckAllows N (words_in bytes) values text (Ok tt) ×
    (answer ≡ 0))
    ⊎ ((f : Refusal) × ReadsAs answer f × ((host_fault N (words_in bytes) (lone_byte bytes) (length values) ≡ Err f)
    ⊎ ((host_fault N (words_in bytes) (lone_byte bytes) (length values) ≡ Ok tt) × CheckAllows N (words_in bytes) values text (Err f)))
    × HasReason f)
host_check_tells N bytes values text = check_answer_tells N bytes values text

-- a room of the length that the writer asks for by 15 serves it
pub asked_length_serves : (N : ℕ) (t none room : List ℕ) {y : Result ℕ Refusal} {k : ℕ} {none' room' : List ℕ} → AcceptedTable N t
    → ReasonsAllows N t none (Err (text_room_too_small k)) none' → k ≤ length room → ReasonsAllows N t room y room' → y ≡ Ok k
asked_length_serves N t none room accepted o le o' = learnt_length_serves N t none room o refl le o' accepted

-- (a) the writer's sheet with evaluation's values is always accepted
pub own_sheet_is_accepted : (N : ℕ) (t room values-room : List ℕ) {k : ℕ} {room' values : List ℕ} {answer : Checked}
    → ReasonsAllows N t room (Ok k) room' → EvaluationAllows N t values-room (Ok tt) values
    → CheckAllows N t values (take k room') answer → answer ≡ Ok tt
own_sheet_is_accepted N t room values-room {k} {room'} {values} o e c =
    reason-check-determined N t values (take k room') c (own_sheet_accepted N t room values-room o refl e)

-- (b) for every N, accepted table and value codes: what they give is well-supported, with an order of any kind, exactly if some text is accepted
module _ (N : ℕ) (t values : List ℕ) (accepted : AcceptedTable N t) (enough : N ≤ length values)
    (codes : (a : ℕ) → a < N → get_or values a 0 ≤ 3) where
  fine : check_fault N t values ≡ Ok tt
  fine = sound_check N t values accepted (record { enough = enough; at_most_3 = codes })

  pub well_supported_has_a_sheet : WellSupported (rules_of t) (given N values) → (text : List ℕ) × CheckAllows N t values text (Ok tt)
  well_supported_has_a_sheet w = let q = well_supported→accepted N t values fine w in (q.0, q.2)

  pub a_sheet_makes_well_supported : ((text : List ℕ) × CheckAllows N t values text (Ok tt)) → WellSupported (rules_of t) (given N values)
  a_sheet_makes_well_supported q =
      let s = accepted→well_supported N t values q.0 q.1 in (SmallerRank s.0, s.2)

  -- (d) and then one of at most 18,432 bytes is
  pub a_short_sheet_is_enough : (text : List ℕ) → CheckAllows N t values text (Ok tt)
      → (short : List ℕ) × (length short ≤ most_reason_bytes) × CheckAllows N t values short (Ok tt)
  a_short_sheet_is_enough text o =
      well_supported→accepted N t values fine (a_sheet_makes_well_supported (text, o))

-- the writer's own sheet has no more
pub own_sheet_is_short : (N : ℕ) (t room : List ℕ) {k : ℕ} {room' : List ℕ} → ReasonsAllows N t room (Ok k) room' → k ≤ most_reason_bytes
own_sheet_is_short N t room o = own_sheet_short N t room o refl

-- (c) an accepted text's ranks are such an order
pub accepted_ranks_are_an_order : (N : ℕ) (t values text : List ℕ) → CheckAllows N t values text (Ok tt)
    → (ls : List ReasonLine) × IsReasonText text ls × WellSupportedBy (rules_of t) (given N values) (SmallerRank ls)
accepted_ranks_are_an_order = accepted→well_supported

-- (f) lines of records never matter to either
module _ (N : ℕ) (t u : List ℕ) (accepted : AcceptedTable N t) (accepted' : AcceptedTable N u) (only : OnlyLinesDiffer t u) where
  pub reasons_without_lines : (M : ℕ) (room : List ℕ) {x y : Result ℕ Refusal} {room' room'' : List ℕ}
      → ReasonsAllows M t room x room' → ReasonsAllows M u room y room'' → (x ≡ y) × (room' ≡ room'')
  reasons_without_lines M room = reasons_alike M t u room (only_lines_alike N t u accepted accepted' only)

  pub reason_check_without_lines : (M : ℕ) (values text : List ℕ) {x y : Checked} → CheckAllows M t values text x → CheckAllows M u values text y
      → x ≡ y
  reason_check_without_lines M values text = check_alike M t u values text (only_lines_alike N t u accepted accepted' only)

module _ (N : ℕ) (b c : List ℕ) (accepted : AcceptedTable N (words_in b)) (accepted' : AcceptedTable N (words_in c))
    (only : OnlyLinesDiffer (words_in b) (words_in c)) (lone : lone_byte b ≡ lone_byte c) where
  pub host_reasons_without_lines : (M : ℕ) (room : List ℕ) {x y : ℕ} {room' room'' : List ℕ}
      → HostReasons M b room x room' → HostReasons M c room y room'' → (x ≡ y) × (room' ≡ room'')
  host_reasons_without_lines M = host_reasons_alike M b c (only_lines_alike N (words_in b) (words_in c) accepted accepted' only) lone

  pub host_check_without_lines : (M : ℕ) (values text : List ℕ) {x y : ℕ} → HostCheck M b values text x → HostCheck M c values text y → x ≡ y
  host_check_without_lines M = host_check_alike M b c (only_lines_alike N (words_in b) (words_in c) accepted accepted' only) lone

-- ---- Document 02, W6. The count on the live page: it stands in the record and is true after each operation.

-- a fresh record, refused or not, counts none
pub fresh_counts_none : (N : ℕ) {answer : Checked} {r : MarkRecord} → FreshAllows N answer r → (r.count ≡ 0) × (count most_atoms (marks_of r) ≡ 0)
fresh_counts_none N (FreshAllows.fresh e) = (refl, sym (records.none_counted N))
fresh_counts_none N (FreshAllows.refused e) = (refl, sym (records.none_counted 0))

-- whatever record and table a pick is lent, it counts one more exactly where it answers `marked`, and else leaves the record as it was ..
pub count_follows_the_answer : {r r' : MarkRecord} {t : List ℕ} {a : ℕ} {answer : Result PickAnswer Refusal} → PickAllows r t a answer r'
    → ((answer ≡ (Ok PickAnswer.Marked)) × (r'.count ≡ r.count + 1)) ⊎ ((answer ≡ (Ok PickAnswer.Marked) → ⊥) × (r' ≡ r))
count_follows_the_answer = counted.answer_tells_count

-- .. so that a count that was the number of marks is so afterwards
pub pick_keeps_the_count_true : {r r' : MarkRecord} {t : List ℕ} {a : ℕ} {answer : Result PickAnswer Refusal}
    → length r.marks ≡ 8 → r.count ≡ count most_atoms (marks_of r) → PickAllows r t a answer r' → r'.count ≡ count most_atoms (marks_of r')
pick_keeps_the_count_true eight is o = (counted.pick_counted (record { eight = eight; true_count = is }) o).true_count

-- a record with another count is refused by 17 by every entry that is lent one, whatever else is wrong with what it is lent, and nothing is repaired
module _ (r : MarkRecord) (le : r.n ≤ most_atoms) (wrong : r.count ≡ count most_atoms (marks_of r) → ⊥) where
  pub wrong_count_is_17_of_pick : (t : List ℕ) (a : ℕ) {answer : Result PickAnswer Refusal} {r' : MarkRecord} → PickAllows r t a answer r'
      → (answer ≡ Err broken_record) × (r' ≡ r)
  unfolding pick_fault
  wrong_count_is_17_of_pick t a o = let e : pick_fault r t a ≡ Err broken_record = rw (records.wrong_count r le wrong) in pick_refused r t a e o

  pub wrong_count_is_17_of_settled : (t : List ℕ) {answer : Decided} → SettledAllows r t answer → answer ≡ Err broken_record
  unfolding settled_fault
  wrong_count_is_17_of_settled t o = let e : settled_fault r t ≡ Err broken_record = rw (records.wrong_count r le wrong) in settled_refused r t e o

  pub wrong_count_is_17_of_report : (t room : List ℕ) {answer : Checked} {room' : List ℕ} → ReportAllows r t room answer room'
      → (answer ≡ Err broken_record) × (room' ≡ room)
  unfolding report_fault
  wrong_count_is_17_of_report t room o =
      let e : report_fault r t (length room) ≡ Err broken_record = rw (records.wrong_count r le wrong) in
      report_refused r t room e o

  pub wrong_count_is_17_of_count : {answer : Result ℕ Refusal} → CountAllows r answer → answer ≡ Err broken_record
  wrong_count_is_17_of_count o = count_refused r (records.wrong_count r le wrong) o

-- after any list of picks from a fresh record, whatever the table, the stored count is the number of marks ..
pub stored_count_is_the_marks : (N : ℕ) (t : List ℕ) {l : List ℕ} {r : MarkRecord} → Picks t (no_marks_for N) l r
    → r.count ≡ count most_atoms (marks_of r)
stored_count_is_the_marks N t picked = (counted.picks_counted (counted.fresh_counted N) picked).true_count

module _ (N : ℕ) (t : List ℕ) (accepted : AcceptedTable N t) {l : List ℕ} {r : MarkRecord} (picked : Picks t (no_marks_for N) l r) where
  -- .. and, when settled, that of the inconsistent atoms
  pub stored_count_is_the_inconsistent : Settled (rules_of t) (marks_of r) → (I : Interpretation) → SmallestWellSupported (rules_of t) I
      → r.count ≡ count most_atoms (inconsistent I)
  stored_count_is_the_inconsistent settled I smallest =
      rooms.stored_after_picks N t accepted picked settled I ((smallest_by_test (rules_of t) (accepted_one_rule N t accepted) I).1 smallest)

  -- picks are settled by the time N marks are counted
  pub picks_settle_at_full_count : r.count ≡ N → Settled (rules_of t) (marks_of r)
  picks_settle_at_full_count = rooms.settled_when_all_counted N t accepted picked

-- a record that the entries take and whose count is N is settled for every accepted table for N, and the settled question says so
pub full_count_is_settled : (r : MarkRecord) → record_fault r ≡ Ok tt → r.count ≡ r.n → (t : List ℕ) → AcceptedTable r.n t
    → Settled (rules_of t) (marks_of r)
full_count_is_settled = counted.all_counted_settled

pub settled_says_yes_at_full_count : (r : MarkRecord) (t : List ℕ) → settled_fault r t ≡ Ok tt → r.count ≡ r.n
    → {answer : Decided} → SettledAllows r t answer → answer ≡ Ok true
settled_says_yes_at_full_count r t e full o =
    let p = asked.settled_accepted r t e in
    settled_yes r t e (full_count_is_settled r p.0 full t p.1) o

-- so an evaluation is always settled by the time all N atoms are marked: 19, which is retired, had nothing to refuse ..
pub evaluation_always_settles : (N : ℕ) (t : List ℕ) → AcceptedTable N t → (A : Marks) → Marking (rules_of t) N A → Settled (rules_of t) A
evaluation_always_settles = always_settles

-- .. and evaluation refuses nothing but the fault that the order finds
pub evaluation_refuses_faults_alone : (N : ℕ) (t room : List ℕ) {f : Refusal} {room' : List ℕ} → EvaluationAllows N t room (Err f) room'
    → evaluation_fault N t (length room) ≡ Err f
evaluation_refuses_faults_alone N t room {f} {room'} o = (refused_is N t room room' (Err f) f o refl).0
