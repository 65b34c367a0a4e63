-- Stage: an answer as one number for tests: below 2^32 what it says, from there on a refusal.
use Rattle.std.specs.Prelude.{◌≡◌, ℕ, ◌+◌, ◌*◌, ◌%◌, ◌^◌, Bool, cond, List, [], ◌∷◌, Ok, Err, Some, None, Option, Result}
use Rattle.refusal.specs.declared.Refusal.{Refusal}
use Rattle.refusal.specs.Checks.{Checked, Decided}
use Rattle.records.specs.Records.{FreshAllows, CountAllows}
use Rattle.picks.specs.Entries.{PickAllows, SettledAllows, ReportAllows}
use Rattle.records.specs.declared.MarkRecord.{MarkRecord}
use Rattle.conflict.specs.Conflict.{ConflictAllows}
use Rattle.paper.specs.Rules.{Rule}
use Rattle.words.specs.Layout.{rules_of}
use Rattle.words.specs.Check.{table_check, AcceptedTable}
use Rattle.least.specs.Groups.{WhichAllows}
use Rattle.evaluation.specs.Evaluation.{EvaluationAllows}
use Rattle.reader.specs.declared.Role.{Role}
use Rattle.reader.specs.declared.SheetLiteral.{SheetLiteral}
use Rattle.reader.specs.declared.Reading.{Reading}
use Rattle.sheets.specs.SheetEntry.{SheetAllows, SheetAnswer}
use mathlib.Core.Bool.{true, false}
use Rattle.picks.specs.declared.PickAnswer.{PickAnswer}

-- 2^32 × number + place, taken modulo 2^64: nothing is lost while both are below 2^32
unfoldable pub packed_wrapping : Refusal → ℕ
packed_wrapping r = ((r.number * 2 ^ 32) % 2 ^ 64 + r.place) % 2 ^ 64

-- done or refused
abbrev pub checked_number : Checked → ℕ
checked_number (Ok tt) = 0
checked_number (Err r) = packed_wrapping r

-- a number or refused
abbrev pub numbered_number : Result ℕ Refusal → ℕ
numbered_number (Ok n) = n
numbered_number (Err r) = packed_wrapping r

-- yes or no or refused
abbrev pub decided_number : Decided → ℕ
decided_number (Ok false) = 0
decided_number (Ok true) = 1
decided_number (Err r) = packed_wrapping r

abbrev pub pick_number : Result PickAnswer Refusal → ℕ
pick_number (Ok PickAnswer.Marked) = 0
pick_number (Ok PickAnswer.AlreadyMarked) = 1
pick_number (Ok PickAnswer.CannotBeMarkedNow) = 2
pick_number (Err r) = packed_wrapping r

-- the record's entries: what crates/picks allows, packed; N, marks and count afterwards where they are lent
pub data FreshPacked (asked : ℕ) : ℕ → ℕ → List ℕ → ℕ → Type 0 where
  answers : {a : Checked} {r : MarkRecord} → FreshAllows asked a r → FreshPacked asked (checked_number a) r.n r.marks r.count

pub data PickPacked (r : MarkRecord) (t : List ℕ) (atom : ℕ) : ℕ → ℕ → List ℕ → ℕ → Type 0 where
  answers : {a : Result PickAnswer Refusal} {after : MarkRecord} → PickAllows r t atom a after
      → PickPacked r t atom (pick_number a) after.n after.marks after.count

pub data SettledPacked (r : MarkRecord) (t : List ℕ) : ℕ → Type 0 where
  answers : {a : Decided} → SettledAllows r t a → SettledPacked r t (decided_number a)

pub data ReportPacked (r : MarkRecord) (t room : List ℕ) : ℕ → List ℕ → Type 0 where
  answers : {a : Checked} {values : List ℕ} → ReportAllows r t room a values → ReportPacked r t room (checked_number a) values

pub data CountPacked (r : MarkRecord) : ℕ → Type 0 where
  answers : {a : Result ℕ Refusal} → CountAllows r a → CountPacked r (numbered_number a)

-- the question of conflict: what crates/conflict allows, packed
pub data ConflictPacked (N : ℕ) (t : List ℕ) : ℕ → Type 0 where
  answers : {a : Decided} → ConflictAllows N t a → ConflictPacked N t (decided_number a)

-- which group: its number, 65 for none
abbrev pub which_number : Option ℕ → ℕ
which_number (Some g) = g
which_number None = 65

-- what crates/least allows of the first rule of an accepted table, packed; 66 where it has none
pub data WhichPacked (N : ℕ) (t : List ℕ) (S : ℕ → Bool) : ℕ → Type 0 where
  refused : {f : Refusal} → table_check N t ≡ Err f → WhichPacked N t S (packed_wrapping f)
  no_rule : AcceptedTable N t → rules_of t ≡ [] → WhichPacked N t S 66
  answers : {ρ : Rule} {R : List Rule} {w : Option ℕ} → AcceptedTable N t → rules_of t ≡ ρ ∷ R → WhichAllows S ρ.groups w
      → WhichPacked N t S (which_number w)

-- whole evaluation: what crates/evaluation allows, packed
pub data EvaluationPacked (N : ℕ) (t room : List ℕ) : ℕ → List ℕ → Type 0 where
  answers : {a : Checked} {values : List ℕ} → EvaluationAllows N t room a values → EvaluationPacked N t room (checked_number a) values

-- a literal by its role and sign
abbrev pub role_number : Role → ℕ
role_number Role.Head = 2
role_number Role.First = 4
role_number Role.Further = 6

abbrev pub literal_number : SheetLiteral → ℕ
literal_number l = cond l.negated (role_number l.role + 1) (role_number l.role)

-- a reading: 0 at the end
abbrev pub reading_number : Reading → ℕ
reading_number Reading.End = 0
reading_number (Reading.Refused r) = packed_wrapping r
reading_number (Reading.Literal l) = literal_number l

-- the place and the length of its name, 0 where there is none
abbrev pub name_start : Reading → ℕ
name_start Reading.End = 0
name_start (Reading.Refused r) = 0
name_start (Reading.Literal l) = l.start

abbrev pub name_length : Reading → ℕ
name_length Reading.End = 0
name_length (Reading.Refused r) = 0
name_length (Reading.Literal l) = l.len

-- the sheet entry: the value sheet's length; N and the words filled, 0 after a refusal
abbrev pub sheet_number : SheetAnswer → ℕ
sheet_number (Ok counts) = counts.bytes
sheet_number (Err r) = packed_wrapping r

abbrev pub sheet_atoms : SheetAnswer → ℕ
sheet_atoms (Ok counts) = counts.atoms
sheet_atoms (Err r) = 0

abbrev pub sheet_words : SheetAnswer → ℕ
sheet_words (Ok counts) = counts.words
sheet_words (Err r) = 0

pub data SheetPacked (s : List ℕ) (wordRoom nameRoom : ℕ) (text : List ℕ) : ℕ → List ℕ → List ℕ → List ℕ → ℕ → ℕ → Type 0 where
  answers : {a : SheetAnswer} {words names after : List ℕ} → SheetAllows s wordRoom nameRoom text a words names after
      → SheetPacked s wordRoom nameRoom text (sheet_number a) words names after (sheet_atoms a) (sheet_words a)
