-- Stage: the sheet that the writer picks: a line for each literal that has one, in literal code order.
use Rattle.std.specs.Prelude.{cond, List, [], map, ℕ, ◌*◌, ◌≤◌, ◌<◌, length, Ok, Err, Result}
use Rattle.std.proofs.lemmas.List.Edits.{sets}
use Rattle.refusal.specs.Numbers.{text_room_too_small}
use Rattle.paper.specs.Rules.{Rule}
use Rattle.paper.specs.Marking.{Marks}
use Rattle.bits.specs.Sets.{member}
use Rattle.reasontext.specs.ReasonSheet.{ReasonLine, line, line_text, reason_text}
use Rattle.ranks.specs.declared.Found.{Found}
use Rattle.ranks.specs.Found.{rank_of, head_of, group_of, reasons_found}
use Rattle.reasoncheck.specs.ReasonCheck.{literals_below}
use Rattle.refusal.specs.declared.Refusal.{Refusal}

abbrev pub line_found : Found → ℕ → ReasonLine
line_found found l = line l (rank_of found l) (head_of found l) (group_of found l)

-- the lines of the literals below n
unfoldable pub lines_found : Found → ℕ → List ReasonLine
lines_found found n = map (line_found found) (literals_below (member found.ranked) n)

-- what literal l adds to the text
unfoldable pub text_if : Found → ℕ → List ℕ
text_if found l = cond (member found.ranked l) (line_text (line_found found l)) []

-- the sheet of N atoms, for rules and a settled marking of them
unfoldable pub sheet_by : ℕ → List Rule → Marks → List ℕ
sheet_by N R A = reason_text (lines_found (reasons_found R A) (2 * N))

-- a sheet is written where it fits, and its length answered
pub data Printed (sheet room : List ℕ) : Result ℕ Refusal → List ℕ → Type 0 where
  does_not_fit : length room < length sheet → Printed sheet room (Err (text_room_too_small (length sheet))) room
  fits : length sheet ≤ length room → Printed sheet room (Ok (length sheet)) (sets room 0 sheet)
