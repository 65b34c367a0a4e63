-- A refused sheet's number and place have room in the answer, and the answer tells its cause. Assumes nothing.
use mathlib.Core.Bool.{Bool, true, false, not, cond, ◌&&◌}
use mathlib.Core.List.{List, [], ◌∷◌}
use mathlib.Core.Logic.{◌⊎◌, inl, inr}
use mathlib.Core.Path.{◌≡◌, refl, subst}
use Prim.Native.Nat.{ℕ, zero, suc, ◌+◌, ◌*◌, ◌/◌, ◌≤◌, ◌<◌}
use native.Mathlib.Omega.{arith}
use lib.Dec.{leb, eqb}
use lib.ListN.{length, drop}
use borrow.Author.Tests.{leb-true}
use Rattle.words.specs.Layout.{rules_in}
use Rattle.refusal.proofs.Laws.{demanding_holds}
use Rattle.refusal.specs.declared.Refusal.{Refusal}
use Rattle.refusal.specs.declared.Reason.TheVariants.{TextRoomTooSmall}
use Rattle.refusal.specs.Numbers.{text_room_too_small}
use Rattle.paper.specs.Table1.{code}
use Rattle.paper.specs.Rules.{positive}
use Rattle.paper.specs.Definitions.{Interpretation, value, Smallest, SmallestWellSupported}
use Rattle.paper.proofs.Theorems.{smallest_by_test}
use Rattle.refusal.specs.Checks.{Checked, demanding}
use Rattle.refusal.proofs.Places.{PlacesTo, asking_to, Small}
use Rattle.refusal.proofs.Reasons.{HasReason, small_has_reason}
use Rattle.reader.specs.declared.Role.{Role}
use Rattle.reader.specs.declared.Role.TheVariants.{Head, First, Further}
use Rattle.reader.specs.declared.SheetLiteral.{SheetLiteral}
use Rattle.reader.specs.declared.Reading.{Reading}
use Rattle.reader.specs.declared.Reading.TheVariants.{End, Refused as NotRead, Literal}
use Rattle.reader.specs.Sheet.{byte_at, is_line_end, is_tab, is_space, is_minus, starts_name, name_run, may_follow, byte_before}
use Rattle.reader.specs.Readings.{ended_name, name_at, literal_at, line_at, reading_after, reading_at, place_after}
use Rattle.reader.proofs.Laws.{literal_read}
use Rattle.literals.specs.Literals.{Sofar, nothing, after, literal_fault, fault_with}
use Rattle.sheetwords.specs.Sheets.{Outcome, accepted, refused, unless, by_reading, sheet_from, sheet_outcome}
use Rattle.sheetwords.proofs.Laws.{sheet_within}
use Rattle.valuesheet.specs.Fitting.{bytes_for}
use Rattle.valuesheet.proofs.Printing.{lines_length}
use Rattle.sheets.specs.SheetEntry.{SheetAllows, sheet_of, SheetAnswer}
use Rattle.sheets.proofs.Laws.{sheet_one_rule}
use Rattle.host.specs.Evaluation.{packed}
use Rattle.host.specs.WholeWords.{Packable}
use Rattle.hostsheet.specs.Rooms.{HasRoom}
use Rattle.hostsheet.specs.SheetBytes.{HostSheet}
use Rattle.std.specs.Prelude.{Ok, Err}

-- no refusal's place is further than this: a name's 25th byte, just past the longest sheet
abbrev furthest : ℕ
furthest = 65561

-- the reader's refusals
abbrev SmallReading : Reading → Type 0
SmallReading End = Unit {0}
SmallReading (NotRead f) = Small furthest f
SmallReading (Literal l) = Unit {0}

cond_small : (b : Bool) (x y : Reading) → SmallReading x → SmallReading y → SmallReading (cond b x y)
cond_small true x y h k = h
cond_small false x y h k = k

ended_small : (s : List ℕ) (q n : ℕ) (negated : Bool) (role : Role) → q ≤ 65537 → SmallReading (ended_name s q n negated role)
unfolding ended_name
ended_small s q n negated role h =
    demanding_holds SmallReading NotRead (leb n 24) _ _ (omega arith, omega arith, omega arith)
    (λ e. demanding_holds SmallReading NotRead (may_follow role (byte_at s (q + n))) _ _
    (omega arith, omega (arith, leb-true n 24 e), omega arith) (λ e'. tt))

name_small : (s : List ℕ) (q : ℕ) (negated : Bool) (role : Role) → q ≤ 65537 → SmallReading (name_at s q negated role)
unfolding name_at
name_small s q negated role h =
    demanding_holds SmallReading NotRead (starts_name (byte_at s q)) _ _
    (omega arith, omega arith, omega arith) (λ e. ended_small s q (name_run (drop q s)) negated role h)

literal_small : (s : List ℕ) (p : ℕ) (role : Role) → p ≤ 65536 → SmallReading (literal_at s p role)
unfolding literal_at
literal_small s p role h = cond_small (is_minus (byte_at s p)) _ _ (name_small s (p + 1) true role (omega arith)) (name_small s p false role (omega arith))

after_small : (s : List ℕ) (p : ℕ) → p ≤ 65536 → SmallReading (reading_after (byte_before s p) s p)
unfolding reading_after line_at
after_small s p h =
    cond_small (is_line_end (byte_before s p)) _ _ (cond_small (eqb p (length s)) _ _ tt (literal_small s p Head h))
    (cond_small (is_tab (byte_before s p)) _ _ (literal_small s p First h)
    (cond_small (is_space (byte_before s p)) _ _ (literal_small s p Further h) (omega arith, omega arith, omega arith)))

reading_small : (s : List ℕ) (p : ℕ) → SmallReading (reading_at s p)
unfolding reading_at
reading_small s p =
    demanding_holds SmallReading NotRead (leb (length s) 65536) _ _ (omega arith, omega arith, omega arith)
    (λ e. let short = leb-true (length s) 65536 e in
    demanding_holds SmallReading NotRead (leb p (length s)) _ _ (omega arith, omega arith, omega arith)
    (λ e'. after_small s p (omega (arith, leb-true p (length s) e'))))

-- the refusals of a sheet's literals
abbrev SmallOutcome : Outcome → Type 0
SmallOutcome (accepted x) = Unit {0}
SmallOutcome (refused f) = Small furthest f

fault_small : (names : ℕ) (repeated : Bool) (body words p q : ℕ) → p ≤ furthest
    → q ≤ furthest → PlacesTo furthest (fault_with names repeated body words p q)
unfolding fault_with
fault_small names repeated body words p q h k =
    asking_to furthest (leb names 512) _ _ (omega arith, k, omega arith)
    (asking_to furthest (not repeated) _ _ (omega arith, h, omega arith)
    (asking_to furthest (leb body 64) _ _ (omega arith, h, omega arith) (asking_to furthest (leb words 8192) _ _ (omega arith, h, omega arith) tt)))

literal_fault_small : (s : List ℕ) (p : ℕ) (sofar : Sofar) (l : SheetLiteral)
    → p ≤ furthest → l.start ≤ furthest → PlacesTo furthest (literal_fault s p sofar l)
unfolding literal_fault
literal_fault_small s p sofar l h k = fault_small _ _ _ _ p l.start h k

unless_small : (c : Checked) (o : Outcome) → PlacesTo furthest c → SmallOutcome o → SmallOutcome (unless c o)
unless_small (Ok tt) o h k = k
unless_small (Err f) o h k = h

step_small : (s : List ℕ) (n p : ℕ) (sofar : Sofar) → ((q : ℕ) (x : Sofar) → SmallOutcome (sheet_from n s q x))
    → (r : Reading) → reading_at s p ≡ r → SmallOutcome (by_reading s p sofar r (sheet_from n s (place_after r p)))
step_small s n p sofar onward End is = tt
step_small s n p sofar onward (NotRead f) is = subst SmallReading is (reading_small s p)
step_small s n p sofar onward (Literal l) is =
    let known = literal_read s p l is in
    let named = known.named in
    unless_small (literal_fault s p sofar l) (sheet_from n s (place_after (Literal l) p) (after s sofar l))
    (literal_fault_small s p sofar l (omega (arith, known.sheet_fits)) (omega (arith, known.sheet_fits)))
    (onward (place_after (Literal l) p) (after s sofar l))

from_small : (n : ℕ) (s : List ℕ) (p : ℕ) (sofar : Sofar) → SmallOutcome (sheet_from n s p sofar)
unfolding sheet_from
from_small zero s p sofar = tt
from_small (suc n) s p sofar = step_small s n p sofar (λ q x. from_small n s q x) (reading_at s p) refl

demanding_small : (b : Bool) (f : Refusal) (o : Outcome) → Small furthest f → SmallOutcome o → SmallOutcome (demanding refused b f o)
demanding_small b f o h k = demanding_holds SmallOutcome refused b f o h (λ e. k)

outcome_small : (s : List ℕ) (wordRoom nameRoom : ℕ) → SmallOutcome (sheet_outcome s wordRoom nameRoom)
unfolding sheet_outcome
outcome_small s wordRoom nameRoom =
    demanding_small (leb (length s) 65536) _ _ (omega arith, omega arith, omega arith)
    (demanding_small (leb 8192 wordRoom && leb 512 nameRoom) _ _ (omega arith, omega arith, omega arith) (from_small (length s + 1) s 0 nothing))

-- a line has at most 34 bytes
lines_small : (es : List ℕ) → bytes_for es ≤ 34 * length es
unfolding bytes_for
lines_small [] = omega arith
lines_small (e ∷ es) = omega (arith, lines_small es)

-- every value sheet's length is below the low half's end
value_sheet_is_short : (s : List ℕ) (wordRoom nameRoom : ℕ) (x : Sofar) (I : Interpretation)
    → sheet_outcome s wordRoom nameRoom ≡ accepted x → length (sheet_of s x I) < 4294967296
value_sheet_is_short s wordRoom nameRoom x I e =
    let few = (sheet_within s wordRoom nameRoom x e).at_most_512 in
    omega (arith, few, lines_length s (λ a. code (value I (positive a))) 0 x.names, lines_small x.names)

-- a refusal's number is a reason's, and not 0, and number and place have room in the answer
packs : (s : List ℕ) (wordRoom nameRoom : ℕ) (text : List ℕ) {r : SheetAnswer} {ws ns text' : List ℕ}
    → SheetAllows s wordRoom nameRoom text r ws ns text'
    → (g : Refusal) → r ≡ Err g → Packable g × (1 ≤ g.number) × HasReason g
packs s wordRoom nameRoom text (SheetAllows.refused {f} e) g same =
    let small : Small furthest f = subst SmallOutcome e (outcome_small s wordRoom nameRoom) in
    let is : f ≡ g = cc in
    subst (λ (x : Refusal). Packable x × (1 ≤ x.number) × HasReason x) is
    (record { number_small = omega arith; place_small = omega arith }, small.2, small_has_reason furthest f small)
packs s wordRoom nameRoom text (SheetAllows.does_not_fit {x} {I} e i h) g same =
    let short = value_sheet_is_short s wordRoom nameRoom x I e in
    let is : text_room_too_small (length (sheet_of s x I)) ≡ g = cc in
    subst (λ (y : Refusal). Packable y × (1 ≤ y.number) × HasReason y) is
    (record { number_small = omega arith; place_small = short }, omega arith, (TextRoomTooSmall, refl))
packs s wordRoom nameRoom text (SheetAllows.accepted {x} {I} e i h) g same = absurd (let z : ◌≡◌ {A = ℕ} 0 1 = cc in omega arith)

pub has_room : (s : List ℕ) (wordRoom nameRoom : ℕ) (text : List ℕ) {r : SheetAnswer} {ws ns text' : List ℕ}
    → SheetAllows s wordRoom nameRoom text r ws ns text' → HasRoom r
has_room s wordRoom nameRoom text o g same = (packs s wordRoom nameRoom text o g same).0

-- the model that the promise names is the smallest for orders of any kind
printed : (s : List ℕ) (wordRoom nameRoom : ℕ) (x : Sofar) (I : Interpretation)
    → sheet_outcome s wordRoom nameRoom ≡ accepted x → Smallest (rules_in x.records) I → SmallestWellSupported (rules_in x.records) I
printed s wordRoom nameRoom x I e i = (smallest_by_test (rules_in x.records) (sheet_one_rule s wordRoom nameRoom x e) I).0 i

-- an answer tells its cause: the accepted sheet whose value sheet has that length and fits, or the fault that the written order finds, 15 last
pub answer_tells : (s words names text : List ℕ) {a : ℕ} {ws ns text' : List ℕ} → HostSheet s words names text a ws ns text'
    → ((x : Sofar) × (I : Interpretation) × (sheet_outcome s (length words / 2) (length names / 4) ≡ accepted x)
    × SmallestWellSupported (rules_in x.records) I
    × (length (sheet_of s x I) ≤ length text) × (a ≡ length (sheet_of s x I)) × (a < 4294967296))
    ⊎ ((f : Refusal)
    × ((sheet_outcome s (length words / 2) (length names / 4) ≡ refused f)
    ⊎ ((x : Sofar) × (I : Interpretation) × (sheet_outcome s (length words / 2) (length names / 4) ≡ accepted x)
    × SmallestWellSupported (rules_in x.records) I
    × (length text < length (sheet_of s x I)) × (f ≡ text_room_too_small (length (sheet_of s x I)))))
    × (a ≡ packed f) × (1 ≤ f.number) × (f.place < 4294967296) × HasReason f)
answer_tells s words names text (HostSheet.answered (SheetAllows.refused {f} e)) =
    let p = packs s (length words / 2) (length names / 4) text (SheetAllows.refused e) f refl in
    inr (f, inl e, refl, p.1, p.0.place_small, p.2)
answer_tells s words names text (HostSheet.answered (SheetAllows.does_not_fit {x} {I} e i h)) =
    inr (
      text_room_too_small (length (sheet_of s x I)),
      inr (x, I, e, printed s (length words / 2) (length names / 4) x I e i, h, refl),
      refl,
      omega arith,
      value_sheet_is_short s (length words / 2) (length names / 4) x I e,
      (TextRoomTooSmall, refl),
    )
answer_tells s words names text (HostSheet.answered (SheetAllows.accepted {x} {I} e i h)) =
    inl (x, I, e, printed s (length words / 2) (length names / 4) x I e i, h, refl, value_sheet_is_short s (length words / 2) (length names / 4) x I e)
