-- Stage: a literal matched with the next line, told from the numbers of the text.
use Rattle.std.specs.Prelude.{Bool, true, false, Option, Some, None, List, ◌∷◌, ◌++◌, ◌≡◌, ℕ, suc, ◌+◌, ◌*◌, ◌<◌, length, get_or, set, Ok, Err}
use Rattle.refusal.specs.Checks.{Checked}
use Rattle.refusal.specs.Numbers.{line_not_justified}
use Rattle.sets.specs.Sets.{◌∈◌}
use Rattle.sets.specs.First.{FirstNot}
use Rattle.paper.specs.Rules.{Rule}
use Rattle.paper.specs.Definitions.{Interpretation}
use Rattle.justified.specs.declared.Line.{Line}
use Rattle.justified.specs.ByLiteral.{rank_in, head_in, group_in}
use Rattle.reasontext.specs.ReasonSheet.{ReasonLine}
use Rattle.reasoncheck.specs.ReasonCheck.{literals_below, FirstApart, codes_of, in_line_of, LineHolds}

-- what line k says of its literal
abbrev pub line_numbered : List ℕ → ℕ → Line
line_numbered numbers k =
    record { rank = get_or numbers (4 * k + 1) 0; head = get_or numbers (4 * k + 2) 0; group = get_or numbers (4 * k + 3) 0 }

-- l wants no line; or line k is there and is its own; or it is not
pub data MatchedOne (I : Interpretation) (numbers : List ℕ) (count : ℕ) (lines : List Line) (l k : ℕ) : Option ℕ → List Line → Type 0 where
  wants_none : I l ≡ false → MatchedOne I numbers count lines l k (Some k) lines
  has_its_own : I l ≡ true → k < count → get_or numbers (4 * k) 0 ≡ l
      → MatchedOne I numbers count lines l k (Some (k + 1)) (set lines l (line_numbered numbers k))
  has_not : I l ≡ true → (k < count → get_or numbers (4 * k) 0 ≡ l → ⊥) → MatchedOne I numbers count lines l k None lines

-- a row has the numbers of the first 1,024 lines, four for each
pub record NumbersHold (numbers : List ℕ) (count : ℕ) (ls : List ReasonLine) : Type 0 where
  pub count_is : count ≡ length ls
  pub line_is : (ms : List ReasonLine) (x : ReasonLine) (rest : List ReasonLine) → ls ≡ ms ++ x ∷ rest → length ms < 1024
      → (get_or numbers (4 * length ms) 0 ≡ x.literal) × (get_or numbers (4 * length ms + 1) 0 ≡ x.rank)
      × (get_or numbers (4 * length ms + 2) 0 ≡ x.rule_head) × (get_or numbers (4 * length ms + 3) 0 ≡ x.group)

-- the lines by literal are those of a list
pub record LinesHold (lines : List Line) (ls : List ReasonLine) : Type 0 where
  pub ranks : (l : ℕ) → rank_in lines l ≡ in_line_of (λ x. x.rank) ls l
  pub heads : (l : ℕ) → head_in lines l ≡ in_line_of (λ x. x.rule_head) ls l
  pub groups : (l : ℕ) → group_in lines l ≡ in_line_of (λ x. x.group) ls l

-- every literal below n that wants a line has its own, and there is no other; or the first line that is not so
pub data MatchAllows (I : Interpretation) (n : ℕ) (ls : List ReasonLine) : Checked → List Line → Type 0 where
  all_matched : {lines : List Line} → literals_below I n ≡ codes_of ls → LinesHold lines ls → MatchAllows I n ls (Ok tt) lines
  apart : {k : ℕ} {lines : List Line} → FirstApart (literals_below I n) (codes_of ls) k → MatchAllows I n ls (Err (line_not_justified (suc k))) lines

-- the same for whatever lines the numbers are of
abbrev pub MatchesAny : Interpretation → ℕ → List ℕ → ℕ → Checked → List Line → Type 0
MatchesAny I n numbers count r lines = (ls : List ReasonLine) → NumbersHold numbers count ls → MatchAllows I n ls r lines

-- each literal below n that is in I passes; or l is the first that does not, and so many want a line before it
pub data LinesAllow (I : Interpretation) (passes : ℕ → Bool) (n : ℕ) : Checked → Type 0 where
  all_pass : ((l : ℕ) → l < n → I l ≡ true → passes l ≡ true) → LinesAllow I passes n (Ok tt)
  first_fails : (l : ℕ) → l < n → I l ≡ true → passes l ≡ false → ((m : ℕ) → m < l → I m ≡ true → passes m ≡ true)
      → LinesAllow I passes n (Err (line_not_justified (suc (length (literals_below I l)))))

-- the lines judged: all hold; or the first that is not wanted; or the first that does not hold
pub data JudgeAllows (R : List Rule) (I : Interpretation) (n : ℕ) (ls : List ReasonLine) : Checked → Type 0 where
  wants_another : {k : ℕ} → FirstApart (literals_below I n) (codes_of ls) k → JudgeAllows R I n ls (Err (line_not_justified (suc k)))
  not_all_hold : {k : ℕ} → literals_below I n ≡ codes_of ls → FirstNot (LineHolds R I ls) ls k
      → JudgeAllows R I n ls (Err (line_not_justified (suc k)))
  all_hold : literals_below I n ≡ codes_of ls → ((x : ReasonLine) → x ∈ ls → LineHolds R I ls x) → JudgeAllows R I n ls (Ok tt)

-- the same for whatever lines the numbers are of
abbrev pub JudgesAny : List Rule → Interpretation → ℕ → List ℕ → ℕ → Checked → Type 0
JudgesAny R I n numbers count r = (ls : List ReasonLine) → NumbersHold numbers count ls → JudgeAllows R I n ls r
