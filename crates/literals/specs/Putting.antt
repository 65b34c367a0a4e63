-- Stage: one literal in the word and name buffers, as the code puts it there.
use Rattle.std.specs.Prelude.{List, ◌≡◌, cond, ℕ, ◌+◌, ◌≤◌, ltb, length, get_or, set, take, Ok, Err, Result}
use Rattle.limits.specs.Limits.{most_atoms, most_words}
use Rattle.refusal.specs.declared.Refusal.{Refusal}
use Rattle.bits.specs.Sets.{put_in, member}
use Rattle.refusal.specs.Checks.{Checked}
use Rattle.words.specs.Layout.{line_number_at, groups_at, body_at, literals_at, after_one}
use Rattle.words.specs.RecordAt.{groups_in}
use Rattle.reader.specs.declared.Role.{Role}
use Rattle.reader.specs.declared.Role.TheVariants.{Head, First, Further}
use Rattle.reader.specs.declared.SheetLiteral.{SheetLiteral}
use Rattle.names.specs.Names.{entry_for}
use Rattle.literals.specs.declared.Counts.{Counts}
use Rattle.literals.specs.Literals.{words_for, atom_of, code_of, repeats, in_body, fault_with}

-- the number of names with one whose number is a
abbrev pub names_with : ℕ → ℕ → ℕ
names_with a atoms = cond (ltb a atoms) atoms (atoms + 1)

-- the word buffer with one literal more, a head's in line x: m or k grows where it stands
abbrev pub put_words : Role → ℕ → ℕ → Counts → List ℕ → List ℕ
put_words Head x c k ws = set (set ws k.words c) (line_number_at k.words) x
put_words First x c k ws = set (set (set ws (groups_at k.rule) (get_or ws (groups_at k.rule) 0 + 1)) k.words 1) (literals_at k.words) c
put_words Further x c k ws = set (set ws k.group (get_or ws k.group 0 + 1)) k.words c

-- the name buffer with the name of number a
abbrev pub put_name : ℕ → ℕ → ℕ → List ℕ → List ℕ
put_name a atoms e names = cond (ltb a atoms) names (set names atoms e)

-- the flags of the heads
abbrev pub put_head : Role → ℕ → List ℕ → List ℕ
put_head Head c heads = put_in heads c
put_head First c heads = heads
put_head Further c heads = heads

-- the counts with one literal more; each head stands in a line of its own
abbrev pub counted : Role → ℕ → Counts → Counts
counted Head a k = record { atoms = names_with a k.atoms; words = body_at k.words; line = k.line + 1; rule = k.words; group = k.group }
counted First a k = record { atoms = names_with a k.atoms; words = after_one k.words; line = k.line; rule = k.rule; group = k.words }
counted Further a k = record { atoms = names_with a k.atoms; words = k.words + 1; line = k.line; rule = k.rule; group = k.group }

-- room for what has been counted
pub record Room (k : Counts) (ws ns : List ℕ) : Type 0 where
  pub atoms : k.atoms ≤ most_atoms
  pub words : k.words ≤ most_words
  pub line : k.line ≤ k.words
  pub rule : body_at k.rule ≤ most_words
  pub group : literals_at k.group ≤ most_words
  pub word_buffer : most_words ≤ length ws
  pub name_buffer : most_atoms ≤ length ns

-- a literal's number and code, by the names in the buffer
abbrev pub atom_in : List ℕ → Counts → List ℕ → SheetLiteral → ℕ
atom_in s k names l = atom_of s (take k.atoms names) l

abbrev pub code_in : List ℕ → Counts → List ℕ → SheetLiteral → ℕ
code_in s k names l = code_of s (take k.atoms names) l

-- how many groups or literals the body has with a literal, by the words in the buffer
abbrev pub body_in : Role → Counts → List ℕ → ℕ
body_in role k ws = in_body role (groups_in ws k.rule) (get_or ws k.group 0)

-- the fault of a literal of number a and code c at p, by the buffers
abbrev pub fault_by : ℕ → ℕ → Counts → List ℕ → List ℕ → ℕ → SheetLiteral → Checked
fault_by a c k ws heads p l =
    fault_with (names_with a k.atoms) (repeats l.role (member heads) c) (body_in l.role k ws) (k.words + words_for l.role) p l.start

abbrev pub fault_in : List ℕ → Counts → List ℕ → List ℕ → List ℕ → ℕ → SheetLiteral → Checked
fault_in s k ws names heads p l = fault_by (atom_in s k names l) (code_in s k names l) k ws heads p l

-- a literal of number a and code c has been put into the buffers
pub record Put (a c : ℕ) (l : SheetLiteral) (k : Counts) (ws names heads : List ℕ) (k' : Counts) (ws' names' heads' : List ℕ) : Type 0 where
  pub counts_are : k' ≡ counted l.role a k
  pub words_are : ws' ≡ put_words l.role (k.line + 1) c k ws
  pub names_are : names' ≡ put_name a k.atoms (entry_for l.start l.len) names
  pub heads_are : heads' ≡ put_head l.role c heads

-- a literal at p has been put into the buffers; one with a fault leaves them as they were
pub record Took (s : List ℕ) (p : ℕ) (l : SheetLiteral) (k : Counts) (ws names heads : List ℕ) (r : Result Counts Refusal) (ws' names' heads' : List ℕ) : Type 0 where
  pub faultless : fault_in s k ws names heads p l ≡ Ok tt
      → (k' : Counts) × (r ≡ Ok k') × Put (atom_in s k names l) (code_in s k names l) l k ws names heads k' ws' names' heads'
  pub faulty : (x : Refusal) → fault_in s k ws names heads p l ≡ Err x → (r ≡ Err x) × (ws' ≡ ws) × (names' ≡ names) × (heads' ≡ heads)
