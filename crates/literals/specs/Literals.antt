-- Believed: what one literal of a sheet adds to names and records, and its faults.
use Rattle.std.specs.Prelude.{List, [], ◌∷◌, ◌++◌, Bool, true, false, not, cond, ℕ, ◌+◌, leb, ltb, eqb, length, Ok}
use Rattle.limits.specs.Limits.{most_atoms, most_words, most_in_body}
use Rattle.paper.specs.Rules.{positive, negative}
use Rattle.refusal.specs.Numbers.{too_many_names, second_rule, too_many_in_body, too_many_words}
use Rattle.refusal.specs.Checks.{Checked, asking}
use Rattle.words.specs.Layout.{TableRecord, body_at, after_one}
use Rattle.reader.specs.declared.Role.{Role}
use Rattle.reader.specs.declared.Role.TheVariants.{Head, First, Further}
use Rattle.reader.specs.declared.SheetLiteral.{SheetLiteral}
use Rattle.reader.specs.Sheet.{line_of}
use Rattle.names.specs.Names.{bytes_at, entry_for, number_in}

-- what the literals so far have given: name entries, records, and the words counted
pub record Sofar : Type 0 where
  pub names : List ℕ
  pub records : List TableRecord
  pub words : ℕ

abbrev pub nothing : Sofar
nothing = record { names = []; records = []; words = 0 }

-- a list with its last element changed
unfoldable pub on_last : {A : Type 0} → (A → A) → List A → List A
on_last f [] = []
on_last f (x ∷ []) = f x ∷ []
on_last f (x ∷ y ∷ l) = x ∷ on_last f (y ∷ l)

-- the last element, or `other` in an empty list
unfoldable pub last_or : {A : Type 0} → A → List A → A
last_or other [] = other
last_or other (x ∷ l) = last_or x l

-- the record that a head in line x begins: no group yet
abbrev pub new_record : ℕ → ℕ → TableRecord
new_record x c = record { line = x; rule = record { head = c; groups = [] } }

-- the groups of the last record, and the last of them
abbrev pub last_groups : List TableRecord → List (List ℕ)
last_groups Q = (last_or (new_record 0 0) Q).rule.groups

abbrev pub last_group : List TableRecord → List ℕ
last_group Q = last_or [] (last_groups Q)

abbrev pub change_groups : (List (List ℕ) → List (List ℕ)) → TableRecord → TableRecord
change_groups f r = record { line = r.line; rule = record { head = r.rule.head; groups = f r.rule.groups } }

-- a head in line x begins a record, the first literal of a group a group of the last record, a further one joins its last group
unfoldable pub with_literal : Role → ℕ → ℕ → List TableRecord → List TableRecord
with_literal Head x c Q = Q ++ (new_record x c ∷ [])
with_literal First x c Q = on_last (change_groups (λ βs. βs ++ ((c ∷ []) ∷ []))) Q
with_literal Further x c Q = on_last (change_groups (on_last (λ β. β ++ (c ∷ [])))) Q

-- words counted: 3 for a head, 2 for the first literal of a group, 1 for a further one
abbrev pub words_for : Role → ℕ
words_for Head = body_at 0
words_for First = after_one 0
words_for Further = 1

-- an atom's number: that of an equal earlier name, or the next
abbrev pub atom_of : List ℕ → List ℕ → SheetLiteral → ℕ
atom_of s names l = number_in s names (bytes_at s l.start l.len)

-- the literal code: 2 × atom, plus 1 for the negation
abbrev pub code_for : Bool → ℕ → ℕ
code_for negated a = cond negated (negative a) (positive a)

abbrev pub code_of : List ℕ → List ℕ → SheetLiteral → ℕ
code_of s names l = code_for l.negated (atom_of s names l)

-- the names with a literal's, if none before is equal
unfoldable pub with_name : ℕ → SheetLiteral → List ℕ → List ℕ
with_name a l names = cond (ltb a (length names)) names (names ++ (entry_for l.start l.len ∷ []))

-- one literal more
unfoldable pub after : List ℕ → Sofar → SheetLiteral → Sofar
after s sofar l = record {
  names = with_name (atom_of s sofar.names l) l sofar.names;
  records = with_literal l.role (line_of s l.start) (code_of s sofar.names l) sofar.records;
  words = sofar.words + words_for l.role;
}

-- is a literal the head of a record
unfoldable pub is_head : List TableRecord → ℕ → Bool
is_head [] c = false
is_head (r ∷ Q) c = cond (eqb c r.rule.head) true (is_head Q c)

-- a second rule for a head
abbrev pub repeats : Role → (ℕ → Bool) → ℕ → Bool
repeats Head heads c = heads c
repeats First heads c = false
repeats Further heads c = false

-- how many groups the body has with this literal, or how many literals its group has
abbrev pub in_body : Role → ℕ → ℕ → ℕ
in_body Head groups literals = 0
in_body First groups literals = groups + 1
in_body Further groups literals = literals + 1

-- 12, 7, 13, 14: names, a repeated head, groups or literals in a group, and words, with a literal at p whose name starts at q
unfoldable pub fault_with : ℕ → Bool → ℕ → ℕ → ℕ → ℕ → Checked
fault_with names repeated body words p q =
    asking (leb names most_atoms) (too_many_names q)
    (asking (not repeated) (second_rule p)
    (asking (leb body most_in_body) (too_many_in_body p)
    (asking (leb words most_words) (too_many_words p) (Ok tt))))

unfoldable pub literal_fault : List ℕ → ℕ → Sofar → SheetLiteral → Checked
literal_fault s p sofar l =
    fault_with (length (after s sofar l).names) (repeats l.role (is_head sofar.records) (code_of s sofar.names l))
    (in_body l.role (length (last_groups sofar.records)) (length (last_group sofar.records))) (after s sofar l).words p l.start
