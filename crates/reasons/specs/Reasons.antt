-- Believed: the writer of reason sheets: 1, 2, words, 15; its sheet is a function of N and the rules, as there is one settled marking.
use Rattle.std.specs.Prelude.{List, ◌≡◌, ℕ, ◌≤◌, ◌<◌, length, Ok, Err, Result}
use Rattle.std.proofs.lemmas.List.Edits.{sets}
use Rattle.refusal.specs.declared.Refusal.{Refusal}
use Rattle.refusal.specs.Numbers.{text_room_too_small}
use Rattle.words.specs.Check.{table_check}
use Rattle.words.specs.Layout.{rules_of}
use Rattle.paper.specs.Marking.{Marks, Marking, Settled}
use Rattle.reasons.specs.Sheet.{sheet_by}

-- the answer, and the text room afterwards
pub data ReasonsAllows (N : ℕ) (t room : List ℕ) : Result ℕ Refusal → List ℕ → Type 0 where
  refused : {f : Refusal} → table_check N t ≡ Err f → ReasonsAllows N t room (Err f) room
  no_room : table_check N t ≡ Ok tt → {n : ℕ} (A : Marks) → Marking (rules_of t) n A → Settled (rules_of t) A
      → length room < length (sheet_by N (rules_of t) A)
      → ReasonsAllows N t room (Err (text_room_too_small (length (sheet_by N (rules_of t) A)))) room
  writes : table_check N t ≡ Ok tt → {n : ℕ} (A : Marks) → Marking (rules_of t) n A → Settled (rules_of t) A
      → length (sheet_by N (rules_of t) A) ≤ length room
      → ReasonsAllows N t room (Ok (length (sheet_by N (rules_of t) A))) (sets room 0 (sheet_by N (rules_of t) A))
