-- The host's evaluation and question of conflict answer alike for tables whose words are alike. Assumes nothing.
use mathlib.Core.Bool.{Bool}
use mathlib.Core.List.{List}
use mathlib.Core.Path.{◌≡◌, sym, ap, ap₂, ◌∙◌, subst}
use Prim.Native.Nat.{ℕ}
use lib.ListN.{length}
use Rattle.paper.specs.Rules.{Rule}
use Rattle.paper.specs.Definitions.{Smallest}
use Rattle.refusal.specs.Checks.{Checked}
use Rattle.refusal.proofs.Questions.{question_same}
use Rattle.words.proofs.OnlyLines.{Alike}
use Rattle.conflict.proofs.OnlyLines.{same_conflict}
use Rattle.evaluation.proofs.OnlyLines.{same_evaluation}
use Rattle.host.specs.Bytes.{words_in, lone_byte, then_lone_byte}
use Rattle.host.specs.Evaluation.{host_fault, HostEvaluation}
use Rattle.host.specs.Conflict.{host_table_fault, HostConflict}
use Rattle.host.proofs.Determined.{host_determined}
use Rattle.host.proofs.Conflict.{host_conflict_determined}

module _ (N : ℕ) (b c : List ℕ) (alike : Alike (words_in b) (words_in c)) (lone : lone_byte b ≡ lone_byte c) where
  pub same_host : (room : ℕ) → host_fault N (words_in c) (lone_byte c) room ≡ host_fault N (words_in b) (lone_byte b) room
  unfolding host_fault
  same_host room =
      ap₂ (λ (x : Checked) (n : ℕ). then_lone_byte x n (lone_byte c)) (same_evaluation N (words_in b) (words_in c) alike room) (sym alike.lengths)
      ∙ ap (λ (x : Bool). host_fault N (words_in b) x room) (sym lone)

  -- what the promise allows for the one it allows for the other
  host_of : (room : List ℕ) {x : ℕ} {room' : List ℕ} → HostEvaluation N b room x room' → HostEvaluation N c room x room'
  host_of room (HostEvaluation.refused e) = HostEvaluation.refused (same_host (length room) ∙ e)
  host_of room (HostEvaluation.evaluated e I s) =
      HostEvaluation.evaluated (same_host (length room) ∙ e) I (subst (λ (R : List Rule). Smallest R I) alike.rules s)

  pub host_alike : (room : List ℕ) {x y : ℕ} {room' room'' : List ℕ}
      → HostEvaluation N b room x room' → HostEvaluation N c room y room'' → (x ≡ y) × (room' ≡ room'')
  host_alike room o o' = host_determined N c room (host_of room o) o'

  pub same_table : host_table_fault N (words_in c) (lone_byte c) ≡ host_table_fault N (words_in b) (lone_byte b)
  unfolding host_table_fault
  same_table =
      ap₂ (λ (x : Checked) (n : ℕ). then_lone_byte x n (lone_byte c)) (sym (alike.checks N)) (sym alike.lengths)
      ∙ ap (λ (x : Bool). host_table_fault N (words_in b) x) (sym lone)

  conflict_of : {x : ℕ} → HostConflict N b x → HostConflict N c x
  conflict_of (HostConflict.answered o) = HostConflict.answered (question_same same_table (same_conflict (words_in b) (words_in c) alike) o)

  pub host_conflict_alike : {x y : ℕ} → HostConflict N b x → HostConflict N c y → x ≡ y
  host_conflict_alike o o' = host_conflict_determined N c (conflict_of o) o'
