-- The host's writer and checker answer alike for tables whose words are alike. Assumes nothing.
use mathlib.Core.List.{List}
use mathlib.Core.Path.{◌≡◌, ◌∙◌}
use Prim.Native.Nat.{ℕ}
use lib.ListN.{length}
use Rattle.words.proofs.OnlyLines.{Alike}
use Rattle.host.specs.Bytes.{words_in, lone_byte}
use Rattle.host.proofs.OnlyLines.{same_host, same_table}
use Rattle.reasoncheck.proofs.OnlyLines.{check_of}
use Rattle.reasons.proofs.Determined.{reasons_of}
use Rattle.hostreasons.specs.CheckBytes.{HostCheck}
use Rattle.hostreasons.specs.ReasonBytes.{HostReasons}
use Rattle.hostreasons.proofs.Determined.{host_check_determined}
use Rattle.hostreasons.proofs.WrittenOnce.{host_reasons_determined}

module _ (N : ℕ) (b c : List ℕ) (alike : Alike (words_in b) (words_in c)) (lone : lone_byte b ≡ lone_byte c) where
  -- what the promise allows for the one it allows for the other
  host_check_of : (values text : List ℕ) {x : ℕ} → HostCheck N b values text x → HostCheck N c values text x
  host_check_of values text (HostCheck.refused e) = HostCheck.refused (same_host N b c alike lone (length values) ∙ e)
  host_check_of values text (HostCheck.answered e o) =
      HostCheck.answered (same_host N b c alike lone (length values) ∙ e) (check_of N (words_in b) (words_in c) values text alike o)

  pub host_check_alike : (values text : List ℕ) {x y : ℕ} → HostCheck N b values text x → HostCheck N c values text y → x ≡ y
  host_check_alike values text o o' = host_check_determined N c values text (host_check_of values text o) o'

  host_reasons_of : (room : List ℕ) {x : ℕ} {room' : List ℕ} → HostReasons N b room x room' → HostReasons N c room x room'
  host_reasons_of room (HostReasons.refused e) = HostReasons.refused (same_table N b c alike lone ∙ e)
  host_reasons_of room (HostReasons.answered e o) =
      HostReasons.answered (same_table N b c alike lone ∙ e) (reasons_of N (words_in b) (words_in c) room alike o)

  pub host_reasons_alike : (room : List ℕ) {x y : ℕ} {room' room'' : List ℕ} → HostReasons N b room x room' → HostReasons N c room y room''
      → (x ≡ y) × (room' ≡ room'')
  host_reasons_alike room o o' = host_reasons_determined N c room (host_reasons_of room o) o'
