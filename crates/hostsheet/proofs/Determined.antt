-- Two outcomes that the promise of the host's sheet entry allows are equal. Assumes nothing.
use mathlib.Core.List.{List}
use mathlib.Core.Path.{◌≡◌, ap}
use Prim.Native.Nat.{ℕ, ◌/◌}
use lib.ListN.{length}
use Rattle.sheets.proofs.Laws.{sheet_determined}
use Rattle.hostsheet.specs.SheetBytes.{HostSheet, packed_answer, words_over, names_over}

pub host_sheet_determined : (s words names text : List ℕ) {a b : ℕ} {ws ws' ns ns' t t' : List ℕ} → HostSheet s words names text a ws ns t
    → HostSheet s words names text b ws' ns' t' → (a ≡ b) × (ws ≡ ws') × (ns ≡ ns') × (t ≡ t')
host_sheet_determined s words names text (HostSheet.answered allowed) (HostSheet.answered allowed') =
    let same = sheet_determined s (length words / 2) (length names / 4) text allowed allowed' in (
      ap packed_answer same.0,
      ap (λ (ws : List ℕ). words_over ws words) same.1,
      ap (λ (ns : List ℕ). names_over ns names) same.2,
      same.3,
    )
