-- The host's answer and bytes, from what the parts of its sheet entry ensure. Assumes nothing.
use mathlib.Core.List.{List}
use mathlib.Core.Path.{◌≡◌, ◌∙◌, subst₂}
use Prim.Native.Nat.{ℕ, ◌/◌}
use lib.ListN.{length}
use Rattle.sheets.specs.SheetEntry.{SheetAllows, SheetAnswer}
use Rattle.hostsheet.specs.Rooms.{sized, room_for}
use Rattle.hostsheet.specs.SheetBytes.{words_over, names_over, packed_answer, HostSheet}
use Rattle.hostsheet.proofs.Rooms.{local, in_longer}

pub host_answers : (s words names text : List ℕ) (w n x y size size' : ℕ)
    (r : SheetAnswer) (ws ns text' : List ℕ) (a : ℕ) (words' names' : List ℕ)
    → w ≡ room_for 8192 (length words / 2) → n ≡ room_for 512 (length names / 4) → x ≡ w → y ≡ n → SheetAllows s x y text r ws ns text'
    → words' ≡ words_over (sized (length words / 2) (local size w ws)) words
    → names' ≡ names_over (sized (length names / 4) (local size' n ns)) names
    → a ≡ packed_answer r → HostSheet s words names text a words' names' text'
host_answers s words names text w n x y size size' r ws ns text' a words' names' ew en ex ey allowed e f g =
    let in-rooms = subst₂ (λ (p q : ℕ). SheetAllows s p q text r ws ns text') (ex ∙ ew) (ey ∙ en) allowed in
    rw (g, e, f, ew, en) (HostSheet.answered (in_longer s (length words / 2) (length names / 4) text size size' in-rooms))
