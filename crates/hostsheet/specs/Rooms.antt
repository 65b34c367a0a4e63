-- Stage: the entries a sheet is read into before they go as bytes, and answers that have room.
use Rattle.std.specs.Prelude.{cond, ◌≡◌, List, [], ◌∷◌, ℕ, zero, suc, leb, Err}
use Rattle.refusal.specs.declared.Refusal.{Refusal}
use Rattle.host.specs.WholeWords.{Packable}
use Rattle.sheets.specs.SheetEntry.{SheetAnswer}

-- so many entries: those of a row, and zeros past its end
unfoldable pub sized : ℕ → List ℕ → List ℕ
sized zero row = []
sized (suc n) [] = 0 ∷ sized n []
sized (suc n) (e ∷ row) = e ∷ sized n row

-- the entries that a sheet is read into: the whole entries lent, and no more than it can need
abbrev pub room_for : ℕ → ℕ → ℕ
room_for limit whole = cond (leb limit whole) limit whole

-- a refusal has room in the answer
abbrev pub HasRoom : SheetAnswer → Type 0
HasRoom r = (f : Refusal) → r ≡ Err f → Packable f
