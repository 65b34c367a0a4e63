-- A sheet read into rooms that are just large enough, and what that is in longer ones. Assumes nothing.
use mathlib.Core.Bool.{Bool, true, false, cond, ◌&&◌}
use mathlib.Core.List.{List, [], ◌∷◌, ◌++◌}
use mathlib.Core.Path.{◌≡◌, refl, sym, ◌∙◌, subst₂}
use Prim.Native.Nat.{ℕ, zero, suc, ◌+◌, ◌-◌, ◌≤◌}
use native.Mathlib.Nat.{le_refl}
use native.Mathlib.Omega.{arith}
use lib.Dec.{leb}
use lib.ListN.{length, get_or, drop, take, replicate, length-append, length-replicate, get_or-eq_default}
use lib.Seq.{ext_get_or, get_or-drop, length-take-le, length_front}
use borrow.Author.Tests.{leb-true, le-leb}
use Rattle.sets.proofs.Tests.{and_both}
use Rattle.words.specs.Layout.{words_of}
use Rattle.literals.specs.Literals.{Sofar}
use Rattle.sheetwords.specs.Sheets.{accepted, sheet_outcome}
use Rattle.sheetwords.proofs.Through.{demanding_accepted}
use Rattle.buffers.specs.Padded.{padded}
use Rattle.sheetwords.proofs.Laws.{sheet_within}
use Rattle.sheets.specs.SheetEntry.{SheetAllows, SheetAnswer}
use Rattle.hostsheet.specs.Rooms.{sized, room_for}
use Rattle.hostsheet.proofs.Laying.{length_sized, sized_at}

-- zeros after a row change none of its entries
abbrev Zeros : List ℕ → Type 0
Zeros z = (i : ℕ) → get_or z i 0 ≡ 0

zeros : (k : ℕ) → Zeros (replicate k 0)
zeros zero i = get_or-eq_default [] 0 {n = i} (omega arith)
zeros (suc k) zero = refl
zeros (suc k) (suc i) = zeros k i

zeros_after : (l z : List ℕ) → Zeros z → (i : ℕ) → get_or (l ++ z) i 0 ≡ get_or l i 0
zeros_after [] z h i = h i ∙ sym (get_or-eq_default [] 0 {n = i} (omega arith))
zeros_after (x ∷ l) z h zero = refl
zeros_after (x ∷ l) z h (suc i) = zeros_after l z h i

-- a local row of zeros whose first entries were filled, in a room of any length
abbrev pub local : ℕ → ℕ → List ℕ → List ℕ
local size room row = row ++ drop room (replicate size 0)

pub sized_local : (size room longer : ℕ) (l : List ℕ) → length l ≤ longer → sized longer (local size room (padded room l)) ≡ padded longer l
unfolding padded
sized_local size room longer l h =
    let row = local size room (padded room l) in
    let n = length_sized longer row in
    let m = length-append l (replicate (longer - length l) 0) in
    let k = length-replicate {A = ℕ} (longer - length l) 0 in
    ext_get_or 0 (sized longer row) (padded longer l) (omega arith)
    (λ i b. sized_at longer row i (omega arith)
    ∙ zeros_after (padded room l) (drop room (replicate size 0)) (λ j. get_or-drop room (replicate size 0) j 0 ∙ zeros size (room + j)) i
    ∙ zeros_after l (replicate (room - length l) 0) (zeros (room - length l)) i
    ∙ sym (zeros_after l (replicate (longer - length l) 0) (zeros (longer - length l)) i))

pub length_lent : (size room : ℕ) → room ≤ size → room ≡ length {A = ℕ} (take room (replicate size 0))
length_lent size room h = sym (length-take-le room (replicate size 0) (omega (arith, length-replicate {A = ℕ} size 0)))

pub length_local : (size room : ℕ) (ws : List ℕ) → length ws ≡ length {A = ℕ} (take room (replicate size 0)) → size ≡ length (local size room ws)
length_local size room ws h = sym (length_front (replicate size 0) ws room h ∙ length-replicate {A = ℕ} size 0)

-- a room is large enough exactly where the shorter one is
large_enough : (limit whole : ℕ) → leb limit (room_for limit whole) ≡ leb limit whole
large_enough limit whole = by (leb limit whole) refl
  where
    by : (b : Bool) → leb limit whole ≡ b → leb limit (cond b limit whole) ≡ b
    by true e = le-leb limit limit (le_refl limit)
    by false e = e

pub same_outcome : (s : List ℕ) (w n : ℕ) → sheet_outcome s (room_for 8192 w) (room_for 512 n) ≡ sheet_outcome s w n
unfolding sheet_outcome
same_outcome s w n = rw (large_enough 8192 w, large_enough 512 n) refl

-- an accepted sheet has had room
had_room : (s : List ℕ) (w n : ℕ) (x : Sofar) → sheet_outcome s w n ≡ accepted x → (8192 ≤ w) × (512 ≤ n)
unfolding sheet_outcome
had_room s w n x e =
    let first = demanding_accepted (leb (length s) 65536) _ _ x e in
    let second = demanding_accepted (leb 8192 w && leb 512 n) _ _ x first.1 in
    let large = and_both (leb 8192 w) (leb 512 n) second.0 in
    (leb-true 8192 w large.0, leb-true 512 n large.1)

module _ (s : List ℕ) (w n : ℕ) (text : List ℕ) (size size' : ℕ) where
  to : {r : SheetAnswer} {u u' m m' t : List ℕ} → u ≡ u' → m ≡ m' → SheetAllows s w n text r u m t → SheetAllows s w n text r u' m' t
  to {r} {u} {u'} {m} {m'} {t} e f = subst₂ (λ (x y : List ℕ). SheetAllows s w n text r x y t) e f

  abbrev words_in_room : List ℕ → List ℕ
  words_in_room ws = sized w (local size (room_for 8192 w) ws)

  abbrev names_in : List ℕ → List ℕ
  names_in ns = sized n (local size' (room_for 512 n) ns)

  no_words : padded w [] ≡ words_in_room (padded (room_for 8192 w) [])
  no_words = sym (sized_local size (room_for 8192 w) w [] (omega arith))

  no_names : padded n [] ≡ names_in (padded (room_for 512 n) [])
  no_names = sym (sized_local size' (room_for 512 n) n [] (omega arith))

  -- what the shorter rooms hold is, with zeros after it, what the longer ones are to hold
  pub in_longer : {r : SheetAnswer} {ws ns text' : List ℕ} → SheetAllows s (room_for 8192 w) (room_for 512 n) text r ws ns text'
      → SheetAllows s w n text r (words_in_room ws) (names_in ns) text'
  in_longer (SheetAllows.refused e) = to no_words no_names (SheetAllows.refused (sym (same_outcome s w n) ∙ e))
  in_longer (SheetAllows.does_not_fit e i h) = to no_words no_names (SheetAllows.does_not_fit (sym (same_outcome s w n) ∙ e) i h)
  in_longer (SheetAllows.accepted {x} {I} e i h) =
      let is = sym (same_outcome s w n) ∙ e in
      let room = had_room s w n x is in
      let within = sheet_within s w n x is in
      to (sym (sized_local size (room_for 8192 w) w (words_of x.records) (omega (arith, within.at_most_8192, room.0))))
      (sym (sized_local size' (room_for 512 n) n x.names (omega (arith, within.at_most_512, room.1))))
      (SheetAllows.accepted {x = x} {I = I} is i h)
