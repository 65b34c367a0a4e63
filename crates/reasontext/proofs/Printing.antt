-- A line written number by number. Assumes nothing.
use mathlib.Core.List.{List, [], ◌∷◌, ◌++◌, append_assoc}
use mathlib.Core.Path.{◌≡◌, sym, ap, ap₂, ◌∙◌}
use Prim.Native.Nat.{ℕ, ◌+◌, ◌≤◌, ◌<◌}
use native.Mathlib.Omega.{arith}
use lib.ListN.{length, length-append}
use lib.Seq.{sets, append_snoc, length-sets}
use Rattle.decimals.specs.Decimals.{decimal}
use Rattle.decimals.proofs.Laws.{length_five}
use Rattle.decimals.proofs.Stores.{sets_append}
use Rattle.reasontext.specs.ReasonSheet.{line, line_text}

-- what is written behind other bytes
pub put_then : (t : List ℕ) (at : ℕ) (u v : List ℕ) {t₁ t₂ : List ℕ} {a : ℕ} → t₁ ≡ sets t at u → a ≡ at + length u
    → t₂ ≡ sets t₁ a v
    → t₂ ≡ sets t at (u ++ v)
put_then t at u v e ea f = f ∙ ap₂ (λ (x : List ℕ) (i : ℕ). sets x i v) e ea ∙ sym (sets_append t at u v)

-- a number and the byte behind it
abbrev pub piece : ℕ → ℕ → List ℕ
piece n b = decimal n ++ b ∷ []

module _ (l r h g : ℕ) where
  pub pieces : piece l 9 ++ (piece r 9 ++ (piece h 9 ++ piece g 10)) ≡ line_text (line l r h g)
  pieces =
      let a : List ℕ = decimal l in
      let b : List ℕ = a ++ 9 ∷ decimal r in
      let c : List ℕ = b ++ 9 ∷ decimal h in
      append_snoc a 9 (piece r 9 ++ (piece h 9 ++ piece g 10))
      ∙ ap (λ (z : List ℕ). a ++ 9 ∷ z) (append_snoc (decimal r) 9 (piece h 9 ++ piece g 10))
      ∙ ap (λ (z : List ℕ). a ++ 9 ∷ (decimal r ++ 9 ∷ z)) (append_snoc (decimal h) 9 (piece g 10))
      ∙ sym (append_assoc c (9 ∷ decimal g) (10 ∷ []) ∙ append_assoc b (9 ∷ decimal h) (9 ∷ piece g 10)
      ∙ append_assoc a (9 ∷ decimal r) (9 ∷ (decimal h ++ 9 ∷ piece g 10)))

  pub length_line : length (line_text (line l r h g)) ≡ length (decimal l) + length (decimal r) + length (decimal h) + length (decimal g) + 4
  length_line =
      let e = ap length (sym pieces) in
      let a = length-append (piece l 9) (piece r 9 ++ (piece h 9 ++ piece g 10)) in
      let b = length-append (piece r 9) (piece h 9 ++ piece g 10) in
      let c = length-append (piece h 9) (piece g 10) in
      let d₁ = length-append (decimal l) (9 ∷ []) in
      let d₂ = length-append (decimal r) (9 ∷ []) in
      let d₃ = length-append (decimal h) (9 ∷ []) in
      let d₄ = length-append (decimal g) (10 ∷ []) in
      omega arith

  pub line_short : l < 65536 → r < 65536 → h < 65536 → g < 65536 → length (line_text (line l r h g)) ≤ 24
  line_short a b c d =
      let e = length_line in
      let f₁ = length_five l (omega arith) in
      let f₂ = length_five r (omega arith) in
      let f₃ = length_five h (omega arith) in
      let f₄ = length_five g (omega arith) in
      omega arith

  -- four pieces, one behind the other
  pub four_put : (t : List ℕ) (at : ℕ) {t₁ t₂ t₃ t₄ : List ℕ} {a₁ a₂ a₃ a₄ : ℕ}
      → (a₁ ≡ at + length (piece l 9)) × (t₁ ≡ sets t at (piece l 9)) → (a₂ ≡ a₁ + length (piece r 9)) ×
      (t₂ ≡ sets t₁ a₁ (piece r 9))
      → (a₃ ≡ a₂ + length (piece h 9)) × (t₃ ≡ sets t₂ a₂ (piece h 9)) → (a₄ ≡ a₃ + length (piece g 10)) ×
      (t₄ ≡ sets t₃ a₃ (piece g 10))
      → (a₄ ≡ at + length (line_text (line l r h g))) × (t₄ ≡ sets t at (line_text (line l r h g)))
  four_put t at {t₁} {t₂} {t₃} {t₄} {a₁} {a₂} {a₃} {a₄} p q s u =
      let e = ap length pieces in
      let a = length-append (piece l 9) (piece r 9 ++ (piece h 9 ++ piece g 10)) in
      let b = length-append (piece r 9) (piece h 9 ++ piece g 10) in
      let c = length-append (piece h 9) (piece g 10) in
      let x₁ = p.0 in
      let x₂ = q.0 in
      let x₃ = s.0 in
      let x₄ = u.0 in (
        omega arith,
        put_then t at (piece l 9) (piece r 9 ++ (piece h 9 ++ piece g 10)) p.1 p.0
            (put_then t₁ a₁ (piece r 9) (piece h 9 ++ piece g 10) q.1 q.0
            (put_then t₂ a₂ (piece h 9) (piece g 10) s.1 s.0 u.1)) ∙ ap (sets t at) pieces,
      )

  -- where each piece has its room
  module _ (t : List ℕ) (at : ℕ) (fits : at + length (line_text (line l r h g)) ≤ length t) where
    lengths : length (line_text (line l r h g)) ≡ length (piece l 9) + (length (piece r 9) + (length (piece h 9) + length (piece g 10)))
    lengths =
        let e = ap length pieces in
        let a = length-append (piece l 9) (piece r 9 ++ (piece h 9 ++ piece g 10)) in
        let b = length-append (piece r 9) (piece h 9 ++ piece g 10) in
        let c = length-append (piece h 9) (piece g 10) in
        omega arith

    pub room_1 : at + length (piece l 9) ≤ length t
    room_1 = let e = lengths in omega arith

    module _ {a₁ : ℕ} {t₁ : List ℕ} (p : (a₁ ≡ at + length (piece l 9)) × (t₁ ≡ sets t at (piece l 9))) where
      pub room_2 : a₁ + length (piece r 9) ≤ length t₁
      room_2 = let e = lengths in let f = ap length p.1 ∙ length-sets t at (piece l 9) in let i = p.0 in omega arith

      module _ {a₂ : ℕ} {t₂ : List ℕ} (q : (a₂ ≡ a₁ + length (piece r 9)) × (t₂ ≡ sets t₁ a₁ (piece r 9))) where
        pub room_3 : a₂ + length (piece h 9) ≤ length t₂
        room_3 =
            let e = lengths in
            let f = ap length p.1 ∙ length-sets t at (piece l 9) in
            let f₂ = ap length q.1 ∙ length-sets t₁ a₁ (piece r 9) in
            let i = p.0 in
            let j = q.0 in
            omega arith

        pub room_4 : {a₃ : ℕ} {t₃ : List ℕ} → (a₃ ≡ a₂ + length (piece h 9)) × (t₃ ≡ sets t₂ a₂ (piece h 9)) → a₃ + length
            (piece g 10) ≤ length t₃
        room_4 s =
            let e = lengths in
            let f = ap length p.1 ∙ length-sets t at (piece l 9) in
            let f₂ = ap length q.1 ∙ length-sets t₁ a₁ (piece r 9) in
            let f₃ = ap length s.1 ∙ length-sets t₂ a₂ (piece h 9) in
            let i = p.0 in
            let j = q.0 in
            let k = s.0 in
            omega arith
