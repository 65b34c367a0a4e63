-- The sheet grows literal by literal. Assumes nothing.
use mathlib.Core.Bool.{Bool, true, false, cond}
use mathlib.Core.List.{List, [], ◌∷◌, ◌++◌, map, map-append, append_assoc, append-nil}
use mathlib.Core.Path.{◌≡◌, refl, sym, ap, ap₂, ◌∙◌}
use Prim.Native.Nat.{ℕ, ◌+◌, ◌≤◌, ◌<◌}
use native.Mathlib.Numerals.{add-one}
use native.Mathlib.Omega.{arith}
use lib.ListN.{length, length-append}
use lib.Seq.{sets, length-sets}
use Rattle.bits.specs.Sets.{member}
use Rattle.ranks.specs.declared.Found.{Found}
use Rattle.decimals.proofs.Stores.{sets_append}
use Rattle.reasontext.specs.ReasonSheet.{ReasonLine, line_text, reason_text}
use Rattle.reasoncheck.specs.ReasonCheck.{literals_below}
use Rattle.reasoncheck.proofs.Matches.{below_split}
use Rattle.reasons.specs.Sheet.{line_found, lines_found, text_if}

pub text_append : (ms ls : List ReasonLine) → reason_text (ms ++ ls) ≡ reason_text ms ++ reason_text ls
unfolding reason_text
text_append [] ls = refl
text_append (x ∷ ms) ls = ap (λ (z : List ℕ). line_text x ++ z) (text_append ms ls) ∙ sym (append_assoc (line_text x) (reason_text ms) (reason_text ls))

module _ (found : Found) where
  abbrev text : ℕ → List ℕ
  text n = reason_text (lines_found found n)

  pub sheet_next : (l : ℕ) → text (l + 1) ≡ text l ++ text_if found l
  unfolding lines_found text_if literals_below reason_text
  sheet_next l =
      ap text (add-one l)
      ∙ ap reason_text (map-append (line_found found) (literals_below (member found.ranked) l) (cond (member found.ranked l) (l ∷ []) []))
      ∙ text_append (map (line_found found) (literals_below (member found.ranked) l)) (map (line_found found) (cond (member found.ranked l) (l ∷ []) []))
      ∙ ap (λ (z : List ℕ). text l ++ z) (last (member found.ranked l))
    where
      last : (b : Bool) → reason_text (map (line_found found) (cond b (l ∷ []) [])) ≡ cond b (line_text (line_found found l)) []
      last true = append-nil (line_text (line_found found l))
      last false = refl

  pub sheet_start : text 0 ≡ []
  unfolding lines_found literals_below reason_text
  sheet_start = refl

  -- a shorter sheet has no more bytes
  pub sheet_shorter : (l n : ℕ) → l ≤ n → length (text l) ≤ length (text n)
  unfolding lines_found
  sheet_shorter l n le =
      let q = below_split (member found.ranked) n l le in
      let e : text n ≡ text l ++ reason_text (map (line_found found) q.0) =
      ap (λ (z : List ℕ). reason_text (map (line_found found) z)) q.1
      ∙ ap reason_text (map-append (line_found found) (literals_below (member found.ranked) l) q.0)
      ∙ text_append (map (line_found found) (literals_below (member found.ranked) l)) (map (line_found found) q.0)
      in
      let a = ap length e in
      let b = length-append (text l) (reason_text (map (line_found found) q.0)) in
      omega arith

  -- one literal more
  pub length_next : (l : ℕ) {total more : ℕ} → total ≡ length (text l) → more ≡ length (text_if found l) → total + more ≡ length
      (text (l + 1))
  length_next l e f = let a = ap length (sheet_next l) in let b = length-append (text l) (text_if found l) in omega arith

  module _ (room : List ℕ) (l n : ℕ) (lt : l < n) (fits : length (text n) ≤ length room) {room₁ : List ℕ} {at : ℕ} (ea : at ≡ length (text l))
      (er : room₁ ≡ sets room 0 (text l)) where
    pub next_fits : at + length (text_if found l) ≤ length room₁
    next_fits =
        let a = sheet_shorter (l + 1) n (omega arith) in
        let b = length_next l ea refl in
        let c = ap length er ∙ length-sets room 0 (text l) in
        omega arith

    pub next_put : {room₂ : List ℕ} → room₂ ≡ sets room₁ at (text_if found l) → room₂ ≡ sets room 0 (text (l + 1))
    next_put e =
        let z : at ≡ 0 + length (text l) = omega arith in
        e ∙ ap₂ (λ (x : List ℕ) (i : ℕ). sets x i (text_if found l)) er z ∙ sym (sets_append room 0 (text l) (text_if found l))
        ∙ ap (sets room 0) (sym (sheet_next l))
