-- Lines matched with their literals hold exactly if the tests pass. Assumes nothing.
use mathlib.Core.Bool.{Bool, true, false, true≢false, cond, ◌&&◌}
use mathlib.Core.List.Memᴰ
use mathlib.Core.List.{List, [], ◌∷◌, ◌++◌, map-append, append_assoc, cons≢nil, head-eq_of_cons-eq, tail-eq_of_cons-eq}
use mathlib.Core.Logic.{⊎_elim}
use mathlib.Core.Path.{◌≡◌, refl, sym, ap, ap₂, ◌∙◌, subst, subst⁻¹, fun_ext}
use Prim.Native.Nat.{ℕ, zero, suc, ◌≤◌, ◌<◌}
use native.Mathlib.Omega.{arith}
use lib.Dec.{leb}
use lib.ListN.{length}
use borrow.Author.Tests.{leb-true, le-leb}
use Rattle.limits.specs.Limits.{most_rank}
use Rattle.sets.specs.Sets.{◌∈◌}
use Rattle.sets.specs.First.{FirstNot}
use Rattle.sets.proofs.First.{All, first_behind}
use Rattle.sets.proofs.Tests.{T→true, true→T, and_both}
use Rattle.paper.specs.Rules.{Rule}
use Rattle.paper.specs.Definitions.{Interpretation}
use Rattle.refusal.specs.Checks.{Checked}
use Rattle.bits.specs.Sets.{member}
use Rattle.justified.specs.Justified.{Justified}
use Rattle.justified.specs.declared.Line.{Line}
use Rattle.justified.specs.ByLiteral.{rank_in, head_in, group_in}
use Rattle.grounds.specs.Grounds.{JustifiedLines}
use Rattle.reasontext.specs.ReasonSheet.{ReasonLine}
use Rattle.reasoncheck.specs.ReasonCheck.{literals_below, codes_of, in_line_of, SmallerRank, LineHolds}
use Rattle.reasoncheck.specs.Matching.{LinesHold, LinesAllow, all_pass, first_fails, JudgeAllows, not_all_hold, all_hold}
use Rattle.reasoncheck.proofs.Matches.{in_line, below_less, below_in, below_next, below_split, length_codes}

-- each number is smaller than all behind it
Ascending : List ℕ → Type 0
Ascending [] = Unit {0}
Ascending (x ∷ xs) = All (λ y. x < y) xs × Ascending xs

ascending_behind : (xs : List ℕ) (n : ℕ) → Ascending xs → All (λ y. y < n) xs → Ascending (xs ++ n ∷ [])
unfolding Ascending
ascending_behind [] n a b = ((λ y m. absurd (Memᴰ.not-nil m)), tt)
ascending_behind (x ∷ xs) n a b = (
  (λ y m. ⊎_elim (λ (k : y ∈ xs). a.0 y k)
      (λ (k : y ∈ (n ∷ [])). ⊎_elim (λ (e : y ≡ n). rw e (b x (Memᴰ.head refl))) (λ (j : y ∈ []). absurd (Memᴰ.not-nil j))
      (Memᴰ.cases_cons k))
      (Memᴰ.append_cases xs m)),
  ascending_behind xs n a.1 (λ y m. b y (Memᴰ.tail m)),
)

below_ascending : (I : Interpretation) (n : ℕ) → Ascending (literals_below I n)
unfolding literals_below Ascending
below_ascending I zero = tt
below_ascending I (suc n) = go (I n) (below_ascending I n)
  where
    go : (b : Bool) → Ascending (literals_below I n) → Ascending (literals_below I n ++ cond b (n ∷ []) [])
    go true a = ascending_behind (literals_below I n) n a (λ y m. below_less I n y m)
    go false a = subst⁻¹ Ascending (mathlib.Core.List.append-nil (literals_below I n)) a

ascending_split : (xs : List ℕ) (b : ℕ) (ys : List ℕ) → Ascending (xs ++ b ∷ ys) → (a : ℕ) → a ∈ xs → a < b
unfolding Ascending
ascending_split [] b ys s a m = absurd (Memᴰ.not-nil m)
ascending_split (x ∷ xs) b ys s a m =
    ⊎_elim (λ (e : a ≡ x). rw e (s.0 b (Memᴰ.append_right xs (Memᴰ.head refl)))) (λ (k : a ∈ xs). ascending_split xs b ys s.1 a k)
    (Memᴰ.cases_cons m)

-- a member stands behind some others
member_splits : {x : ReasonLine} {ls : List ReasonLine} → x ∈ ls → (ms : List ReasonLine) × (rest : List ReasonLine) × (ls ≡ ms ++ x ∷ rest)
member_splits {ls = []} m = absurd (Memᴰ.not-nil m)
member_splits {x} {ls = y ∷ ls} m =
    ⊎_elim (λ (e : x ≡ y). ([], ls, ap (λ (z : ReasonLine). z ∷ ls) (sym e)))
    (λ (k : x ∈ ls). let q = member_splits k in (y ∷ q.0, q.1, ap (λ (z : List ReasonLine). y ∷ z) q.2)) (Memᴰ.cases_cons m)

-- lines whose codes are split are split there
record Split (ls : List ReasonLine) (cs₀ : List ℕ) (b : ℕ) : Type 0 where
  front : List ReasonLine
  line : ReasonLine
  rest : List ReasonLine
  is : ls ≡ front ++ line ∷ rest
  front_codes : codes_of front ≡ cs₀
  line_code : line.literal ≡ b

split_codes : (ls : List ReasonLine) (cs₀ : List ℕ) (b : ℕ) (cs : List ℕ) → codes_of ls ≡ cs₀ ++ b ∷ cs → Split ls cs₀ b
split_codes [] [] b cs e = absurd (cons≢nil (sym e))
split_codes [] (a ∷ cs₀) b cs e = absurd (cons≢nil (sym e))
split_codes (x ∷ ls) [] b cs e =
    record { front = []; line = x; rest = ls; is = refl; front_codes = refl; line_code = head-eq_of_cons-eq e }
split_codes (x ∷ ls) (a ∷ cs₀) b cs e =
    let q = split_codes ls cs₀ b cs (tail-eq_of_cons-eq e) in
    record {
      front = x ∷ q.front;
      line = q.line;
      rest = q.rest;
      is = ap (λ (z : List ReasonLine). x ∷ z) q.is;
      front_codes = ap₂ (λ (y : ℕ) (ys : List ℕ). y ∷ ys) (head-eq_of_cons-eq e) q.front_codes;
      line_code = q.line_code;
    }

module _ (R : List Rule) (I : Interpretation) (n : ℕ) (ls : List ReasonLine) (lines : List Line) (ok : List ℕ) (codes : literals_below I n ≡ codes_of ls)
    (hold : LinesHold lines ls) (just : JustifiedLines R I lines (member ok)) where
  abbrev passes : ℕ → Bool
  passes l = leb (rank_in lines l) most_rank && member ok l

  same_order : (λ (x y : ℕ). rank_in lines x < rank_in lines y) ≡ SmallerRank ls
  same_order =
      ap (λ (r : ℕ → ℕ). λ (x y : ℕ). r x < r y) (fun_ext {f = rank_in lines} {g = in_line_of (λ x. x.rank) ls} (λ x. hold.ranks x))

  -- the numbers of a line stand by its literal
  own : (f : ReasonLine → ℕ) (ms : List ReasonLine) (x : ReasonLine) (rest : List ReasonLine) → ls ≡ ms ++ x ∷ rest → in_line_of f ls
      x.literal ≡ f x
  own f ms x rest e =
      ap (λ (z : List ReasonLine). in_line_of f z x.literal) e
      ∙ in_line f ms x rest x.literal (λ z m s. let k = earlier z m in omega arith) refl
    where
      whole : literals_below I n ≡ codes_of ms ++ x.literal ∷ codes_of rest
      whole = codes ∙ ap codes_of e ∙ map-append (λ (y : ReasonLine). y.literal) ms (x ∷ rest)

      earlier : (z : ReasonLine) → z ∈ ms → z.literal < x.literal
      earlier z m =
          ascending_split (codes_of ms) x.literal (codes_of rest) (subst Ascending whole (below_ascending I n)) z.literal
          (Memᴰ.map (λ (y : ReasonLine). y.literal) m)

  module _ (ms : List ReasonLine) (x : ReasonLine) (rest : List ReasonLine) (e : ls ≡ ms ++ x ∷ rest) where
    rank_is : rank_in lines x.literal ≡ x.rank
    rank_is = hold.ranks x.literal ∙ own (λ y. y.rank) ms x rest e

    line_is : Justified R I (λ a b. rank_in lines a < rank_in lines b) x.literal (head_in lines x.literal) (group_in lines x.literal)
        ≡ Justified R I (SmallerRank ls) x.literal x.rule_head x.group
    line_is =
        ap (λ (o : ℕ → ℕ → Type 0). Justified R I o x.literal (head_in lines x.literal) (group_in lines x.literal)) same_order
        ∙ ap₂ (λ (h g : ℕ). Justified R I (SmallerRank ls) x.literal h g) (hold.heads x.literal ∙ own (λ y. y.rule_head) ms x rest e)
        (hold.groups x.literal ∙ own (λ y. y.group) ms x rest e)

    passes→holds : passes x.literal ≡ true → LineHolds R I ls x
    passes→holds p =
        let q = and_both (leb (rank_in lines x.literal) most_rank) (member ok x.literal) p in
        record {
          rank_small = subst (λ (r : ℕ). r ≤ most_rank) rank_is (leb-true (rank_in lines x.literal) most_rank q.0);
          justified = subst (λ (A : Type 0). A) line_is ((just x.literal).0 (true→T (member ok x.literal) q.1));
        }

    holds→passes : LineHolds R I ls x → passes x.literal ≡ true
    holds→passes h =
        rw (le-leb (rank_in lines x.literal) most_rank (subst⁻¹ (λ (r : ℕ). r ≤ most_rank) rank_is h.rank_small))
        (T→true (member ok x.literal) ((just x.literal).1 (subst⁻¹ (λ (A : Type 0). A) line_is h.justified)))

  pub judged : {r : Checked} → LinesAllow I passes n r → JudgeAllows R I n ls r
  judged (all_pass f) = all_hold codes (λ x m. let s = member_splits m in
      let i : x.literal ∈ literals_below I n = subst⁻¹ (λ (c : List ℕ). x.literal ∈ c) codes (Memᴰ.map (λ (y : ReasonLine). y.literal) m) in
      passes→holds s.0 x s.1 s.2 (f x.literal (below_less I n x.literal i) (below_in I n x.literal i)))
  judged (first_fails l lt wants fails before) =
      let q = below_split I n (suc l) (omega arith) in
      let whole : codes_of ls ≡ literals_below I l ++ l ∷ q.0 =
      sym codes ∙ q.1 ∙ ap (λ (c : List ℕ). c ++ q.0) (below_next I l wants) ∙ append_assoc (literals_below I l) (l ∷ []) q.0
      in
      let s = split_codes ls (literals_below I l) l q.0 whole in
      let len : length (literals_below I l) ≡ length s.front = ap length (sym s.front_codes) ∙ length_codes s.front in
      let first : FirstNot (LineHolds R I ls) (s.front ++ s.line ∷ s.rest) (length s.front) =
      first_behind (LineHolds R I ls) s.front s.line s.rest (λ x m. fronts s x m)
      (λ h. true≢false (sym (holds→passes s.front s.line s.rest s.is h) ∙ ap passes s.line_code ∙ fails))
      in
      rw len (not_all_hold codes (subst⁻¹ (λ (z : List ReasonLine). FirstNot (LineHolds R I ls) z (length s.front)) s.is first))
    where
      fronts : (s : Split ls (literals_below I l) l) (x : ReasonLine) → x ∈ s.front → LineHolds R I ls x
      fronts s x m =
          let p = member_splits m in
          let e : ls ≡ p.0 ++ x ∷ (p.1 ++ s.line ∷ s.rest) =
          s.is ∙ ap (λ (z : List ReasonLine). z ++ s.line ∷ s.rest) p.2 ∙ append_assoc p.0 (x ∷ p.1) (s.line ∷ s.rest)
          in
          let i : x.literal ∈ literals_below I l = subst (λ (c : List ℕ). x.literal ∈ c) s.front_codes
          (Memᴰ.map (λ (y : ReasonLine). y.literal) m) in
          passes→holds p.0 x (p.1 ++ s.line ∷ s.rest) e (before x.literal (below_less I l x.literal i) (below_in I l x.literal i))
