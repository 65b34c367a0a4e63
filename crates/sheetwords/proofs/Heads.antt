-- Each head of an accepted sheet has a record in its own line, with its sign and its name.
use mathlib.Core.Path.{◌≡◌, refl, sym, ap, ◌∙◌, subst}
use mathlib.Core.List.Memᴰ
use mathlib.Core.List.{List, [], ◌∷◌, ◌++◌}
use mathlib.Core.Bool.{Bool, true, false}
use Prim.Native.Nat.{ℕ, suc, ◌<◌}
use native.Mathlib.Omega.{arith}
use lib.Dec.{ltb}
use borrow.Author.Tests.{ltb-true, ltb-false}
use Rattle.sets.specs.Sets.{◌∈◌}
use Rattle.words.specs.Layout.{TableRecord}
use Rattle.reader.specs.declared.Role.{Role}
use Rattle.reader.specs.declared.Role.TheVariants.{Head, First, Further}
use Rattle.reader.specs.declared.SheetLiteral.{SheetLiteral}
use Rattle.reader.specs.declared.Reading.TheVariants.{Literal}
use Rattle.reader.specs.Sheet.{line_of}
use Rattle.reader.specs.Readings.{reading_at, reached}
use Rattle.reader.proofs.Laws.{literal_read}
use Rattle.names.specs.Names.{bytes_at}
use Rattle.literals.specs.Literals.{Sofar, on_last, new_record, change_groups, with_literal, atom_of, code_for, code_of, after, literal_fault}
use Rattle.sheetwords.specs.Sheets.{accepted, sheet_outcome}
use Rattle.sheetwords.proofs.Through.{literal_before, Ended, at_the_end}
use Rattle.sheetwords.proofs.Names.{NamedBy, name_stays, name_new, same_literal}
use Rattle.std.specs.Prelude.{Ok}

-- a record that keeps its line and its head
abbrev Kept : TableRecord → List TableRecord → Type 0
Kept r Q = (r' : TableRecord) × (r' ∈ Q) × (r'.line ≡ r.line) × (r'.rule.head ≡ r.rule.head)

kept_changed : (f : List (List ℕ) → List (List ℕ)) (Q : List TableRecord) (r : TableRecord) → r ∈ Q → Kept r (on_last (change_groups f) Q)
unfolding on_last
kept_changed f [] r m = absurd (Memᴰ.not-nil m)
kept_changed f (q ∷ []) r (Memᴰ.head e) =
    (change_groups f q, Memᴰ.head refl, ap (λ (x : TableRecord). x.line) (sym e), ap (λ (x : TableRecord). x.rule.head) (sym e))
kept_changed f (q ∷ []) r (Memᴰ.tail m) = absurd (Memᴰ.not-nil m)
kept_changed f (q ∷ q' ∷ Q) r (Memᴰ.head e) = (r, Memᴰ.head e, refl, refl)
kept_changed f (q ∷ q' ∷ Q) r (Memᴰ.tail m) =
    let there = kept_changed f (q' ∷ Q) r m in (there.0, Memᴰ.tail there.1, there.2, there.3)

record_stays : (role : Role) (x c : ℕ) (Q : List TableRecord) (r : TableRecord) → r ∈ Q → Kept r (with_literal role x c Q)
unfolding with_literal
record_stays Head x c Q r m = (r, Memᴰ.append_left (new_record x c ∷ []) m, refl, refl)
record_stays First x c Q r m = kept_changed (λ βs. βs ++ ((c ∷ []) ∷ [])) Q r m
record_stays Further x c Q r m = kept_changed (on_last (λ β. β ++ (c ∷ []))) Q r m

new_record_lem : (role : Role) (x c : ℕ) (Q : List TableRecord) → role ≡ Head → new_record x c ∈ with_literal role x c Q
unfolding with_literal
new_record_lem Head x c Q e = Memᴰ.append_right Q (Memᴰ.head refl)
new_record_lem First x c Q e = let z : ◌≡◌ {A = ℕ} 0 1 = cc in absurd (omega arith)
new_record_lem Further x c Q e = let z : ◌≡◌ {A = ℕ} 0 1 = cc in absurd (omega arith)

-- a record in a literal's line, with its sign and its name
abbrev pub Headed : List ℕ → List TableRecord → List ℕ → SheetLiteral → Type 0
Headed s Q es l =
    (r : TableRecord) × (r ∈ Q) × (r.line ≡ line_of s l.start)
    × (a : ℕ) × (r.rule.head ≡ code_for l.negated a) × NamedBy s es a (bytes_at s l.start l.len)

-- the heads among the first `count` literals
abbrev AllHeaded : List ℕ → ℕ → Sofar → Type 0
AllHeaded s count sofar =
    (i : ℕ) → i < count → (l : SheetLiteral) → reading_at s (reached s 0 i) ≡ Literal l → l.role ≡ Head
    → Headed s sofar.records sofar.names l

headed_on : (s : List ℕ) (count : ℕ) (sofar : Sofar) (k : SheetLiteral) → reading_at s (reached s 0 count) ≡ Literal k
    → literal_fault s (reached s 0 count) sofar k ≡ Ok tt → AllHeaded s count sofar → AllHeaded s (suc count) (after s sofar k)
unfolding after
headed_on s count sofar k is fault headed i h l e head = by (ltb i count) refl
  where
    es : List ℕ
    es = sofar.names

    by : (b : Bool) → ltb i count ≡ b → Headed s (after s sofar k).records (after s sofar k).names l
    by true q =
        let old = headed i (ltb-true i count q) l e head in
        let stays = record_stays k.role (line_of s k.start) (code_of s es k) sofar.records old.0 old.1 in
        (stays.0, stays.1, stays.2 ∙ old.2, old.3, stays.3 ∙ old.4, name_stays s es (atom_of s es k) old.3 k _ old.5)
    by false q =
        let last : i ≡ count = omega (arith, ltb-false i count q) in
        let same = same_literal k l (sym is ∙ ap (λ (x : ℕ). reading_at s (reached s 0 x)) (sym last) ∙ e) in
        let short : k.len < 32 = omega (arith, (literal_read s (reached s 0 count) k is).named.at_most_24) in
        subst (Headed s (after s sofar k).records (after s sofar k).names) same (
          new_record (line_of s k.start) (code_of s es k),
          new_record_lem k.role (line_of s k.start) (code_of s es k) sofar.records (ap (λ (x : SheetLiteral). x.role) same ∙ head),
          refl,
          atom_of s es k,
          refl,
          name_new s es k short,
        )

module _ (s : List ℕ) (wordRoom nameRoom : ℕ) (x : Sofar) (read : sheet_outcome s wordRoom nameRoom ≡ accepted x) where
  ended : Ended s (AllHeaded s) (headed_on s) x
  ended = at_the_end s (AllHeaded s) (headed_on s) x wordRoom nameRoom (λ i h. absurd (omega arith)) read

  pub head_has_record : (i : ℕ) (l : SheetLiteral) → reading_at s (reached s 0 i) ≡ Literal l → l.role ≡ Head → Headed s x.records x.names l
  head_has_record i l e head = ended.2 i (literal_before s ended.0 ended.1 i l e) l e head
