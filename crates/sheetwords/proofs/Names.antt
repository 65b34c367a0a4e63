-- The names of an accepted sheet: each is written in it, no two are equal, and every literal has one of them.
use mathlib.Core.Path.{◌≡◌, refl, sym, ap, ap₂, ◌∙◌, subst}
use mathlib.Core.Logic.{inl, inr}
use mathlib.Core.List.Memᴰ
use mathlib.Core.List.{List, [], ◌∷◌, ◌++◌}
use mathlib.Core.Bool.{Bool, true, false, cond}
use Prim.Native.Nat.{ℕ, zero, suc, ◌+◌, ◌<◌}
use native.Mathlib.Omega.{arith}
use lib.Dec.{ltb}
use lib.ListN.{length, get_or, length-append, get_or-append}
use lib.Seq.{get_or_at}
use borrow.Author.Tests.{ltb-true, ltb-false}
use Rattle.sets.specs.Sets.{◌∈◌}
use Rattle.reader.specs.declared.SheetLiteral.{SheetLiteral}
use Rattle.reader.specs.declared.Reading.TheVariants.{End, Literal}
use Rattle.reader.specs.Sheet.{byte_at, continues_name}
use Rattle.reader.specs.Readings.{reading_at, reached}
use Rattle.reader.proofs.Laws.{literal_read, ends_at_the_end}
use Rattle.names.specs.Names.{bytes_at, entry_for, name_of, number_in}
use Rattle.names.proofs.Laws.{number_names, number_new, entry_start, entry_length}
use Rattle.names.proofs.Steps.{number_at_most}
use Rattle.literals.specs.Literals.{Sofar, atom_of, with_name, after, literal_fault}
use Rattle.literals.proofs.Lasts.{Below, below_snoc}
use Rattle.sheetwords.specs.Sheets.{accepted, sheet_outcome}
use Rattle.sheetwords.proofs.Through.{literal_before, Ended, at_the_end}
use Rattle.std.specs.Prelude.{Ok}

-- a name that a literal of the sheet has
abbrev Written : List ℕ → List ℕ → Type 0
Written s name = (i : ℕ) × (l : SheetLiteral) × (reading_at s (reached s 0 i) ≡ Literal l) × (name ≡ bytes_at s l.start l.len)

-- entry a has the name
abbrev pub NamedBy : List ℕ → List ℕ → ℕ → List ℕ → Type 0
NamedBy s es a name = (a < length es) × (name_of s (get_or es a 0) ≡ name)

entry_name : (s : List ℕ) (l : SheetLiteral) → l.len < 32 → name_of s (entry_for l.start l.len) ≡ bytes_at s l.start l.len
entry_name s l short = ap₂ (bytes_at s) (entry_start l.start l.len short) (entry_length l.start l.len short)

-- the names before stay, and a literal's is one of them
pub name_stays : (s es : List ℕ) (a b : ℕ) (l : SheetLiteral) (name : List ℕ) → NamedBy s es b name → NamedBy s (with_name a l es) b name
unfolding with_name
name_stays s es a b l name named = by (ltb a (length es))
  where
    e : ℕ
    e = entry_for l.start l.len

    by : (c : Bool) → NamedBy s (cond c es (es ++ (e ∷ []))) b name
    by true = named
    by false =
        (omega (arith, named.0, length-append es (e ∷ [])), ap (name_of s) (get_or-append es (e ∷ []) 0 b named.0) ∙ named.1)

pub name_new : (s es : List ℕ) (l : SheetLiteral) → l.len < 32
    → NamedBy s (with_name (atom_of s es l) l es) (atom_of s es l) (bytes_at s l.start l.len)
unfolding with_name
name_new s es l short = by (ltb (atom_of s es l) (length es)) refl
  where
    e : ℕ
    e = entry_for l.start l.len

    by : (c : Bool) → ltb (atom_of s es l) (length es) ≡ c → NamedBy s (cond c es (es ++ (e ∷ []))) (atom_of s es l) (bytes_at s l.start l.len)
    by true q = let h = ltb-true (atom_of s es l) (length es) q in (h, number_names s es (bytes_at s l.start l.len) h)
    by false q =
        let last : atom_of s es l ≡ length es =
        omega (arith, ltb-false (atom_of s es l) (length es) q, number_at_most s es (bytes_at s l.start l.len)) in
        (omega (arith, last, length-append es (e ∷ [])), ap (name_of s) (get_or_at es e [] 0 (atom_of s es l) (sym last)) ∙ entry_name s l short)

-- the entries of the first `count` literals: no two have one name, each name is written, and each literal has one
abbrev Apart : List ℕ → List ℕ → Type 0
Apart s es = (a b : ℕ) → a < length es → b < length es → name_of s (get_or es a 0) ≡ name_of s (get_or es b 0) → a ≡ b

abbrev EachWritten : List ℕ → List ℕ → Type 0
EachWritten s es = (a : ℕ) → a < length es → Written s (name_of s (get_or es a 0))

record Listed (s : List ℕ) (count : ℕ) (es : List ℕ) : Type 0 where
  apart : Apart s es
  written : EachWritten s es
  entered : (i : ℕ) → i < count → (l : SheetLiteral) → reading_at s (reached s 0 i) ≡ Literal l
      → (a : ℕ) × NamedBy s es a (bytes_at s l.start l.len)

pub same_literal : (k l : SheetLiteral) → Literal k ≡ Literal l → k ≡ l
same_literal k l e = cc e

module _ (s : List ℕ) (count : ℕ) (es : List ℕ) (listed : Listed s count es) (l : SheetLiteral) (is : reading_at s (reached s 0 count) ≡ Literal l)
  where
    abbrev name : List ℕ
    name = bytes_at s l.start l.len

    abbrev entry : ℕ
    entry = entry_for l.start l.len

    short : l.len < 32
    short = omega (arith, (literal_read s (reached s 0 count) l is).named.at_most_24)

    -- a new name, and its entry
    module _ (new : number_in s es name < length es → ⊥) where
      abbrev more : List ℕ
      more = es ++ (entry ∷ [])

      differs : (a : ℕ) → a < length es → name_of s (get_or es a 0) ≡ name → ⊥
      differs a h e = new (number_new s es name a h e)

      apart_more : (a b : ℕ) → Below 0 es entry a → Below 0 es entry b → name_of s (get_or more a 0) ≡ name_of s (get_or more b 0) → a ≡ b
      apart_more a b (inl x) (inl y) e = listed.apart a b x.0 y.0 (sym (ap (name_of s) x.1) ∙ e ∙ ap (name_of s) y.1)
      apart_more a b (inl x) (inr y) e = absurd (differs a x.0 (sym (ap (name_of s) x.1) ∙ e ∙ ap (name_of s) y.1 ∙ entry_name s l short))
      apart_more a b (inr x) (inl y) e = absurd (differs b y.0 (sym (ap (name_of s) y.1) ∙ sym e ∙ ap (name_of s) x.1 ∙ entry_name s l short))
      apart_more a b (inr x) (inr y) e = x.0 ∙ sym y.0

      written_more : (a : ℕ) → Below 0 es entry a → Written s (name_of s (get_or more a 0))
      written_more a (inl x) = subst (λ (f : ℕ). Written s (name_of s f)) (sym x.1) (listed.written a x.0)
      written_more a (inr x) = (count, l, is, ap (name_of s) x.1 ∙ entry_name s l short)

    still_listed : (b : Bool) → ltb (number_in s es name) (length es) ≡ b
        → Apart s (cond b es (es ++ (entry ∷ []))) × EachWritten s (cond b es (es ++ (entry ∷ [])))
    still_listed true q = (listed.apart, listed.written)
    still_listed false q =
        let new : (number_in s es name < length es → ⊥) = λ h. omega (arith, ltb-false (number_in s es name) (length es) q) in (
          λ a b h h'. apart_more new a b (below_snoc 0 es entry a h) (below_snoc 0 es entry b h'),
          λ a h. written_more new a (below_snoc 0 es entry a h),
        )

    listed_after : Listed s (suc count) (with_name (atom_of s es l) l es)
    unfolding with_name
    listed_after =
        let still = still_listed (ltb (number_in s es name) (length es)) refl in
        record { apart = still.0; written = still.1; entered = λ i h k e. entered i h k e (ltb i count) refl }
      where
        entered : (i : ℕ) → i < suc count → (k : SheetLiteral) → reading_at s (reached s 0 i) ≡ Literal k → (b : Bool) → ltb i count ≡ b
            → (a : ℕ) × NamedBy s (with_name (atom_of s es l) l es) a (bytes_at s k.start k.len)
        entered i h k e true q =
            let old = listed.entered i (ltb-true i count q) k e in (old.0, name_stays s es (atom_of s es l) old.0 l _ old.1)
        entered i h k e false q =
            let last : i ≡ count = omega (arith, ltb-false i count q) in
            let same = same_literal l k (sym is ∙ ap (λ (x : ℕ). reading_at s (reached s 0 x)) (sym last) ∙ e) in
            subst (λ (m : SheetLiteral). (a : ℕ) × NamedBy s (with_name (atom_of s es l) l es) a (bytes_at s m.start m.len)) same
            (atom_of s es l, name_new s es l short)

listed_on : (s : List ℕ) (count : ℕ) (sofar : Sofar) (l : SheetLiteral) → reading_at s (reached s 0 count) ≡ Literal l
    → literal_fault s (reached s 0 count) sofar l ≡ Ok tt → Listed s count sofar.names → Listed s (suc count) (after s sofar l).names
unfolding after
listed_on s count sofar l is fault listed = listed_after s count sofar.names listed l is

none_listed : (s : List ℕ) → Listed s 0 []
none_listed s = record {
  apart = λ a b h h' e. absurd (omega arith);
  written = λ a h. absurd (omega arith);
  entered = λ i h l e. absurd (omega arith);
}

-- what holds of each byte from a place on holds of the members of their list
bytes_each : (s : List ℕ) (q n : ℕ) → ((i : ℕ) → i < n → continues_name (byte_at s (q + i)) ≡ true)
    → (b : ℕ) → b ∈ bytes_at s q n → continues_name b ≡ true
unfolding bytes_at
bytes_each s q zero each b m = absurd (Memᴰ.not-nil m)
bytes_each s q (suc n) each b (Memᴰ.head e) =
    let here : q ≡ q + 0 = omega arith in ap continues_name (e ∙ ap (byte_at s) here) ∙ each 0 (omega arith)
bytes_each s q (suc n) each b (Memᴰ.tail m) = bytes_each s (suc q) n (λ i h. later i h) b m
  where
    later : (i : ℕ) → i < n → continues_name (byte_at s (suc q + i)) ≡ true
    later i h = let there : suc q + i ≡ q + suc i = omega arith in ap (λ (x : ℕ). continues_name (byte_at s x)) there ∙ each (suc i) (omega arith)

module _ (s : List ℕ) (wordRoom nameRoom : ℕ) (x : Sofar) (read : sheet_outcome s wordRoom nameRoom ≡ accepted x) where
  finished : Ended s (λ count sofar. Listed s count sofar.names) (listed_on s) x
  finished = at_the_end s (λ count sofar. Listed s count sofar.names) (listed_on s) x wordRoom nameRoom (none_listed s) read

  -- the reader has come to the sheet's end
  pub read_to_the_end : (i : ℕ) × (reached s 0 i ≡ length s) × (reading_at s (reached s 0 i) ≡ End)
  read_to_the_end = (finished.0, ends_at_the_end s (reached s 0 finished.0) finished.1, finished.1)

  -- no two names are equal
  pub names_apart : (a b : ℕ) → a < length x.names → b < length x.names
      → name_of s (get_or x.names a 0) ≡ name_of s (get_or x.names b 0) → a ≡ b
  names_apart = finished.2.apart

  -- every literal of the sheet has one of the names
  pub literal_has_name : (i : ℕ) (l : SheetLiteral) → reading_at s (reached s 0 i) ≡ Literal l
      → (a : ℕ) × (a < length x.names) × (name_of s (get_or x.names a 0) ≡ bytes_at s l.start l.len)
  literal_has_name i l e =
      let got = finished.2.entered i (literal_before s finished.0 finished.1 i l e) l e in (got.0, got.1.0, got.1.1)

  -- each name is that of a literal of the sheet
  pub name_is_written : (a : ℕ) → a < length x.names
      → (i : ℕ) × (l : SheetLiteral) × (reading_at s (reached s 0 i) ≡ Literal l) × (name_of s (get_or x.names a 0) ≡ bytes_at s l.start l.len)
  name_is_written = finished.2.written

  -- each byte of a name is one that a name may have
  pub name_bytes_lem : (a : ℕ) → a < length x.names → (b : ℕ) → b ∈ name_of s (get_or x.names a 0) → continues_name b ≡ true
  name_bytes_lem a h b m =
      let there = name_is_written a h in
      let l = there.1 in
      bytes_each s l.start l.len (literal_read s _ l there.2).named.in_run b (subst (λ (n : List ℕ). b ∈ n) there.3 m)
