-- The words of an accepted sheet are an accepted table for its N, and its records are those of the table.
use mathlib.Core.Path.{◌≡◌, refl, sym, ap, ◌∙◌, subst}
use mathlib.Core.Logic.{⊎_elim}
use mathlib.Core.List.Memᴰ
use mathlib.Core.List.{List, [], ◌∷◌, ◌++◌}
use mathlib.Core.Bool.{Bool, true, false, cond, true≢false}
use Prim.Native.Nat.{ℕ, ◌+◌, ◌*◌, ◌≤◌, ◌<◌}
use native.Mathlib.Omega.{arith}
use lib.Dec.{eqb, ltb}
use lib.ListN.{length, length-append}
use borrow.Author.Tests.{ltb-true}
use Rattle.limits.specs.Limits.{most_line}
use Rattle.sets.specs.Sets.{◌∈◌, ◌with◌}
use Rattle.words.specs.Layout.{TableRecord, words_of, records_of, groups_words, body_at}
use Rattle.words.specs.Check.{no_heads, AcceptedTable}
use Rattle.words.specs.Within.{GroupWithin, BodyWithin, Within}
use Rattle.words.proofs.Good.{Good, good_heads, good_lines, good_distinct, good_bodies}
use Rattle.words.proofs.Laws.{within_accepted}
use Rattle.words.proofs.Reading.{records_of_words_of, records_fit}
use Rattle.reader.specs.declared.Role.{Role}
use Rattle.reader.specs.declared.Role.TheVariants.{Head, First, Further}
use Rattle.reader.specs.declared.SheetLiteral.{SheetLiteral}
use Rattle.reader.specs.declared.Reading.TheVariants.{Literal}
use Rattle.reader.specs.Sheet.{line_of}
use Rattle.reader.specs.Readings.{reading_at, place_after, reached}
use Rattle.reader.proofs.Laws.{literal_read}
use Rattle.names.specs.Names.{bytes_at}
use Rattle.names.proofs.Steps.{number_at_most}
use Rattle.literals.specs.declared.Counts.{Counts}
use Rattle.literals.specs.Literals.{Sofar, nothing, on_last, last_or, new_record, last_groups, last_group, change_groups, with_literal, atom_of, code_of, with_name, after, is_head, repeats, in_body, literal_fault}
use Rattle.sheetwords.specs.Sheets.{accepted, sheet_outcome}
use Rattle.literals.specs.Putting.{names_with}
use Rattle.literals.proofs.Lasts.{but_last, Some, snoc_of, on_last_is}
use Rattle.literals.proofs.Taking.{faultless_allowed}
use Rattle.literals.proofs.Growth.{Standing, begun, words_grow, LineByLine, lines_grow, names_length, code_below}
use Rattle.sheetwords.proofs.Filling.{Ready, line_is, head_line, ready_next, ready_first}
use Rattle.sheetwords.proofs.Through.{place_reached, at_the_end}
use Rattle.std.specs.Prelude.{Ok}

-- what holds of each element of a list, with one more at its end
all_snoc : {A : Type 0} (P : A → Type 0) (l : List A) (y : A) → ((x : A) → x ∈ l → P x) → P y → (x : A) → x ∈ l ++ (y ∷ []) → P x
all_snoc P l y each last x m =
    ⊎_elim (λ (m' : x ∈ l). each x m') (λ m'. subst P (sym (Memᴰ.eq_of_singleton m')) last) (Memᴰ.append_cases l m)

front_of : {A : Type 0} (l : List A) (x : A) → x ∈ but_last l → x ∈ l
front_of [] x m = m
front_of (y ∷ []) x m = absurd (Memᴰ.not-nil m)
front_of (y ∷ z ∷ l) x (Memᴰ.head e) = Memᴰ.head e
front_of (y ∷ z ∷ l) x (Memᴰ.tail m) = Memᴰ.tail (front_of (z ∷ l) x m)

last_of : {A : Type 0} (other : A) (l : List A) → Some l → last_or other l ∈ l
unfolding last_or
last_of other [] h = absurd h
last_of other (x ∷ []) h = Memᴰ.head refl
last_of other (x ∷ y ∷ l) h = Memᴰ.tail (last_of x (y ∷ l) tt)

-- with more atoms what was within the limits still is
more_groups : (N N' : ℕ) (β : List ℕ) → N ≤ N' → GroupWithin N β → GroupWithin N' β
more_groups N N' β h g = record { not_empty = g.not_empty; at_most_64 = g.at_most_64; literals_below_lem = λ l m. omega (arith, g.literals_below_lem l m) }

more_bodies : (N N' : ℕ) (βs : List (List ℕ)) → N ≤ N' → BodyWithin N βs → BodyWithin N' βs
more_bodies N N' βs h b = record { at_most_64 = b.at_most_64; each_group = λ β m. more_groups N N' β h (b.each_group β m) }

more_atoms : (N N' : ℕ) (seen : ℕ → Bool) (Q : List TableRecord) → N ≤ N' → Good N seen Q → Good N' seen Q
more_atoms N N' seen [] h g = tt
more_atoms N N' seen (r ∷ Q) h g =
    (omega (arith, g.0), g.1, g.2, more_bodies N N' r.rule.groups h g.3, more_atoms N N' (seen with r.rule.head) Q h g.4)

-- a record more
cond_false : (b x : Bool) → cond b true x ≡ false → (b ≡ false) × (x ≡ false)
cond_false true x e = absurd (true≢false e)
cond_false false x e = (refl, e)

no_body : (N : ℕ) → BodyWithin N []
no_body N = record { at_most_64 = omega arith; each_group = λ β m. absurd (Memᴰ.not-nil m) }

good_head : (N : ℕ) (seen : ℕ → Bool) (Q : List TableRecord) (x c : ℕ) → c < 2 * N → x ≤ most_line → seen c ≡ false
    → is_head Q c ≡ false → Good N seen Q → Good N seen (Q ++ (new_record x c ∷ []))
unfolding is_head
good_head N seen [] x c h low unseen new g = (h, unseen, low, no_body N, tt)
good_head N seen (r ∷ Q) x c h low unseen new g =
    let both = cond_false (eqb c r.rule.head) (is_head Q c) new in
    let onward = good_head N (seen with r.rule.head) Q x c h low (ap (λ (b : Bool). cond b true (seen c)) both.0 ∙ unseen) both.1 g.4 in
    (g.0, g.1, g.2, g.3, onward)

-- the last record with other groups
good_changed : (f : List (List ℕ) → List (List ℕ)) (N : ℕ) (seen : ℕ → Bool) (other : TableRecord) (Q : List TableRecord)
    → Some Q → Good N seen Q → BodyWithin N (f (last_or other Q).rule.groups) → Good N seen (on_last (change_groups f) Q)
unfolding on_last last_or
good_changed f N seen other [] some g b = absurd some
good_changed f N seen other (r ∷ []) some g b = (g.0, g.1, g.2, b, tt)
good_changed f N seen other (r ∷ s ∷ Q) some g b = (g.0, g.1, g.2, g.3, good_changed f N (seen with r.rule.head) r (s ∷ Q) tt g.4 b)

last_body : (N : ℕ) (Q : List TableRecord) → Some Q → Good N no_heads Q → BodyWithin N (last_groups Q)
last_body N Q some g =
    good_bodies N no_heads Q g (last_or (new_record 0 0) Q).rule (Memᴰ.map (λ (r : TableRecord). r.rule) (last_of (new_record 0 0) Q some))

one_literal : (N c : ℕ) → c < 2 * N → GroupWithin N (c ∷ [])
one_literal N c h =
    record {
      not_empty = omega arith;
      at_most_64 = omega arith;
      literals_below_lem = λ l m. subst (λ (x : ℕ). x < 2 * N) (sym (Memᴰ.eq_of_singleton m)) h;
    }

more_literals : (N c : ℕ) (β : List ℕ) → c < 2 * N → length β + 1 ≤ 64 → GroupWithin N β → GroupWithin N (β ++ (c ∷ []))
more_literals N c β h short g = record {
  not_empty = omega (arith, length-append β (c ∷ []));
  at_most_64 = omega (arith, length-append β (c ∷ []));
  literals_below_lem = all_snoc (λ l. l < 2 * N) β c g.literals_below_lem h;
}

-- where a literal stands, by the records alone
abbrev counts_of : List TableRecord → Counts
counts_of Q = record {
  atoms = 0;
  words = length (words_of Q);
  line = length Q;
  rule = length (words_of (but_last Q));
  group = body_at (length (words_of (but_last Q))) + length (groups_words (but_last (last_groups Q)));
}

by_records : (role : Role) (k : Counts) (Q : List TableRecord) → Standing role k Q → Standing role (counts_of Q) Q
by_records Head k Q at = tt
by_records First k Q at = (at.0, refl)
by_records Further k Q at = ((at.0.0, refl), (at.1.0, refl))

-- one literal more keeps the limits
good_after : (role : Role) (N : ℕ) (Q : List TableRecord) (x c : ℕ) → Standing role (counts_of Q) Q → c < 2 * N → x ≤ most_line
    → repeats role (is_head Q) c ≡ false → in_body role (length (last_groups Q)) (length (last_group Q)) ≤ 64
    → Good N no_heads Q → Good N no_heads (with_literal role x c Q)
unfolding with_literal
good_after Head N Q x c at h low new short g = good_head N no_heads Q x c h low refl new g
good_after First N Q x c at h low new short g =
    let βs = last_groups Q in
    let body = last_body N Q at.0 g in
    good_changed (λ γs. γs ++ ((c ∷ []) ∷ [])) N no_heads (new_record 0 0) Q at.0 g
    (record {
      at_most_64 = omega (arith, length-append βs ((c ∷ []) ∷ []));
      each_group = all_snoc (GroupWithin N) βs (c ∷ []) body.each_group (one_literal N c h);
    })
good_after Further N Q x c at h low new short g =
    let βs = last_groups Q in
    let body = last_body N Q at.0.0 g in
    let grown = on_last_is (λ γ. γ ++ (c ∷ [])) [] βs at.1.0 in
    good_changed (on_last (λ γ. γ ++ (c ∷ []))) N no_heads (new_record 0 0) Q at.0.0 g
    (subst (BodyWithin N) (sym grown)
    (record {
      at_most_64 = omega (
        arith,
        length-append (but_last βs) ((last_group Q ++ (c ∷ [])) ∷ []),
        length-append (but_last βs) (last_group Q ∷ []),
        ap length (snoc_of [] βs at.1.0),
        body.at_most_64,
      );
      each_group = all_snoc (GroupWithin N) (but_last βs) (last_group Q ++ (c ∷ [])) (λ β m. body.each_group β (front_of βs β m))
          (more_literals N c (last_group Q) h short (body.each_group (last_group Q) (last_of [] βs at.1.0)));
    }))

-- an atom's number is below the number of names with its own
number_below : (a n : ℕ) → a ≤ n → (a < names_with a n) × (n ≤ names_with a n)
number_below a n h = by (ltb a n) refl
  where
    by : (b : Bool) → ltb a n ≡ b → (a < cond b n (n + 1)) × (n ≤ cond b n (n + 1))
    by true q = (ltb-true a n q, omega arith)
    by false q = (omega arith, omega arith)

-- what the literals so far have given is within the limits
pub record Sound (sofar : Sofar) : Type 0 where
  pub good : Good (length sofar.names) no_heads sofar.records
  pub few : length sofar.names ≤ 512
  pub short : length (words_of sofar.records) ≤ 8192
  pub counts : sofar.words ≡ length (words_of sofar.records)
  pub lines : LineByLine sofar.records

abbrev ReadyAt : List ℕ → ℕ → List TableRecord → Type 0
ReadyAt s p Q = Ready s p (counts_of Q) Q

begun_most : (role : Role) → begun role ≤ 1
begun_most Head = omega arith
begun_most First = omega arith
begun_most Further = omega arith

sound_after : (s : List ℕ) (p : ℕ) (sofar : Sofar) (l : SheetLiteral) → reading_at s p ≡ Literal l → ReadyAt s p sofar.records
    → literal_fault s p sofar l ≡ Ok tt → Sound sofar → Sound (after s sofar l)
unfolding literal_fault after
sound_after s p sofar l is ready e sound =
    let Q = sofar.records in
    let at = ready.stands l.role (literal_read s p l is).in_role in
    let a = atom_of s sofar.names l in
    let c = code_of s sofar.names l in
    let x = line_of s l.start in
    let allowed = faultless_allowed _ _ _ _ _ _ e in
    let size = names_length a l sofar.names in
    let below = number_below a (length sofar.names) (number_at_most s sofar.names (bytes_at s l.start l.len)) in
    let N' = length (with_name a l sofar.names) in
    let in_names : a < N' = omega (arith, size, below.0) in
    let more : length sofar.names ≤ N' = omega (arith, size, below.1) in
    let low : x ≤ most_line = omega (arith, line_is s p l (counts_of Q) Q is ready, begun_most l.role, records_fit Q, sound.short) in
    let grown = words_grow l.role (counts_of Q) Q x c at in
    record {
      good = good_after l.role N' Q x c at (code_below l.negated a N' in_names) low allowed.not_repeated
          allowed.body_fits (more_atoms (length sofar.names) N' no_heads Q more sound.good);
      few = allowed.names_fit;
      short = omega (arith, grown, sound.counts, allowed.words_fit);
      counts = omega (arith, grown, sound.counts);
      lines = lines_grow l.role Q x c (head_line s p l (counts_of Q) Q is ready (length Q) refl) sound.lines;
    }

readies : (s : List ℕ) (p : ℕ) (sofar : Sofar) (l : SheetLiteral) → reading_at s p ≡ Literal l → ReadyAt s p sofar.records
    → ReadyAt s (place_after (Literal l) p) (after s sofar l).records
unfolding after
readies s p sofar l is ready =
    let next = ready_next s p l (counts_of sofar.records) sofar.records is ready 0 (line_of s l.start) (code_of s sofar.names l) refl in
    record { stands = λ role before. by_records role _ _ (next.stands role before); lined = next.lined }

sound_at_start : Sound nothing
unfolding words_of
sound_at_start = record { good = tt; few = omega arith; short = omega arith; counts = refl; lines = λ i other h. absurd (omega arith) }

sound_sheet : (s : List ℕ) (wordRoom nameRoom : ℕ) (x : Sofar) → sheet_outcome s wordRoom nameRoom ≡ accepted x → Sound x
sound_sheet s wordRoom nameRoom x e =
    (at_the_end s (λ count sofar. ReadyAt s (reached s 0 count) sofar.records × Sound sofar)
    (λ count sofar l is fault holds. (
      subst (λ (q : ℕ). ReadyAt s q (after s sofar l).records) (place_reached s count l is) (readies s (reached s 0 count) sofar l is holds.0),
      sound_after s (reached s 0 count) sofar l is holds.0 fault holds.1,
    )) x wordRoom nameRoom (ready_first s (counts_of []), sound_at_start) e).2.1

-- the records of an accepted sheet are within the limits
pub sheet_within : (s : List ℕ) (wordRoom nameRoom : ℕ) (x : Sofar)
    → sheet_outcome s wordRoom nameRoom ≡ accepted x → Within (length x.names) x.records
sheet_within s wordRoom nameRoom x e =
    let sound = sound_sheet s wordRoom nameRoom x e in
    record {
      at_most_512 = sound.few;
      at_most_8192 = sound.short;
      each_line = good_lines _ no_heads x.records sound.good;
      heads_below_lem = good_heads _ no_heads x.records sound.good;
      distinct_heads = good_distinct _ no_heads x.records sound.good;
      each_body = good_bodies _ no_heads x.records sound.good;
    }

-- the words of an accepted sheet are an accepted table for its N
pub sheet_table_accepted : (s : List ℕ) (wordRoom nameRoom : ℕ) (x : Sofar) → sheet_outcome s wordRoom nameRoom ≡ accepted x
    → AcceptedTable (length x.names) (words_of x.records)
sheet_table_accepted s wordRoom nameRoom x e = within_accepted (length x.names) x.records (sheet_within s wordRoom nameRoom x e)

-- each line of an accepted sheet has its record
pub sheet_lines : (s : List ℕ) (wordRoom nameRoom : ℕ) (x : Sofar) → sheet_outcome s wordRoom nameRoom ≡ accepted x → LineByLine x.records
sheet_lines s wordRoom nameRoom x e = (sound_sheet s wordRoom nameRoom x e).lines

-- and the records of that table are the sheet's
pub sheet_table_records : (x : Sofar) → records_of (words_of x.records) ≡ x.records
sheet_table_records x = records_of_words_of x.records
