-- Reading a sheet literal by literal: what the buffers hold is what the documents say of the literals so far.
use mathlib.Core.Path.{◌≡◌, refl, sym, ap, ap₂, ◌∙◌, subst}
use mathlib.Core.List.{List, []}
use mathlib.Core.Bool.{Bool, true, false, cond, true≢false}
use Prim.Native.Nat.{ℕ, zero, suc, ◌+◌, ◌≤◌, ◌<◌}
use native.Mathlib.Nat.{add-zero}
use native.Mathlib.Omega.{arith}
use lib.Dec.{ltb}
use lib.ListN.{length, take, replicate}
use borrow.Author.Tests.{ltb-true}
use Rattle.refusal.specs.declared.Refusal.{Refusal}
use Rattle.bits.specs.Sets.{member}
use Rattle.bits.proofs.Laws.{member_of_zeros}
use Rattle.refusal.specs.Checks.{Checked}
use Rattle.words.specs.Layout.{TableRecord, words_of}
use Rattle.reader.specs.declared.Role.{Role}
use Rattle.reader.specs.declared.Role.TheVariants.{Head, First, Further}
use Rattle.reader.specs.declared.SheetLiteral.{SheetLiteral}
use Rattle.reader.specs.declared.Reading.{Reading}
use Rattle.reader.specs.declared.Reading.TheVariants.{End, Refused as ReadRefused, Literal}
use Rattle.reader.specs.Sheet.{byte_at, is_line_end, may_follow, byte_before, line_of}
use Rattle.reader.specs.Readings.{reading_at, place_after}
use Rattle.reader.proofs.Laws.{RoleAfter, literal_read, next_after, place_grows, place_inside, first_line, literal_line, next_line}
use Rattle.names.specs.Names.{bytes_at, entry_for}
use Rattle.names.proofs.Steps.{number_in_front}
use Rattle.literals.specs.declared.Counts.{Counts}
use Rattle.literals.specs.Literals.{Sofar, nothing, with_literal, words_for, atom_of, code_of, with_name, after, is_head, repeats, fault_with, literal_fault}
use Rattle.sheetwords.specs.Sheets.{Outcome, accepted, refused, unless, by_reading, sheet_from}
use Rattle.buffers.specs.Padded.{padded}
use Rattle.literals.specs.Putting.{names_with, put_name, counted, Room, body_in, atom_in, code_in, fault_in, Put}
use Rattle.literals.proofs.Taking.{faultless_allowed}
use Rattle.literals.proofs.Growth.{RuleAt, GroupAt, Standing, words_grow, words_kept, begun, records_grow, SameLine, same_records, body_is, on_rule, on_group_first, on_group_further, heads_kept, heads_length, names_length, names_kept, in_front, words_length, name_room, code_below}
use Rattle.std.specs.Prelude.{Ok, Err}

-- the buffers hold what the literals so far have given
pub record Kept (sofar : Sofar) (k : Counts) (ws ns heads : List ℕ) : Type 0 where
  pub atoms : k.atoms ≡ length sofar.names
  pub words : k.words ≡ length (words_of sofar.records)
  pub lines : k.line ≡ length sofar.records
  pub counts : sofar.words ≡ length (words_of sofar.records)
  pub in_words : ws ≡ padded (length ws) (words_of sofar.records)
  pub in_names : ns ≡ padded (length ns) sofar.names
  pub in_heads : (j : ℕ) → member heads j ≡ is_head sofar.records j
  pub heads_16 : length heads ≡ 16
  pub room : Room k ws ns

same_heads : (role : Role) (p q : ℕ → Bool) (c : ℕ) → ((j : ℕ) → p j ≡ q j) → repeats role p c ≡ repeats role q c
same_heads Head p q c e = e c
same_heads First p q c e = refl
same_heads Further p q c e = refl

room_after : (role : Role) (a : ℕ) (k : Counts) (ws ns ws' ns' : List ℕ) → Room k ws ns → names_with a k.atoms ≤ 512
    → k.words + words_for role ≤ 8192 → length ws' ≡ length ws → length ns' ≡ length ns → Room (counted role a k) ws' ns'
room_after Head a k ws ns ws' ns' room h h' e e' =
    record {
      atoms = h;
      words = h';
      line = omega (arith, room.line);
      rule = h';
      group = room.group;
      word_buffer = omega (arith, room.word_buffer);
      name_buffer = omega (arith, room.name_buffer);
    }
room_after First a k ws ns ws' ns' room h h' e e' =
    record {
      atoms = h;
      words = h';
      line = omega (arith, room.line);
      rule = room.rule;
      group = omega arith;
      word_buffer = omega (arith, room.word_buffer);
      name_buffer = omega (arith, room.name_buffer);
    }
room_after Further a k ws ns ws' ns' room h h' e e' =
    record {
      atoms = h;
      words = h';
      line = omega (arith, room.line);
      rule = room.rule;
      group = room.group;
      word_buffer = omega (arith, room.word_buffer);
      name_buffer = omega (arith, room.name_buffer);
    }

atoms_counted : (role : Role) (a : ℕ) (k : Counts) → (counted role a k).atoms ≡ names_with a k.atoms
atoms_counted Head a k = refl
atoms_counted First a k = refl
atoms_counted Further a k = refl

words_counted : (role : Role) (a : ℕ) (k : Counts) → (counted role a k).words ≡ k.words + words_for role
words_counted Head a k = refl
words_counted First a k = refl
words_counted Further a k = refl

lines_counted : (role : Role) (a : ℕ) (k : Counts) → (counted role a k).line ≡ k.line + begun role
lines_counted Head a k = refl
lines_counted First a k = sym (add-zero k.line)
lines_counted Further a k = sym (add-zero k.line)

-- an atom of at most 512 is below them
atom_below : (a atoms : ℕ) → a ≤ atoms → names_with a atoms ≤ 512 → a < 512
atom_below a atoms h = by (ltb a atoms) refl
  where
    by : (b : Bool) → ltb a atoms ≡ b → cond b atoms (atoms + 1) ≤ 512 → a < 512
    by true q g = omega (arith, ltb-true a atoms q)
    by false q g = omega arith

-- a literal has been put into buffers that are kept: they are kept for one literal more
abbrev pub after_by : ℕ → List TableRecord → SheetLiteral → Sofar → Sofar
after_by a Q l sofar = record { names = with_name a l sofar.names; records = Q; words = sofar.words + words_for l.role }

module _ (sofar : Sofar) (k : Counts) (ws ns heads : List ℕ) (kept : Kept sofar k ws ns heads) (l : SheetLiteral)
    (at : Standing l.role k sofar.records) where
  keeps_by : (a c : ℕ) (k' : Counts) (ws' ns' heads' : List ℕ) → c < 1024
      → names_with a k.atoms ≤ 512 → k.words + words_for l.role ≤ 8192
      → Put a c l k ws ns heads k' ws' ns' heads'
      → Kept (after_by a (with_literal l.role (k.line + 1) c sofar.records) l sofar) k' ws' ns' heads'
  keeps_by a c k' ws' ns' heads' small names_fit words_fit put =
      let ws-length = ap length put.words_are ∙ words_length l.role (k.line + 1) c k ws in
      let ns-length = ap length put.names_are ∙ name_room a k.atoms _ ns in
      record {
        atoms = ap (λ (x : Counts). x.atoms) put.counts_are ∙ atoms_counted l.role a k
            ∙ ap (names_with a) kept.atoms ∙ sym (names_length a l sofar.names);
        words = ap (λ (x : Counts). x.words) put.counts_are ∙ words_counted l.role a k
            ∙ ap (λ (x : ℕ). x + words_for l.role) kept.words ∙ sym (words_grow l.role k sofar.records (k.line + 1) c at);
        lines = ap (λ (x : Counts). x.line) put.counts_are ∙ lines_counted l.role a k
            ∙ ap (λ (x : ℕ). x + begun l.role) kept.lines ∙ sym (records_grow l.role sofar.records (k.line + 1) c);
        counts = ap (λ (x : ℕ). x + words_for l.role) kept.counts ∙ sym (words_grow l.role k sofar.records (k.line + 1) c at);
        in_words = put.words_are
            ∙ words_kept l.role k sofar.records (k.line + 1) c (length ws) ws at kept.in_words kept.words
            (omega (arith, kept.room.word_buffer))
            ∙ ap (λ (n : ℕ). padded n (words_of (with_literal l.role (k.line + 1) c sofar.records))) (sym ws-length);
        in_names = put.names_are
            ∙ ap (λ (n : ℕ). put_name a n (entry_for l.start l.len) ns) kept.atoms
            ∙ names_kept a l sofar.names ns
            (length ns) kept.in_names (subst (λ (n : ℕ). names_with a n ≤ length ns) kept.atoms (omega (arith, kept.room.name_buffer)))
            ∙ ap (λ (n : ℕ). padded n (with_name a l sofar.names)) (sym ns-length);
        in_heads =
            λ j. ap (λ (h : List ℕ). member h j) put.heads_are
            ∙ heads_kept l.role sofar.records (k.line + 1) c heads small kept.heads_16 kept.in_heads j;
        heads_16 = ap length put.heads_are ∙ heads_length l.role c heads ∙ kept.heads_16;
        room = subst (λ (x : Counts). Room x ws' ns') (sym put.counts_are)
            (room_after l.role a k ws ns ws' ns' kept.room names_fit words_fit ws-length ns-length);
      }

  names_taken : take k.atoms ns ≡ sofar.names
  names_taken = in_front k.atoms (length ns) sofar.names ns kept.atoms kept.in_names

  -- the fault that the buffers give is the documents'
  pub faults_agree : (s : List ℕ) (p : ℕ) → fault_in s k ws ns heads p l ≡ literal_fault s p sofar l
  unfolding literal_fault after
  faults_agree s p =
      let c = code_of s sofar.names l in
      let a = atom_of s sofar.names l in
      let Q = sofar.records in
      let role = l.role in
      ap (λ (t : List ℕ). fault_with
      (names_with (atom_of s t l) k.atoms) (repeats role (member heads) (code_of s t l)) (body_in role k ws) (k.words + words_for role) p l.start)
      names_taken
      ∙ ap (λ (x : ℕ). fault_with x (repeats role (member heads) c) (body_in role k ws) (k.words + words_for role) p l.start)
      (ap (names_with a) kept.atoms ∙ sym (names_length a l sofar.names))
      ∙ ap (λ (b : Bool). fault_with (length (with_name a l sofar.names)) b (body_in role k ws) (k.words + words_for role) p l.start)
      (same_heads role (member heads) (is_head Q) c kept.in_heads)
      ∙ ap₂ (λ (x y : ℕ). fault_with (length (with_name a l sofar.names)) (repeats role (is_head Q) c) x (y + words_for role) p l.start)
      (body_is role k Q (length ws) ws at kept.in_words) (kept.words ∙ sym kept.counts)

  pub keeps : (s : List ℕ) (p : ℕ) (k' : Counts) (ws' ns' heads' : List ℕ) → fault_in s k ws ns heads p l ≡ Ok tt
      → SameLine l.role (k.line + 1) (line_of s l.start)
      → Put (atom_in s k ns l) (code_in s k ns l) l k ws ns heads k' ws' ns' heads' → Kept (after s sofar l) k' ws' ns' heads'
  unfolding after
  keeps s p k' ws' ns' heads' e same put =
      let allowed = faultless_allowed _ _ _ _ _ _ e in
      let fits : k.atoms ≤ length ns = omega (arith, kept.room.atoms, kept.room.name_buffer) in
      let below = atom_below (atom_in s k ns l) k.atoms (number_in_front s ns (bytes_at s l.start l.len) k.atoms fits) allowed.names_fit in
      let c = code_of s sofar.names l in
      subst (λ (Q : List TableRecord). Kept (after_by (atom_of s sofar.names l) Q l sofar) k' ws' ns' heads')
      (same_records l.role (k.line + 1) (line_of s l.start) c sofar.records same)
      (subst (λ (t : List ℕ).
      Kept (after_by (atom_of s t l) (with_literal l.role (k.line + 1) (code_of s t l) sofar.records) l sofar) k' ws' ns' heads') names_taken
      (keeps_by (atom_in s k ns l) (code_in s k ns l) k' ws' ns' heads'
      (code_below l.negated (atom_in s k ns l) 512 below) allowed.names_fit allowed.words_fit put))

-- what the byte after a literal lets follow stands on what the literal has left
abbrev Left : Role → Counts → List TableRecord → Type 0
Left Head k Q = RuleAt k Q
Left First k Q = RuleAt k Q × GroupAt k Q
Left Further k Q = RuleAt k Q × GroupAt k Q

leaves : (a : ℕ) (role : Role) (k : Counts) (Q : List TableRecord) (x c : ℕ) → Standing role k Q
    → k.words ≡ length (words_of Q) → Left role (counted role a k) (with_literal role x c Q)
leaves a Head k Q x c at end = on_rule a Head k Q x c at end
leaves a First k Q x c at end = (on_rule a First k Q x c at end, on_group_first a k Q x c at end)
leaves a Further k Q x c at end = (on_rule a Further k Q x c at end, on_group_further a k Q x c at)

no_space_after_a_head : (b : ℕ) → may_follow Head b ≡ true → b ≡ 32 → ⊥
unfolding may_follow
no_space_after_a_head b e is = true≢false (sym (ap (may_follow Head) (sym is) ∙ e))

left_rule : (role : Role) (k : Counts) (Q : List TableRecord) → Left role k Q → RuleAt k Q
left_rule Head k Q h = h
left_rule First k Q h = h.0
left_rule Further k Q h = h.0

next_stands : (role next : Role) (b : ℕ) (k : Counts) (Q : List TableRecord)
    → may_follow role b ≡ true → RoleAfter b next → Left role k Q → Standing next k Q
next_stands role Head b k Q e is h = tt
next_stands role First b k Q e is h = left_rule role k Q h
next_stands Head Further b k Q e is h = absurd (no_space_after_a_head b e is)
next_stands First Further b k Q e is h = h
next_stands Further Further b k Q e is h = h

-- each line before a place, and one that begins there, has a record
abbrev Lined : List ℕ → ℕ → List TableRecord → Type 0
Lined s p Q = line_of s p ≡ length Q + cond (is_line_end (byte_before s p)) 1 0

-- whatever role the byte before a place gives, it has what it stands on
pub record Ready (s : List ℕ) (p : ℕ) (k : Counts) (Q : List TableRecord) : Type 0 where
  pub stands : (role : Role) → RoleAfter (byte_before s p) role → Standing role k Q
  pub lined : Lined s p Q

begins_line : (b : ℕ) (role : Role) → RoleAfter b role → cond (is_line_end b) 1 0 ≡ begun role
begins_line b Head e = ap (λ (x : ℕ). cond (is_line_end x) 1 0) e
begins_line b First e = ap (λ (x : ℕ). cond (is_line_end x) 1 0) e
begins_line b Further e = ap (λ (x : ℕ). cond (is_line_end x) 1 0) e

one_more : (b : Bool) (x : ℕ) → cond b (suc x) x ≡ x + cond b 1 0
one_more true x = omega arith
one_more false x = omega arith

module _ (s : List ℕ) (p : ℕ) (l : SheetLiteral) (k : Counts) (Q : List TableRecord) (e : reading_at s p ≡ Literal l) (ready : Ready s p k Q) where
  -- the line of a literal, by the records
  pub line_is : line_of s l.start ≡ length Q + begun l.role
  line_is =
      literal_line s p l e ∙ ready.lined
      ∙ ap (λ (x : ℕ). length Q + x) (begins_line (byte_before s p) l.role (literal_read s p l e).in_role)

  pub head_line : (x : ℕ) → x ≡ length Q → SameLine l.role (x + 1) (line_of s l.start)
  head_line x is = by l.role line_is
    where
      by : (role : Role) → line_of s l.start ≡ length Q + begun role → SameLine role (x + 1) (line_of s l.start)
      by Head h = ap (λ (y : ℕ). y + 1) is ∙ sym h
      by First h = tt
      by Further h = tt

  pub ready_next : (a x c : ℕ) → k.words ≡ length (words_of Q)
      → Ready s (place_after (Literal l) p) (counted l.role a k) (with_literal l.role x c Q)
  ready_next a x c end =
      let known = literal_read s p l e in
      record {
        stands = λ role is. next_stands l.role role (byte_at s (l.start + l.len)) _ _ known.named.followed
            (subst (λ (b : ℕ). RoleAfter b role) (next_after s p l) is)
            (leaves a l.role k Q x c (ready.stands l.role known.in_role) end);
        lined = next_line s p l e ∙ one_more (is_line_end (byte_before s (place_after (Literal l) p))) (line_of s p)
            ∙ ap (λ (n : ℕ). n + cond (is_line_end (byte_before s (place_after (Literal l) p))) 1 0)
            (sym (literal_line s p l e) ∙ line_is ∙ sym (records_grow l.role Q x c));
      }

-- the reading stands at p: what it gives from there on is the whole outcome
pub record Filling (s : List ℕ) (whole : Outcome) (p : ℕ) (k : Counts) (ws ns heads : List ℕ) : Type 0 where
  pub sofar : Sofar
  pub fuel : ℕ
  pub kept : Kept sofar k ws ns heads
  pub ready : Ready s p k sofar.records
  pub inside : p ≤ length s
  pub enough : length s < p + fuel
  pub onward : sheet_from fuel s p sofar ≡ whole

-- nothing read, empty buffers
starts_kept : (k : Counts) (ws ns heads : List ℕ)
    → k ≡ record { atoms = 0; words = 0; line = 0; rule = 0; group = 0 } → 8192 ≤ length ws → 512 ≤ length ns
    → ws ≡ padded (length ws) [] → ns ≡ padded (length ns) [] → heads ≡ replicate 16 0 → Kept nothing k ws ns heads
unfolding words_of is_head
starts_kept k ws ns heads e h h' ws-zero ns-zero heads-zero = record {
  atoms = ap (λ (x : Counts). x.atoms) e;
  words = ap (λ (x : Counts). x.words) e;
  lines = ap (λ (x : Counts). x.line) e;
  counts = refl;
  in_words = ws-zero;
  in_names = ns-zero;
  in_heads = λ j. ap (λ (t : List ℕ). member t j) heads-zero ∙ member_of_zeros 16 j;
  heads_16 = ap length heads-zero;
  room = subst (λ (x : Counts). Room x ws ns) (sym e)
      (record { atoms = omega arith; words = omega arith; line = omega arith; rule = omega arith; group = omega arith; word_buffer = h; name_buffer = h' });
}

pub ready_first : (s : List ℕ) (k : Counts) → Ready s 0 k []
unfolding byte_before
ready_first s k = record { stands = λ role is. begins role is; lined = first_line s }
  where
    begins : (role : Role) → RoleAfter 10 role → Standing role k []
    begins Head is = tt
    begins First is = absurd (omega (arith, is))
    begins Further is = absurd (omega (arith, is))

pub starts : (s : List ℕ) (k : Counts) (ws ns heads : List ℕ)
    → k ≡ record { atoms = 0; words = 0; line = 0; rule = 0; group = 0 } → 8192 ≤ length ws → 512 ≤ length ns
    → ws ≡ padded (length ws) [] → ns ≡ padded (length ns) [] → heads ≡ replicate 16 0
    → Filling s (sheet_from (length s + 1) s 0 nothing) 0 k ws ns heads
starts s k ws ns heads e h h' ws-zero ns-zero heads-zero = record {
  sofar = nothing;
  fuel = length s + 1;
  kept = starts_kept k ws ns heads e h h' ws-zero ns-zero heads-zero;
  ready = ready_first s k;
  inside = omega arith;
  enough = omega arith;
  onward = refl;
}

-- one reading more
step : (s : List ℕ) (fuel p : ℕ) (sofar : Sofar) (r : Reading) (whole : Outcome)
    → p ≤ length s → length s < p + fuel → sheet_from fuel s p sofar ≡ whole
    → reading_at s p ≡ r → (n : ℕ) × (fuel ≡ suc n) × (by_reading s p sofar r (sheet_from n s (place_after r p)) ≡ whole)
unfolding sheet_from
step s zero p sofar r whole h h' e is = absurd (omega arith)
step s (suc n) p sofar r whole h h' e is = (n, refl, sym (ap (λ (x : Reading). by_reading s p sofar x (sheet_from n s (place_after x p))) is) ∙ e)

module _ (s : List ℕ) (whole : Outcome) (p : ℕ) (k : Counts) (ws ns heads : List ℕ) (inv : Filling s whole p k ws ns heads) where
  pub at_end_lem : reading_at s p ≡ End → whole ≡ accepted inv.sofar
  at_end_lem e = sym (step s inv.fuel p inv.sofar End whole inv.inside inv.enough inv.onward e).2

  pub at_refusal : (r : Refusal) → reading_at s p ≡ ReadRefused r → whole ≡ refused r
  at_refusal r e = sym (step s inv.fuel p inv.sofar (ReadRefused r) whole inv.inside inv.enough inv.onward e).2

  module _ (l : SheetLiteral) (is : reading_at s p ≡ Literal l) where
    stands : Standing l.role k inv.sofar.records
    stands = inv.ready.stands l.role (literal_read s p l is).in_role

    pub at_fault : (x : Refusal) → fault_in s k ws ns heads p l ≡ Err x → whole ≡ refused x
    at_fault x e =
        let one = step s inv.fuel p inv.sofar (Literal l) whole inv.inside inv.enough inv.onward is in
        sym one.2
        ∙ ap (λ (f : Checked). unless f (sheet_from one.0 s (place_after (Literal l) p) (after s inv.sofar l)))
        (sym (faults_agree inv.sofar k ws ns heads inv.kept l stands s p) ∙ e)

    pub at_literal : (k' : Counts) (ws' ns' heads' : List ℕ) → fault_in s k ws ns heads p l ≡ Ok tt
        → Put (atom_in s k ns l) (code_in s k ns l) l k ws ns heads k' ws' ns' heads'
        → Filling s whole (place_after (Literal l) p) k' ws' ns' heads'
    unfolding after
    at_literal k' ws' ns' heads' e put =
        let one = step s inv.fuel p inv.sofar (Literal l) whole inv.inside inv.enough inv.onward is in
        record {
          sofar = after s inv.sofar l;
          fuel = one.0;
          kept = keeps inv.sofar k ws ns heads inv.kept l stands s p k' ws' ns' heads' e
              (head_line s p l k inv.sofar.records is inv.ready k.line inv.kept.lines) put;
          ready = subst (λ (x : Counts). Ready s (place_after (Literal l) p) x (after s inv.sofar l).records) (sym put.counts_are)
              (ready_next s p l k inv.sofar.records is inv.ready (atom_in s k ns l)
              (line_of s l.start) (code_of s inv.sofar.names l) inv.kept.words);
          inside = place_inside s p l is;
          enough = omega (arith, place_grows s p l is, inv.enough, one.1);
          onward = sym (ap (λ (f : Checked). unless f (sheet_from one.0 s (place_after (Literal l) p) (after s inv.sofar l)))
              (sym (faults_agree inv.sofar k ws ns heads inv.kept l stands s p) ∙ e)) ∙ one.2;
        }
