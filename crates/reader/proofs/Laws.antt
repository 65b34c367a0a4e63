-- What the reader says of every sheet: what it tells of a literal, which refusals it gives, where it stands still, and that it ends.
use mathlib.Core.Path.{◌≡◌, refl, sym, ap, ap₂, ◌∙◌, subst}
use mathlib.Core.Logic.{inl, inr}
use mathlib.Core.List.{List}
use mathlib.Core.Bool.{Bool, true, false, cond, ◌||◌, true≢false}
use Prim.Native.Nat.{ℕ, zero, suc, ◌+◌, ◌-◌, ◌^◌, ◌<◌, ◌≤◌}
use native.Mathlib.Numerals.{add-one}
use native.Mathlib.Omega.{arith}
use lib.Dec.{leb, eqb}
use lib.ListN.{length, drop}
use borrow.Author.Tests.{leb-true, eqb-true, ne_eqb}
use Rattle.refusal.specs.declared.Refusal.{Refusal}
use Rattle.refusal.specs.Numbers.{wrong_byte}
use Rattle.reader.specs.declared.Role.{Role}
use Rattle.reader.specs.declared.Role.TheVariants.{Head, First, Further}
use Rattle.reader.specs.declared.SheetLiteral.{SheetLiteral}
use Rattle.reader.specs.declared.Next.{Next}
use Rattle.reader.specs.declared.Reading.{Reading}
use Rattle.reader.specs.declared.Reading.TheVariants.{End, Refused, Literal}
use Rattle.decimals.specs.Decimals.{is_digit}
use Rattle.reader.specs.Sheet.{byte_at, is_tab, is_line_end, is_space, is_minus, starts_name, continues_name, name_run, may_follow, byte_before, line_of}
use Rattle.refusal.specs.Checks.{demanding}
use Rattle.refusal.proofs.Laws.{demanding_met, demanding_holds}
use Rattle.reader.specs.Readings.{ended_name, name_at, literal_at, line_at, reading_after, reading_at, place_after, next_at, ReadersNumber, GivesOnly, NoLiteral, reached}
use Rattle.reader.proofs.Runs.{inside_by, run_on, run_bytes}

pub refused_is_no_literal : (r : Refusal) (l : SheetLiteral) → Refused r ≡ Literal l → ⊥
refused_is_no_literal r l e = let z : ◌≡◌ {A = ℕ} 0 1 = cc in omega arith

pub end_is_no_literal : (l : SheetLiteral) → End ≡ Literal l → ⊥
end_is_no_literal l e = let z : ◌≡◌ {A = ℕ} 0 1 = cc in omega arith

demanding_literal : (b : Bool) (r : Refusal) (rest : Reading) (l : SheetLiteral)
    → demanding Refused b r rest ≡ Literal l → (b ≡ true) × (rest ≡ Literal l)
demanding_literal b r rest l e = demanding_met Refused b r rest (Literal l) (refused_is_no_literal r l) e

-- the role that the byte before gives
abbrev pub RoleAfter : ℕ → Role → Type 0
RoleAfter b Head = b ≡ 10
RoleAfter b First = b ≡ 9
RoleAfter b Further = b ≡ 32

-- what is known of a literal that was read with a role
pub record Named (s : List ℕ) (p : ℕ) (role : Role) (l : SheetLiteral) : Type 0 where
  pub starts_at : p ≤ l.start
  pub starts_by : l.start ≤ p + 1
  pub minus_before : (i : ℕ) → p ≤ i → i < l.start → is_minus (byte_at s i) ≡ true
  pub not_empty : 1 ≤ l.len
  pub at_most_24 : l.len ≤ 24
  pub inside : l.start + l.len < length s
  pub in_run : (i : ℕ) → i < l.len → continues_name (byte_at s (l.start + i)) ≡ true
  pub followed : may_follow l.role (byte_at s (l.start + l.len)) ≡ true
  pub of_role : l.role ≡ role

pub record LiteralRead (s : List ℕ) (p : ℕ) (l : SheetLiteral) : Type 0 where
  pub sheet_fits : length s ≤ 65536
  pub in_role : RoleAfter (byte_before s p) l.role
  pub named : Named s p l.role l

nothing_follows_the_end : (role : Role) → may_follow role 0 ≡ false
unfolding may_follow
nothing_follows_the_end Head = refl
nothing_follows_the_end First = refl
nothing_follows_the_end Further = refl

starts_continues : (b : ℕ) → starts_name b ≡ true → continues_name b ≡ true
unfolding continues_name
starts_continues b e = ap (λ (x : Bool). x || (is_digit b || (eqb b 95 || eqb b 46))) e

run_not_empty : (s : List ℕ) (q : ℕ) → starts_name (byte_at s q) ≡ true → 1 ≤ name_run (drop q s)
run_not_empty s q e = omega (arith, run_on s q (starts_continues (byte_at s q) e))

named_ended : (s : List ℕ) (p q n : ℕ) (negated : Bool) (role : Role) (l : SheetLiteral) → p ≤ q → q ≤ p + 1
    → ((i : ℕ) → p ≤ i → i < q → is_minus (byte_at s i) ≡ true) → 1 ≤ n
    → ((i : ℕ) → i < n → continues_name (byte_at s (q + i)) ≡ true) → ended_name s q n negated role ≡ Literal l → Named s p role l
unfolding ended_name
named_ended s p q n negated role l h h' minus some run e =
    let first = demanding_literal (leb n 24) _ _ l e in
    let second = demanding_literal (may_follow role (byte_at s (q + n))) _ _ l first.1 in
    let same : record { negated = negated; start = q; len = n; role = role } ≡ l = cc second.1 in
    subst (Named s p role) same
    (record {
      starts_at = h;
      starts_by = h';
      minus_before = minus;
      not_empty = some;
      at_most_24 = leb-true n 24 first.0;
      inside = inside_by (may_follow role) (nothing_follows_the_end role) s (q + n) second.0;
      in_run = run;
      followed = second.0;
      of_role = refl;
    })

named_name : (s : List ℕ) (p q : ℕ) (negated : Bool) (role : Role) (l : SheetLiteral) → p ≤ q → q ≤ p + 1
    → ((i : ℕ) → p ≤ i → i < q → is_minus (byte_at s i) ≡ true) → name_at s q negated role ≡ Literal l → Named s p role l
unfolding name_at
named_name s p q negated role l h h' minus e =
    let first = demanding_literal (starts_name (byte_at s q)) _ _ l e in
    named_ended s p q (name_run (drop q s)) negated role l h h' minus (run_not_empty s q first.0) (run_bytes s q) first.1

named_literal : (s : List ℕ) (p : ℕ) (role : Role) (l : SheetLiteral) → literal_at s p role ≡ Literal l → Named s p role l
unfolding literal_at
named_literal s p role l e = by (is_minus (byte_at s p)) refl e
  where
    here : is_minus (byte_at s p) ≡ true → (i : ℕ) → p ≤ i → i < p + 1 → is_minus (byte_at s i) ≡ true
    here q i h h' = let same : i ≡ p = omega arith in ap (λ (x : ℕ). is_minus (byte_at s x)) same ∙ q

    by : (b : Bool) → is_minus (byte_at s p) ≡ b → cond b (name_at s (p + 1) true role) (name_at s p false role) ≡ Literal l → Named s p role l
    by true q f = named_name s p (p + 1) true role l (omega arith) (omega arith) (here q) f
    by false q f = named_name s p p false role l (omega arith) (omega arith) (λ i h h'. absurd (omega arith)) f

-- a literal's role is the one that it was read with
in_role_of : (s : List ℕ) (p b : ℕ) (role : Role) (l : SheetLiteral) → length s ≤ 65536 → byte_before s p ≡ b → RoleAfter b role
    → literal_at s p role ≡ Literal l → LiteralRead s p l
in_role_of s p b role l fits before r e =
    let named = named_literal s p role l e in
    record {
      sheet_fits = fits;
      in_role = subst (λ (x : Role). RoleAfter (byte_before s p) x) (sym named.of_role) (subst (λ (x : ℕ). RoleAfter x role) (sym before) r);
      named = subst (λ (x : Role). Named s p x l) (sym named.of_role) named;
    }

line_literal : (s : List ℕ) (p : ℕ) (l : SheetLiteral) → line_at s p ≡ Literal l → literal_at s p Head ≡ Literal l
unfolding line_at
line_literal s p l e = by (eqb p (length s)) e
  where
    by : (b : Bool) → cond b End (literal_at s p Head) ≡ Literal l → literal_at s p Head ≡ Literal l
    by true f = absurd (end_is_no_literal l f)
    by false f = f

-- what is known where the reading is a literal
pub literal_read : (s : List ℕ) (p : ℕ) (l : SheetLiteral) → reading_at s p ≡ Literal l → LiteralRead s p l
unfolding reading_at reading_after
literal_read s p l e =
    let first = demanding_literal (leb (length s) 65536) _ _ l e in
    let second = demanding_literal (leb p (length s)) _ _ l first.1 in
    line (leb-true (length s) 65536 first.0) (is_line_end (byte_before s p)) refl second.1
  where
    space : length s ≤ 65536 → (b : Bool) → is_space (byte_before s p) ≡ b
        → cond b (literal_at s p Further) (Refused (wrong_byte p)) ≡ Literal l → LiteralRead s p l
    space fits true q f = in_role_of s p 32 Further l fits (eqb-true (byte_before s p) 32 q) refl f
    space fits false q f = absurd (refused_is_no_literal _ l f)

    tab : length s ≤ 65536 → (b : Bool) → is_tab (byte_before s p) ≡ b
        → cond b (literal_at s p First) (cond (is_space (byte_before s p)) (literal_at s p Further) (Refused (wrong_byte p))) ≡ Literal l
        → LiteralRead s p l
    tab fits true q f = in_role_of s p 9 First l fits (eqb-true (byte_before s p) 9 q) refl f
    tab fits false q f = space fits (is_space (byte_before s p)) refl f

    line : length s ≤ 65536 → (b : Bool) → is_line_end (byte_before s p) ≡ b
        → cond b (line_at s p)
        (cond (is_tab (byte_before s p)) (literal_at s p First) (cond (is_space (byte_before s p)) (literal_at s p Further) (Refused (wrong_byte p))))
        ≡ Literal l
        → LiteralRead s p l
    line fits true q f = in_role_of s p 10 Head l fits (eqb-true (byte_before s p) 10 q) refl (line_literal s p l f)
    line fits false q f = tab fits (is_tab (byte_before s p)) refl f

-- the byte before the next literal is the one that follows this literal
pub next_after : (s : List ℕ) (p : ℕ) (l : SheetLiteral) → byte_before s (place_after (Literal l) p) ≡ byte_at s (l.start + l.len)
unfolding byte_before place_after
next_after s p l = ap (byte_before s) (add-one (l.start + l.len))

-- places increase, and stay within the sheet
pub place_grows : (s : List ℕ) (p : ℕ) (l : SheetLiteral) → reading_at s p ≡ Literal l → p < place_after (Literal l) p
unfolding place_after
place_grows s p l e = let r = (literal_read s p l e).named in omega arith

pub place_inside : (s : List ℕ) (p : ℕ) (l : SheetLiteral) → reading_at s p ≡ Literal l → place_after (Literal l) p ≤ length s
unfolding place_after
place_inside s p l e = let r = (literal_read s p l e).named in omega arith

pub place_fits : (s : List ℕ) (p : ℕ) (r : Reading) → p < 2 ^ 64 → r ≡ reading_at s p → place_after r p < 2 ^ 64
unfolding place_after
place_fits s p End h e = h
place_fits s p (Refused r) h e = h
place_fits s p (Literal l) h e =
    omega (arith, (literal_read s p l (sym e)).sheet_fits, (literal_read s p l (sym e)).named.inside)

-- no line ends in a name, nor by "-"
name_no_end : (b : ℕ) → continues_name b ≡ true → is_line_end b ≡ false
unfolding continues_name starts_name is_digit
name_no_end b e = ne_eqb b 10 (λ is. absurd (true≢false (sym e ∙ ap continues_name is)))

minus_no_end : (b : ℕ) → is_minus b ≡ true → is_line_end b ≡ false
minus_no_end b e = ap is_line_end (eqb-true b 45 e)

-- the first line is 1
pub first_line : (s : List ℕ) → line_of s 0 ≡ 1
unfolding line_of
first_line s = refl

-- where no line ends the line stays
line_stays : (s : List ℕ) (p n : ℕ) → ((i : ℕ) → i < n → is_line_end (byte_at s (p + i)) ≡ false) → line_of s (p + n) ≡ line_of s p
unfolding line_of
line_stays s p zero none = let same : p + 0 ≡ p = omega arith in ap (line_of s) same
line_stays s p (suc n) none =
    let more : p + suc n ≡ suc (p + n) = omega arith in
    ap (line_of s) more ∙ ap (λ (b : Bool). cond b (suc (line_of s (p + n))) (line_of s (p + n))) (none n (omega arith))
    ∙ line_stays s p n (λ i h. none i (omega arith))

-- the line of a literal is that of its name, and of the byte after it
module _ (s : List ℕ) (p : ℕ) (l : SheetLiteral) (e : reading_at s p ≡ Literal l) where
  pub literal_line : line_of s l.start ≡ line_of s p
  literal_line =
      let r = (literal_read s p l e).named in
      let there : l.start ≡ p + (l.start - p) = omega (arith, r.starts_at) in
      ap (line_of s) there ∙ line_stays s p (l.start - p) (λ i h. minus_no_end (byte_at s (p + i)) (r.minus_before (p + i) (omega arith) (omega arith)))

  pub next_line : line_of s (place_after (Literal l) p)
      ≡ cond (is_line_end (byte_before s (place_after (Literal l) p))) (suc (line_of s p)) (line_of s p)
  unfolding line_of place_after
  next_line =
      let r = (literal_read s p l e).named in
      let end = line_stays s l.start l.len (λ i h. name_no_end (byte_at s (l.start + i)) (r.in_run i h)) ∙ literal_line in
      ap (line_of s) (add-one (l.start + l.len))
      ∙ ap₂ (λ (b : ℕ) (x : ℕ). cond (is_line_end b) (suc x) x) (sym (next_after s p l)) end

-- what holds of every refusal by 8, 10 or 11, of every literal, and of the end at the sheet's end, holds of every reading
module _ (P : Reading → Type 0) (refusals : (r : Refusal) → ReadersNumber r.number → P (Refused r)) (literals : (l : SheetLiteral) → P (Literal l))
    (s : List ℕ) where
  tested : (b : Bool) (r : Refusal) (rest : Reading) → ReadersNumber r.number → P rest → P (demanding Refused b r rest)
  tested b r rest h g = demanding_holds P Refused b r rest (refusals r h) (λ e. g)

  either : (b : Bool) (x y : Reading) → P x → P y → P (cond b x y)
  either true x y g h = g
  either false x y g h = h

  name_holds : (q : ℕ) (negated : Bool) (role : Role) → P (name_at s q negated role)
  unfolding name_at ended_name
  name_holds q negated role =
      tested (starts_name (byte_at s q)) _ _ (inr (inl refl))
      (tested (leb (name_run (drop q s)) 24) _ _ (inr (inr refl))
      (tested (may_follow role (byte_at s (q + name_run (drop q s)))) _ _ (inr (inl refl)) (literals _)))

  literal_holds : (p : ℕ) (role : Role) → P (literal_at s p role)
  unfolding literal_at
  literal_holds p role = either (is_minus (byte_at s p)) _ _ (name_holds (p + 1) true role) (name_holds p false role)

  line_holds : (p : ℕ) → (p ≡ length s → P End) → P (line_at s p)
  unfolding line_at
  line_holds p end = by (eqb p (length s)) refl
    where
      by : (b : Bool) → eqb p (length s) ≡ b → P (cond b End (literal_at s p Head))
      by true q = end (eqb-true p (length s) q)
      by false q = literal_holds p Head

  reading_holds : (p : ℕ) → (p ≡ length s → P End) → P (reading_at s p)
  unfolding reading_at reading_after
  reading_holds p end =
      tested (leb (length s) 65536) _ _ (inl refl)
      (tested (leb p (length s)) _ _ (inr (inl refl))
      (either (is_line_end (byte_before s p)) _ _ (line_holds p end)
      (either (is_tab (byte_before s p)) _ _ (literal_holds p First)
      (either (is_space (byte_before s p)) _ _ (literal_holds p Further) (refusals _ (inr (inl refl)))))))

pub gives_only_8_10_11 : (s : List ℕ) (p : ℕ) → GivesOnly (reading_at s p)
gives_only_8_10_11 s p = reading_holds GivesOnly (λ r h. h) (λ l. tt) s p (λ e. tt)

refused_is_no_end : (r : Refusal) → Refused r ≡ End → ⊥
refused_is_no_end r e = let z : ◌≡◌ {A = ℕ} 0 1 = cc in omega arith

-- the reader says that it has ended only where the sheet does
pub ends_at_the_end : (s : List ℕ) (p : ℕ) → reading_at s p ≡ End → p ≡ length s
ends_at_the_end s p =
    reading_holds (λ r. r ≡ End → p ≡ length s)
    (λ r h e. absurd (refused_is_no_end r e)) (λ l e. absurd (end_is_no_literal l (sym e))) s p (λ e e'. e)

stays : (r : Reading) (p : ℕ) → NoLiteral r → place_after r p ≡ p
unfolding place_after
stays End p h = refl
stays (Refused r) p h = refl
stays (Literal l) p h = absurd h

-- after the end or a refusal it gives the same reading again, at the same place
pub same_again : (s : List ℕ) (p : ℕ) (x y : Next) → x ≡ next_at s p → y ≡ next_at s x.place → NoLiteral x.reading → y ≡ x
unfolding next_at
same_again s p x y e e' h =
    e' ∙ ap (λ (z : Next). next_at s z.place) e
    ∙ ap (next_at s) (stays (reading_at s p) p (subst NoLiteral (ap (λ (z : Next). z.reading) e) h)) ∙ sym e

-- readings after readings
pub reached_on : (s : List ℕ) (n m p : ℕ) → reached s p (n + m) ≡ reached s (reached s p n) m
reached_on s zero m p = let none : 0 + m ≡ m = omega arith in ap (reached s p) none
reached_on s (suc n) m p =
    let more : suc n + m ≡ suc (n + m) = omega arith in ap (reached s p) more ∙ reached_on s n m (next_at s p).place

pub reached_stays : (s : List ℕ) (n p : ℕ) → NoLiteral (reading_at s p) → reached s p n ≡ p
unfolding next_at
reached_stays s zero p h = refl
reached_stays s (suc n) p h = ap (λ (q : ℕ). reached s q n) (stays (reading_at s p) p h) ∙ reached_stays s n p h

-- past the end there is no literal
none_past_the_end : (s : List ℕ) (p : ℕ) → length s < p → (r : Reading) → reading_at s p ≡ r → NoLiteral r
none_past_the_end s p h End e = tt
none_past_the_end s p h (Refused r) e = tt
none_past_the_end s p h (Literal l) e = let r = (literal_read s p l e).named in absurd (omega arith)

turn : (s : List ℕ) (n p : ℕ) → ((q : ℕ) → length s < q + n → NoLiteral (reading_at s (reached s q n))) → length s < p + suc n
    → (r : Reading) → reading_at s p ≡ r → NoLiteral (reading_at s (reached s (place_after r p) n))
turn s n p onward h End e =
    let still = subst NoLiteral (sym e) tt in
    subst (λ (q : ℕ). NoLiteral (reading_at s q)) (sym (ap (λ (q : ℕ). reached s q n) (stays End p tt) ∙ reached_stays s n p still)) still
turn s n p onward h (Refused r) e =
    let still = subst NoLiteral (sym e) tt in
    subst (λ (q : ℕ). NoLiteral (reading_at s q)) (sym (ap (λ (q : ℕ). reached s q n) (stays (Refused r) p tt) ∙ reached_stays s n p still)) still
turn s n p onward h (Literal l) e = onward (place_after (Literal l) p) (omega (arith, place_grows s p l e))

ends_within : (s : List ℕ) (n p : ℕ) → length s < p + n → NoLiteral (reading_at s (reached s p n))
unfolding next_at
ends_within s zero p h = none_past_the_end s p (omega arith) (reading_at s p) refl
ends_within s (suc n) p h = turn s n p (ends_within s n) h (reading_at s p) refl

-- from the start it reads literal after literal, and has ended after as many readings as there are bytes, and one
pub reader_ends : (s : List ℕ) → NoLiteral (reading_at s (reached s 0 (length s + 1)))
reader_ends s = ends_within s (length s + 1) 0 (omega arith)

-- two readings that the promise allows are equal
pub reading_determined : (s : List ℕ) (p : ℕ) (r r' : Next) → r ≡ next_at s p → r' ≡ next_at s p → r ≡ r'
reading_determined s p r r' e e' = e ∙ sym e'
