-- A text read byte by byte: one turn of the loop. Assumes nothing.
use mathlib.Core.Bool.{Bool, true, false, true≢false, not, cond, ◌&&◌}
use mathlib.Core.List.{List, [], ◌∷◌, ◌++◌, append_assoc, append-nil}
use mathlib.Core.Path.{◌≡◌, refl, sym, ap, ap₂, ◌∙◌}
use Prim.Native.Nat.{ℕ, ◌+◌, ◌≤◌, ◌<◌}
use native.Mathlib.Numerals.{add-one}
use native.Mathlib.Omega.{arith}
use lib.Dec.{eqb}
use lib.ListN.{length, get_or, drop, set, length-append, drop_of_length-le}
use lib.Seq.{sets, drop-cons}
use Rattle.decimals.specs.Decimals.{is_digit}
use Rattle.decimals.proofs.Stores.{sets_append}
use Rattle.reasontext.specs.declared.State.{State}
use Rattle.reasontext.specs.Reading.{after_field, with_digit, breaks, TextRead, broken, at_end, number_then, read_from, read_text, after_byte, stored_byte}
use Rattle.reasontext.proofs.Texts.{good, Begun, digit_fits}
use Rattle.reasontext.proofs.Breaks.{after≤3}

-- numbers that were whole before
abbrev behind : List ℕ → TextRead → TextRead
behind done r = record { fault = r.fault; numbers = done ++ r.numbers }

behind_one : (done : List ℕ) (n : ℕ) (r : TextRead) → behind (done ++ n ∷ []) r ≡ behind done (number_then n r)
behind_one done n r = ap (λ (l : List ℕ). record { fault = r.fault; numbers = l }) (append_assoc done (n ∷ []) r.numbers)

-- what is read from the place i on, behind what is done
pub record Going (text room₀ : List ℕ) (s : State) (i : ℕ) (room : List ℕ) : Type 0 where
  pub done : List ℕ
  pub read : read_text text ≡ behind done (read_from s.field s.begun s.number i (drop i text))
  pub count_is : s.count ≡ length done
  pub count≤ : s.count ≤ i
  pub inside : i ≤ length text
  pub field≤ : s.field ≤ 3
  pub begun_is : Begun s.begun s.number
  pub room_is : room ≡ sets room₀ 0 done

module _ (text room₀ : List ℕ) where
  pub going_start : Going text room₀ (record { field = 0; begun = false; number = 0; count = 0 }) 0 room₀
  unfolding Begun
  going_start =
      record {
        done = [];
        read = refl;
        count_is = refl;
        count≤ = omega arith;
        inside = omega arith;
        field≤ = omega arith;
        begun_is = ((λ h. refl), omega arith);
        room_is = refl;
      }

  module _ (s : State) (i b : ℕ) (room : List ℕ) (w : Going text room₀ s i room) (lt : i < length text) (eb : b ≡ get_or text i 0) where
    rest : List ℕ
    rest = drop (i + 1) text

    front_is : drop i text ≡ b ∷ rest
    unfolding rest
    front_is = drop-cons text i 0 lt ∙ ap₂ (λ (x y : ℕ). x ∷ drop y text) (sym eb) (sym (add-one i))

    here : read_text text ≡ behind w.done (read_from s.field s.begun s.number i (b ∷ rest))
    here = w.read ∙ ap (λ (l : List ℕ). behind w.done (read_from s.field s.begun s.number i l)) front_is

    -- a byte that breaks the text ends the reading
    pub stopped : breaks s.field s.begun s.number b ≡ true → read_text text ≡ behind w.done (broken i)
    unfolding read_from
    stopped k = here ∙ rw k refl

    pub going_on : breaks s.field s.begun s.number b ≡ false → {s' : State} {room' : List ℕ} → s' ≡ after_byte s b
        → room' ≡ stored_byte room s b
        → Going text room₀ s' (i + 1) room'
    unfolding read_from rest Begun
    going_on k es er = rw (es, er) (go (is_digit b) refl)
      where
        go : (d : Bool) → is_digit b ≡ d → Going text room₀
            (cond d (record { field = s.field; begun = true; number = with_digit s.number b; count = s.count })
            (record { field = after_field s.field; begun = false; number = 0; count = s.count + 1 }))
            (i + 1) (cond d room (set room s.count s.number))
        go true d =
            record {
              done = w.done;
              read = here ∙ rw (k, d, add-one i) refl;
              count_is = w.count_is;
              count≤ = let q = w.count≤ in omega arith;
              inside = omega arith;
              field≤ = w.field≤;
              begun_is = ((λ h. absurd (true≢false h)), (digit_fits s.field s.begun s.number b w.begun_is d k).small);
              room_is = w.room_is;
            }
        go false d =
            record {
              done = w.done ++ s.number ∷ [];
              read = here ∙ rw (k, d, add-one i) (sym (behind_one w.done s.number _));
              count_is = let q = length-append w.done (s.number ∷ []) in let q' = w.count_is in omega arith;
              count≤ = let q = w.count≤ in omega arith;
              inside = omega arith;
              field≤ = after≤3 s.field w.field≤;
              begun_is = ((λ h. refl), omega arith);
              room_is = ap₂ (λ (l : List ℕ) (c : ℕ). set l c s.number) w.room_is w.count_is
                  ∙ (let z : length w.done ≡ 0 + length w.done = omega arith in ap (λ (c : ℕ). set (sets room₀ 0 w.done) c s.number) z)
                  ∙ sym (sets_append room₀ 0 w.done (s.number ∷ []));
            }

  -- the numbers at a fault, and at the end
  pub numbers_stopped : (s : State) (i : ℕ) (room : List ℕ) (w : Going text room₀ s i room) → read_text text ≡ behind w.done (broken i)
      → w.done ≡ (read_text text).numbers
  numbers_stopped s i room w e = sym (ap (λ (r : TextRead). r.numbers) e ∙ append-nil w.done)

  pub ended : (s : State) (i : ℕ) (room : List ℕ) (w : Going text room₀ s i room) → length text ≤ i
      → ((read_text text).fault ≡ (at_end s.field s.begun i).fault) × (w.done ≡ (read_text text).numbers)
  unfolding read_from at_end
  ended s i room w le =
      let e : read_text text ≡ behind w.done (at_end s.field s.begun i) =
      w.read ∙ ap (λ (l : List ℕ). behind w.done (read_from s.field s.begun s.number i l)) (drop_of_length-le text le)
      in
      (ap (λ (r : TextRead). r.fault) e, sym (ap (λ (r : TextRead). r.numbers) e ∙ none (eqb s.field 0 && not s.begun)))
    where
      none : (c : Bool) → w.done ++ (cond c (good []) (broken i)).numbers ≡ w.done
      none true = append-nil w.done
      none false = append-nil w.done
