-- A refusal's number is that of a reason. Assumes nothing.
use Prim.Native.Nat.{ℕ, ◌≤◌, ◌<◌}
use mathlib.Core.Path.{◌≡◌}
use native.Mathlib.Omega.{arith}
use native.Mathlib.Decide.{ℕ_discrete}
use Rattle.refusal.specs.declared.Refusal.{Refusal}
use Rattle.refusal.specs.declared.Reason.{Reason}
use Rattle.refusal.specs.declared.Reason.TheVariants.{TooManyAtoms, TableTooLong, ValueRoomTooSmall, CutShort, NotALiteral, OutOfRange, SecondRule, SheetTooLong, BufferTooSmall, WrongByte, NameTooLong, TooManyNames, TooManyInBody, TooManyWords, TextRoomTooSmall, NoSuchAtom, BrokenRecord, NotSettled}
use Rattle.refusal.specs.Numbers.{number_of}
use Rattle.refusal.proofs.Places.{Small}

-- the number is 1 to 18, 20 to 22 or 34
abbrev pub HasReason : Refusal → Type 0
HasReason f = (r : Reason) × (f.number ≡ number_of r)

-- the number is this reason's, or a larger one
or_larger : (f : Refusal) (r : Reason) → number_of r ≤ f.number → (number_of r < f.number → HasReason f) → HasReason f
or_larger f r at_least larger =
    elim (ℕ_discrete f.number (number_of r)) [
      | yes e ↦ (r, e)
      | no e ↦ larger (omega arith)
    ]

-- every number from 1 to 18 is a reason's
pub small_has_reason : (b : ℕ) (f : Refusal) → Small b f → HasReason f
small_has_reason b f h =
    or_larger f TooManyAtoms h.2 (λ k. or_larger f TableTooLong k (λ k. or_larger f ValueRoomTooSmall k
    (λ k. or_larger f CutShort k (λ k. or_larger f NotALiteral k (λ k. or_larger f OutOfRange k
    (λ k. or_larger f SecondRule k (λ k. or_larger f SheetTooLong k (λ k. or_larger f BufferTooSmall k
    (λ k. or_larger f WrongByte k (λ k. or_larger f NameTooLong k (λ k. or_larger f TooManyNames k
    (λ k. or_larger f TooManyInBody k (λ k. or_larger f TooManyWords k (λ k. or_larger f TextRoomTooSmall k
    (λ k. or_larger f NoSuchAtom k (λ k. or_larger f BrokenRecord k (λ k. or_larger f NotSettled k
    (λ k. absurd (omega (arith, k, h.0))))))))))))))))))))
