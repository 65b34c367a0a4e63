-- Taking one literal, by the buffers.
use mathlib.Core.Path.{◌≡◌, refl, sym, ap, ap₂, ◌∙◌, subst}
use mathlib.Core.List.{List}
use mathlib.Core.Bool.{Bool, false, not}
use Prim.Native.Nat.{ℕ, ◌≤◌}
use lib.Dec.{leb}
use borrow.Author.Tests.{leb-true, not-true}
use Rattle.refusal.specs.declared.Refusal.{Refusal}
use Rattle.refusal.specs.Checks.{Checked}
use Rattle.refusal.proofs.Laws.{asking_accepted, refused≢accepted}
use Rattle.reader.specs.declared.SheetLiteral.{SheetLiteral}
use Rattle.literals.specs.declared.Counts.{Counts}
use Rattle.literals.specs.Literals.{fault_with, code_for}
use Rattle.literals.specs.Putting.{atom_in, code_in, fault_by, fault_in, Put, Took}
use Rattle.std.specs.Prelude.{Ok, Err}

-- what a literal without a fault leaves
pub record Allowed (names : ℕ) (repeated : Bool) (body words : ℕ) : Type 0 where
  pub names_fit : names ≤ 512
  pub not_repeated : repeated ≡ false
  pub body_fits : body ≤ 64
  pub words_fit : words ≤ 8192

pub faultless_allowed : (names : ℕ) (repeated : Bool) (body words p q : ℕ) → fault_with names repeated body words p q ≡ Ok tt
    → Allowed names repeated body words
unfolding fault_with
faultless_allowed names repeated body words p q e =
    let a = asking_accepted (leb names 512) _ _ e in
    let b = asking_accepted (not repeated) _ _ a.1 in
    let c = asking_accepted (leb body 64) _ _ b.1 in
    let d = asking_accepted (leb words 8192) _ _ c.1 in
    record {
      names_fit = leb-true names 512 a.0;
      not_repeated = not-true repeated b.0;
      body_fits = leb-true body 64 c.0;
      words_fit = leb-true words 8192 d.0;
    }

module _ (s : List ℕ) (p : ℕ) (l : SheetLiteral) (k : Counts) (ws names heads : List ℕ) (a c : ℕ) (f : Checked)
    (number : a ≡ atom_in s k names l) (code : c ≡ code_for l.negated a) (fault : f ≡ fault_by a c k ws heads p l) where
  code_is : c ≡ code_in s k names l
  code_is = code ∙ ap (code_for l.negated) number

  fault_is : fault_in s k ws names heads p l ≡ f
  fault_is = sym (fault ∙ ap₂ (λ (x y : ℕ). fault_by x y k ws heads p l) number code_is)

  pub took_off : (x : Refusal) → f ≡ Err x → Took s p l k ws names heads (Err x) ws names heads
  took_off x e = record {
    faultless = λ h. absurd (refused≢accepted x (sym e ∙ sym fault_is ∙ h));
    faulty = λ y h. let same : Err x ≡ Err y = sym e ∙ sym fault_is ∙ h in (cc, refl, refl, refl);
  }

  pub took_on : (ws' names' heads' : List ℕ) (k' : Counts) → f ≡ Ok tt
      → Put a c l k ws names heads k' ws' names' heads' → Took s p l k ws names heads (Ok k') ws' names' heads'
  took_on ws' names' heads' k' e put = record {
    faultless = λ h. (
      k',
      refl,
      subst (λ (y : ℕ). Put (atom_in s k names l) y l k ws names heads k' ws' names' heads') code_is
          (subst (λ (x : ℕ). Put x c l k ws names heads k' ws' names' heads') number put),
    );
    faulty = λ y h. absurd (refused≢accepted y (sym h ∙ fault_is ∙ e));
  }
