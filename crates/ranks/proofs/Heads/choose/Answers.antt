use mathlib.Core.Path.{sym, ap, ◌∙◌}
use mathlib.Core.List.{List}
use Prim.Native.Nat.{ℕ}
use Rattle.bits.specs.Sets.{member}
use Rattle.std.specs.Prelude.{Option}
use Rattle.valued.specs.InStructs.{rule_of}
use Rattle.ranks.specs.Found.{adds_at}
use Rattle.ranks.specs.KnownClean.{marked_in, clean_in}
use Rattle.ranks.proofs.Heads.choose.Goals as goal

pub returns-in-Some : goal.returns-in-Some
returns-in-Some c =
    c.choose.ensures ∙ sym (ap (λ (x : Option (List ℕ)). adds_at (marked_in x) (clean_in x) (member c.args.self.now.marks.now) c.args.ranked.now
    (rule_of c.args.rule.now)) c.in-Some.is)

pub returns-in-None : goal.returns-in-None
returns-in-None c =
    c.choose-in-None.ensures ∙ sym (ap (λ (x : Option (List ℕ)). adds_at (marked_in x) (clean_in x) (member c.args.self.now.marks.now) c.args.ranked.now
    (rule_of c.args.rule.now)) c.in-None.is)
