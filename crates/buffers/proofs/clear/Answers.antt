use mathlib.Core.Path.{◌∙◌}
use Rattle.buffers.proofs.Cleared.{cleared}
use Rattle.buffers.proofs.clear.Goals as goal

pub returns : goal.returns
returns c =
    record {
      words_cleared = c.fill.ensures.after (λ y e. e) ∙ cleared _;
      names_cleared = c.fill-2.ensures.after (λ y e. e) ∙ cleared _;
    }
