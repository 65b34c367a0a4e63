use mathlib.Core.Path.{◌∙◌}
use mathlib.Core.Logic.{⊎_elim, inl, inr}
use Rattle.words.proofs.Steps.{out_of_range_found}
use Rattle.words.proofs.range_fault.Goals as goal

pub returns-else-least-w : goal.returns-else-least-w
returns-else-least-w c =
    let a = c.args in
    c.refused.ensures
    ∙ ⊎_elim (λ u. out_of_range_found a.least a.most a.at a.w (inr u.1))
    (λ u. out_of_range_found a.least a.most a.at a.w (inl u)) c.else-least-w.either
