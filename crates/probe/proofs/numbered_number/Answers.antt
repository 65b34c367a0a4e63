use Rattle.probe.proofs.numbered_number.Goals as goal

pub returns-in-Err : goal.returns-in-Err
returns-in-Err c =
    simp (c.in-Err.is, c.packed_refusal.ensures)
