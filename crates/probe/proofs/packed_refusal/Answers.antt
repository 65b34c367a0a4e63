use Rattle.std.proofs.Common.{rules}
use Rattle.probe.specs.Packed.{packed_wrapping}
use Rattle.probe.proofs.packed_refusal.Goals as goal

pub returns : goal.returns
unfolding packed_wrapping
returns c =
    search rules
