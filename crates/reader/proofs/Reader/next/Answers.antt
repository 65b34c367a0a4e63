use Rattle.std.proofs.Common.{refl, ap}
use Rattle.reader.specs.declared.Next.{Next}
use Rattle.reader.specs.Readings.{next_at}
use Rattle.reader.proofs.Reader.next.Goals as goal

pub returns : goal.returns
unfolding next_at
returns c =
    let e = c.next_at-next.ensures in
    (ap (λ (n : Next). n.reading) e, refl, ap (λ (n : Next). n.place) e)
