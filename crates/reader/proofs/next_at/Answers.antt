use mathlib.Core.Path.{sym}
use Rattle.reader.specs.Readings.{next_at}
use Rattle.reader.proofs.Laws.{place_fits}
use Rattle.reader.proofs.next_at.Goals as goal

pub place_after-after-requires : goal.place_after-after-requires
place_after-after-requires c =
    place_fits c.args.sheet.now c.args.place _ c.ranges.place.fits c.reading_at-reading.ensures

pub returns : goal.returns
unfolding next_at
returns c =
    simp (sym c.reading_at-reading.ensures, sym c.place_after-after.ensures)
