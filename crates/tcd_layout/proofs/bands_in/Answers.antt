use Rattle.t800.specs.Exports.{band_in}
use Rattle.tcd_layout.proofs.bands_in.Goals as goal

pub returns : goal.returns
unfolding band_in
returns c = rw (c.band_at.ensures, c.band_at-2.ensures, c.band_at-3.ensures)
