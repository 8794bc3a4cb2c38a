use lib.ListN.{drop, length}
use mathlib.Core.Path.{◌≡◌}
use Rattle.t800.specs.State.{end_of}
use Rattle.t2_narrow.specs.Narrow.{bits_up_to25}
use Rattle.t2_narrow.proofs.bands_up_to_25_bits.Given as goal

abbrev pub invariant-loop-band : goal.invariant-loop-band
invariant-loop-band l = (bits_up_to25 l.state l.at (drop l.band-index l.band-items) ≡ bits_up_to25 l.state 13 l.band-items)
    × (end_of l.at (drop l.band-index l.band-items) ≡ length l.state)
