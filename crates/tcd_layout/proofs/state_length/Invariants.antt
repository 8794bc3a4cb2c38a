use Rattle.std.proofs.Common.{◌≡◌, ◌+◌, ◌*◌, ◌≤◌, drop}
use Rattle.t800.specs.State.{end_of}
use Rattle.tcd_layout.proofs.state_length.Given as goal

abbrev pub invariant-loop-band : goal.invariant-loop-band
invariant-loop-band l = (l.at ≤ 13 + 188416 * l.band-index) × (end_of l.at (drop l.band-index l.band-items) ≡ end_of 13 l.band-items)
