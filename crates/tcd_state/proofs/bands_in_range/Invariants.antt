use Rattle.std.proofs.Common.{◌≡◌, ◌+◌, ◌*◌, ◌≤◌, length, drop}
use Rattle.t800.specs.Ranges.{bands_in_range}
use Rattle.t800.specs.State.{end_of, state_length}
use Rattle.tcd_state.proofs.bands_in_range.Given as goal

abbrev pub invariant-loop-band : goal.invariant-loop-band
invariant-loop-band l = record {
  few : l.at ≤ 13 + 188416 * l.band-index;
  ranges : bands_in_range l.states l.at (drop l.band-index l.band-items) ≡ bands_in_range l.states 13 l.band-items;
  total : end_of l.at (drop l.band-index l.band-items) ≡ state_length l.band-items;
  there : l.at ≤ length l.states;
}
