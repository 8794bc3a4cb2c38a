use Rattle.std.proofs.Common.{◌≡◌, length, drop}
use Rattle.std.proofs.lemmas.List.Edits.{sets}
use Rattle.t800.specs.State.{end_of}
use Rattle.t800.specs.Start.{fresh_bands}
use Rattle.t2_start_parts.proofs.fresh_bands.Given as goal

abbrev pub invariant-loop-band : goal.invariant-loop-band
invariant-loop-band l = record {
  same : length l.state ≡ length l.initial.state;
  total : end_of l.at (drop l.band-index l.band-items) ≡ length l.initial.state;
  rest : sets l.state l.at (fresh_bands (drop l.band-index l.band-items)) ≡ sets l.initial.state 13 (fresh_bands l.band-items);
}
