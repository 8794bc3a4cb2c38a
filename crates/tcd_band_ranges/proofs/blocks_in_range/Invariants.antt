use Rattle.std.proofs.Common.{◌≡◌, ◌+◌, ◌*◌}
use Rattle.t800.specs.Base.{every}
use Rattle.t800.specs.Ranges.{block_in_range}
use Rattle.tcd_laws.specs.Parts.{fault}
use Rattle.tcd_band_ranges.proofs.blocks_in_range.Given as goal

abbrev pub invariant-loop-i : goal.invariant-loop-i
invariant-loop-i l = l.faults ≡ fault (every l.i (λ k. block_in_range l.state (l.at + 4 * k)))
