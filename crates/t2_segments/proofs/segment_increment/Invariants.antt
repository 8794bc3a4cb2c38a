use Prim.Native.Nat.{◌-◌, ◌≤◌, max}
use lib.ListN.{length, drop}
use mathlib.Core.Bool.{false}
use mathlib.Core.Path.{◌≡◌}
use Rattle.t800.specs.Segments.{segments_of, increment}
use Rattle.t2_segments.specs.Segments.{any_too_long}
use Rattle.t2_segments.proofs.segment_increment.Given as goal

abbrev pub invariant-loop-at : goal.invariant-loop-at
invariant-loop-at l = (l.at ≤ length l.lengths)
    × (max l.most (increment l.length_bits (segments_of (drop l.at l.lengths) (drop l.at l.marks)))
    ≡ increment l.length_bits (segments_of l.lengths l.marks)) × (any_too_long (segments_of (drop l.at l.lengths) (drop l.at l.marks)) ≡ false)

abbrev pub decreases-loop-at : goal.decreases-loop-at
decreases-loop-at l = length l.lengths - l.at
