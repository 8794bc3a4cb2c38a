use Prim.Native.Nat.{◌+◌}
use lib.ListN.{length, drop}
use mathlib.Core.Bool.{false}
use mathlib.Core.List.{map}
use mathlib.Core.Path.{◌≡◌}
use Rattle.t800.specs.Base.{sum}
use Rattle.t800.specs.State.{blocks, blocks_at, blocks_in, end_of}
use Rattle.t800.specs.WriteHeader.{segment_too_long, field_too_wide}
use Rattle.t2_widths.proofs.field_too_wide.Given as goal

abbrev pub invariant-loop-band : goal.invariant-loop-band
invariant-loop-band l = (end_of l.at (drop l.band-index l.band-items) ≡ length l.state)
    × (l.first + sum (map blocks_in (drop l.band-index l.band-items)) ≡ length l.counts)
    × (l.from + sum (drop l.first l.counts) ≡ sum l.counts)
    × (segment_too_long (drop l.first l.counts) (drop l.from l.lengths) (drop l.from l.marks) ≡ false)
    × (field_too_wide l.state (blocks_at l.at (drop l.band-index l.band-items)) (drop l.first l.counts) (drop l.from l.lengths) (drop l.from l.marks)
    ≡ field_too_wide l.state (blocks l.band-items) l.counts l.lengths l.marks)
