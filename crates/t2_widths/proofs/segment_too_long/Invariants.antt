use Prim.Native.Nat.{◌+◌}
use lib.ListN.{drop}
use mathlib.Core.Path.{◌≡◌}
use Rattle.t800.specs.Base.{sum}
use Rattle.t800.specs.WriteHeader.{segment_too_long}
use Rattle.t2_widths.proofs.segment_too_long.Given as goal

abbrev pub invariant-loop-count : goal.invariant-loop-count
invariant-loop-count l = (l.from + sum (drop l.count-index l.counts) ≡ sum l.counts)
    × (segment_too_long (drop l.count-index l.counts) (drop l.from l.lengths) (drop l.from l.marks)
    ≡ segment_too_long l.counts l.lengths l.marks)
