use Prim.Native.Nat.{◌+◌, ◌-◌, ◌*◌}
use lib.ListN.{drop}
use mathlib.Core.Bool.{false}
use mathlib.Core.Path.{◌≡◌}
use Rattle.t800.specs.Base.{sum}
use Rattle.t800.specs.WriteHeader.{segment_too_long}
use Rattle.t2_widths.specs.Widths.{wide_from}
use Rattle.t2_widths.proofs.blocks_too_wide.Given as goal

abbrev pub invariant-loop-i : goal.invariant-loop-i
invariant-loop-i l = (l.from + sum (drop l.i l.counts) ≡ sum l.counts)
    × (segment_too_long (drop l.i l.counts) (drop l.from l.lengths) (drop l.from l.marks) ≡ false)
    × (wide_from l.state (l.at + 4 * l.i) (l.n - l.i) (drop l.i l.counts) (drop l.from l.lengths) (drop l.from l.marks)
    ≡ wide_from l.state l.at l.n l.counts l.lengths l.marks)
