use mathlib.Core.Path.{◌≡◌}
use mathlib.Core.List.{◌++◌}
use Prim.Native.Nat.{◌-◌, ◌*◌, ◌≤◌}
use lib.ListN.{take, drop, replicate}
use Rattle.tgt.specs.Path.{row_from}
use Rattle.tgt.proofs.opj_tgt_row.Given as goal

abbrev pub invariant-loop-i : goal.invariant-loop-i
invariant-loop-i l = (l.below ≤ 4096 * l.i)
    × (l.place ≤ 64)
    × (take l.i l.row ++ row_from (drop l.i (take l.depth l.levels)) l.below l.place ≡ row_from (take l.depth l.levels) 0 l.y)
    × (drop l.i l.row ≡ replicate (7 - l.i) 0)
