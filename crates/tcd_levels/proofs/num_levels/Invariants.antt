use Rattle.std.proofs.Common.{◌≡◌, ◌+◌, ◌-◌, length}
use Rattle.t800.specs.TagTree.{levels, levels_from}
use Rattle.tcd_levels.proofs.num_levels.Given as goal

abbrev pub invariant-loop-i : goal.invariant-loop-i
invariant-loop-i l = l.i + length (levels_from (7 - l.i) l.level.w l.level.h) ≡ length (levels l.w l.h)
