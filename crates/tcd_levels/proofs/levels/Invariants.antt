use Rattle.std.proofs.Common.{◌≡◌, ◌-◌}
use lib.Seq.{sets}
use Rattle.t800.specs.TagTree.{levels, levels_from}
use Rattle.tcd_laws.specs.Geometry.{padded}
use Rattle.tcd_levels.proofs.levels.Given as goal

abbrev pub invariant-loop-level : goal.invariant-loop-level
invariant-loop-level l = sets l.level-items l.level-index (levels_from (7 - l.level-index) l.next.w l.next.h) ≡ padded (levels l.w l.h)
