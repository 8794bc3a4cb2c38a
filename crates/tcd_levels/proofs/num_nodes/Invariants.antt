use Rattle.std.proofs.Common.{◌≡◌, ◌+◌, ◌*◌, ◌-◌, ◌≤◌}
use Rattle.t800.specs.TagTree.{levels_from, nodes, nodes_in}
use Rattle.tcd_levels.proofs.num_nodes.Given as goal

abbrev pub invariant-loop : goal.invariant-loop
invariant-loop l = (l.level.w ≤ 64) × (l.level.h ≤ 64) × (l.sum ≤ 4096 * l.counter)
    × (l.sum + nodes_in (levels_from (7 - l.counter) l.level.w l.level.h) ≡ nodes l.w l.h)
