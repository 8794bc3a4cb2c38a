use Rattle.std.proofs.Common.{◌≡◌, ◌+◌, ◌-◌, arith, ap}
use Rattle.t800.specs.TagTree.{levels, levels_from, nodes, nodes_in}
use Rattle.t800.specs.declared.Level.{Level}
use Rattle.tcd_laws.proofs.Laws.TreeLevels.{area_up_to_4096, summed_stop, summed_turn}
use Rattle.tcd_levels.proofs.num_nodes.Goals as goal

pub loop-init : goal.loop-init
unfolding nodes levels
loop-init c = omega arith

pub returns-then-size-le1 : goal.returns-then-size-le1
returns-then-size-le1 c =
    let l = c.loop in
    let a = c.area-size.ensures in
    let e = summed_stop l.level.w l.level.h (7 - l.counter) l.sum (omega arith) (omega arith) in
    omega (arith, l.invariant.3)

pub loop-preserved : goal.loop-preserved
loop-preserved c =
    let l = c.loop in
    let a = c.area-size.ensures in
    let w = ap (λ (k : Level). k.w) c.level_above-level.ensures in
    let h = ap (λ (k : Level). k.h) c.level_above-level.ensures in
    let small = area_up_to_4096 l.level.w l.level.h l.invariant.0 l.invariant.1 in
    let n : 7 - l.counter - 1 ≡ 7 - (l.counter + 1) = omega arith in
    let e = rw n at (summed_turn l.level.w l.level.h _ _ (omega arith) w h (7 - l.counter) l.sum (omega arith)) in
    omega (arith, l.invariant.3)

pub returns-after-loop : goal.returns-after-loop
unfolding levels_from nodes_in
returns-after-loop c =
    let l = c.loop in
    let e : 7 - l.counter ≡ 0 = omega arith in
    let f : l.sum + 0 ≡ nodes c.args.w c.args.h = rw e at l.invariant.3 in omega arith
