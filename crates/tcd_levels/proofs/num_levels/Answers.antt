use Rattle.std.proofs.Common.{◌≡◌, ◌+◌, ◌-◌, ◌∙◌, ap, arith, length}
use Rattle.t800.specs.TagTree.{levels, levels_from}
use Rattle.t800.specs.declared.Level.{Level}
use Rattle.tcd_laws.proofs.Laws.TreeLevels.{counted-turn, levels-stop}
use Rattle.tcd_levels.proofs.num_levels.Goals as goal

pub loop-i-init : goal.loop-i-init
unfolding levels
loop-i-init c = omega arith

pub returns-then-area-le1 : goal.returns-then-area-le1
returns-then-area-le1 c =
    let l = c.loop-i in
    let e = ap length (levels-stop l.level.w l.level.h (7 - l.i) (6 - l.i) (omega arith) (omega (arith, c.area.ensures))) in
    omega (arith, l.invariant)

pub loop-i-preserved : goal.loop-i-preserved
loop-i-preserved c =
    let l = c.loop-i in
    let e = c.level_above-level.ensures in
    counted-turn l.level.w l.level.h _ _ (omega (arith, c.area.ensures)) (ap (λ (k : Level). k.w) e) (ap (λ (k : Level). k.h) e)
    l.i (omega arith) ∙ l.invariant

pub returns : goal.returns
unfolding levels_from
returns c =
    let l = c.loop-i in
    let e : 7 - l.i ≡ 0 = omega arith in
    let f : l.i + 0 ≡ length (levels c.args.w c.args.h) = rw e at l.invariant in omega arith
