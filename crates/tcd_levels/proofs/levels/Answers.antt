use Rattle.std.proofs.Common.{◌≡◌, ◌∙◌, ◌-◌, List, ap, sym, arith}
use lib.Seq.{sets}
use Rattle.t800.specs.TagTree.{levels, levels_from}
use Rattle.t800.specs.declared.Level.{Level}
use Rattle.tcd_laws.proofs.Laws.TreeLevels.{levels-over_none, levels-stop, stored-turn}
use Rattle.tcd_levels.proofs.levels.Goals as goal

pub loop-level-init : goal.loop-level-init
unfolding levels
loop-level-init c = levels-over_none c.args.w c.args.h

pub returns-then-area-le1 : goal.returns-then-area-le1
returns-then-area-le1 c =
    let l = c.loop-level in
    let e = levels-stop l.next.w l.next.h (7 - l.level-index) (6 - l.level-index) (omega arith) (omega (arith, c.area.ensures)) in
    sym (ap (λ (ls : List Level). sets l.level-items l.level-index ls) e) ∙ l.invariant

pub loop-level-preserved : goal.loop-level-preserved
loop-level-preserved c =
    let l = c.loop-level in
    let e = c.level_above-next.ensures in
    stored-turn l.next.w l.next.h _ _ (omega (arith, c.area.ensures)) (ap (λ (k : Level). k.w) e) (ap (λ (k : Level). k.h) e)
    l.level-items l.level-index (omega arith) ∙ l.invariant

pub returns-after-loop-level : goal.returns-after-loop-level
unfolding levels_from
returns-after-loop-level c = let l = c.loop-level in let e : 7 - l.level-index ≡ 0 = omega arith in rw e at l.invariant
