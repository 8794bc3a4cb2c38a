use mathlib.Core.Path.{◌≡◌, ◌∙◌}
use Prim.Native.Nat.{◌+◌, ◌-◌, ◌*◌}
use native.Mathlib.Omega.{arith}
use Rattle.t800.specs.Start.{fresh_nodes}
use Rattle.tgt_set.proofs.Laws.Setting.{fresh_turn}
use Rattle.tgt_set.proofs.opj_tgt_reset.Goals as goal

pub loop-i-preserved : goal.loop-i-preserved
loop-i-preserved c =
    let l = c.loop-i in
    let a = c.args in
    let next : a.from + 3 * (l.i + 1) ≡ a.from + 3 * l.i + 3 = omega arith in
    let less : a.nodes - (l.i + 1) ≡ a.nodes - l.i - 1 = omega arith in
    rw (next, less) (fresh_turn l.words (a.from + 3 * l.i) a.fresh (a.nodes - l.i) (omega arith) ∙ l.invariant)

pub returns : goal.returns
unfolding fresh_nodes
returns c = let l = c.loop-i in let e : c.args.nodes - l.i ≡ 0 = omega arith in rw e at l.invariant
