use native.Mathlib.Omega.{arith}
use Rattle.t800_laws.proofs.Laws.Sums.{sum-turn, sum-end}
use Rattle.t2_narrow.proofs.total.Goals as goal

pub overflow_add-all : goal.overflow_add-all
overflow_add-all c = omega (arith, c.from-all.ensures)

pub loop-one-preserved : goal.loop-one-preserved
loop-one-preserved c =
    let l = c.loop-one in (
      omega (arith, c.from-all.ensures),
      omega (arith, c.from-all.ensures, sum-turn c.args.list.now l.one-index c.loop-one-test.true, l.invariant.1),
    )

pub returns : goal.returns
returns c =
    let l = c.loop-one in
    omega (arith, sum-end c.args.list.now l.one-index c.loop-one-test.false, l.invariant.1)
