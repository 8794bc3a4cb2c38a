use Rattle.t2_spread.specs.Answers.{spread_result}
use Rattle.t2_spread.proofs.refuse.Goals as goal

pub returns : goal.returns
returns c = λ i. spread_result (c.refused.ensures i) (c.wipe.ensures i) (c.wipe-2.ensures i)
