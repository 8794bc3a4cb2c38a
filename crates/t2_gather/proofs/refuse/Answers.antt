use Rattle.t2_gather.specs.Answers.{gather_result}
use Rattle.t2_gather.proofs.refuse.Goals as goal

pub returns : goal.returns
returns c = λ i. gather_result (c.refused.ensures i) (c.wipe.ensures i) (c.wipe-2.ensures i) (c.wipe-3.ensures i)
