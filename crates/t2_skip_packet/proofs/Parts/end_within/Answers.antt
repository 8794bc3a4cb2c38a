use native.Mathlib.Omega.{arith}
use Rattle.t2_skip_packet.proofs.Laws.Within.{within, not_within}
use Rattle.t2_skip_packet.proofs.Parts.end_within.Goals as goal

pub returns-then-left-self : goal.returns-then-left-self
returns-then-left-self c = let a = c.args in not_within a.left _ (omega arith)

pub returns-then-behind-self : goal.returns-then-behind-self
returns-then-behind-self c = let a = c.args in not_within a.left _ (omega arith)

pub returns : goal.returns
returns c =
    let a = c.args in
    within a.left a.self.sop a.self.header a.self.body c.if-left-self.false c.if-behind-self.false
