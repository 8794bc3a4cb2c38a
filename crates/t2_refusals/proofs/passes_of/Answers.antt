use native.Mathlib.Omega.{arith}
use Rattle.t2_refusals.proofs.passes_of.Goals as goal

pub returns-then-counts-gt12288 : goal.returns-then-counts-gt12288
returns-then-counts-gt12288 c = λ h. absurd (omega (arith, h, c.if-counts-gt12288.true))

pub returns : goal.returns
returns c = λ h. c.total.ensures

pub total-requires : goal.total-requires
total-requires c = omega (arith, c.if-counts-gt12288.false)
