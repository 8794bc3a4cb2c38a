use native.Mathlib.Omega.{arith}
use Rattle.t2_read_codes.specs.CommaCode.{ones_limit}
use Rattle.t2_read_codes.proofs.ones_limit.Goals as goal

pub returns-then-src-lt7 : goal.returns-then-src-lt7
unfolding ones_limit
returns-then-src-lt7 c = omega arith

pub returns : goal.returns
unfolding ones_limit
returns c = omega arith
