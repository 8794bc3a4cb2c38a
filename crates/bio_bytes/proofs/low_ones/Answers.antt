use native.Mathlib.Omega.{arith}
use lib.Pow.{pow_pos}
use Rattle.bio_bytes.proofs.Laws.HeldWord.{one_above}
use Rattle.bio_bytes.proofs.low_ones.Goals as goal

pub overflow_sub-result : goal.overflow_sub-result
overflow_sub-result c = omega (arith, one_above c.args.k (omega arith), pow_pos c.args.k)

pub returns : goal.returns
returns c = omega (arith, one_above c.args.k (omega arith))
