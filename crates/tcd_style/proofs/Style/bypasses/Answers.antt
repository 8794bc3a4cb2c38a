use Rattle.std.proofs.Common.{◌%◌, arith}
use lib.Bits.{and_high, bit_and}
use Rattle.t800.specs.Segments.{bypass}
use Rattle.tcd_style.proofs.Laws.StyleBits.{masked}
use Rattle.tcd_style.proofs.Style.bypasses.Goals as goal

pub returns : goal.returns
unfolding bypass
returns c = let x = c.args.self.bits in masked (bit_and x 1) (x % 2) 1 (omega (arith, and_high x 1 0)) (omega arith) (omega arith)
