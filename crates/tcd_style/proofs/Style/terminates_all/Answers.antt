use Rattle.std.proofs.Common.{◌/◌, ◌%◌, arith}
use lib.Bits.{and_high, bit_and}
use Rattle.t800.specs.Segments.{term_all}
use Rattle.tcd_style.proofs.Laws.StyleBits.{masked}
use Rattle.tcd_style.proofs.Style.terminates_all.Goals as goal

pub returns : goal.returns
unfolding term_all
returns c = let x = c.args.self.bits in masked (bit_and x 4) (x / 4 % 2) 4 (and_high x 1 2) (omega arith) (omega arith)
