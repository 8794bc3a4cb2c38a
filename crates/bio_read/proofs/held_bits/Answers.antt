use mathlib.Core.Path.{◌≡◌, ap, ◌∙◌}
use Prim.Native.Nat.{◌-◌, ◌/◌, ◌%◌, ◌^◌}
use lib.Bits.{bit_and, and_mask}
use Rattle.bio_read.specs.Chunks.{held_bits}
use Rattle.bio_read.proofs.held_bits.Goals as goal

pub returns : goal.returns
unfolding held_bits
returns c =
    let b = c.args.b in
    let k = c.args.k in
    let down = b.buf / 2 ^ (b.ct - k) in
    let m : bit_and down c.low_ones.result ≡ down % 2 ^ k = ap (bit_and down) c.low_ones.ensures ∙ and_mask down k in
    λ i. record { value = m i; bio = record { bp = b.bp; buf = b.buf; ct = b.ct - k } }
