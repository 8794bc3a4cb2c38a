use mathlib.Core.Path.{ap}
use Rattle.t800.specs.Bits.{Decoded, BitRead, read_bit}
use Rattle.bio_read_lent.proofs.bit_in.Goals as goal

pub returns : goal.returns
unfolding read_bit
returns c =
    let of_bit : BitRead → Decoded = λ (r : BitRead). record { value = r.value; bio = r.bio } in
    ap of_bit c.opj_bio_getbit-bit.ensures
