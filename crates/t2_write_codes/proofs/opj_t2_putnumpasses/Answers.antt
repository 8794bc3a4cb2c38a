use native.Mathlib.Omega.{arith}
use Rattle.t800.specs.Base.{every}
use Rattle.t800.specs.Bits.{bits_of}
use Rattle.t800.specs.PassCount.{pass_bits}
use Rattle.t2_write_codes.specs.PassTable.{same_bits, is_codeword, is_pass_table}
use Rattle.t2_write_codes.proofs.opj_t2_putnumpasses.Goals as goal

-- the table passes its test.
pub put_pass_codeword-requires : goal.put_pass_codeword-requires
unfolding is_pass_table is_codeword same_bits every bits_of pass_bits
put_pass_codeword-requires c =
    let p = c.requires in
    (tt, p.0, omega (arith, p.1), omega (arith, p.2))
