use mathlib.Core.Path.{ap, ◌∙◌}
use Rattle.bio_bytes.specs.Writing.{output, put_bits}
use Rattle.t2_write_codes.proofs.put_pass_codeword.Goals as goal

pub returns : goal.returns
returns c =
    let a = c.args in
    c.opj_bio_write.ensures
    ∙ ap (put_bits (output a.out.now a.b)) c.codeword_of-c.ensures.bits
