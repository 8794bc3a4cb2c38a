use mathlib.Core.Path.{ap, ◌∙◌}
use native.Mathlib.Omega.{arith}
use Rattle.t800.specs.declared.Bio.{Bio}
use Rattle.bio_bytes.specs.Writing.{Output, output, hold_bit, put_bit}
use Rattle.bio_write.proofs.Laws.FreeBits.{make_room-clear}
use Rattle.bio_write.proofs.Laws.WriteChunks.{hold_bit-is}
use Rattle.bio_write.proofs.opj_bio_putbit.Goals as goal

pub hold_bits-requires : goal.hold_bits-requires
hold_bits-requires c =
    let s = c in
    let r = make_room-clear (output s.args.out.now s.args.b) s.requires.0 in
    let e = ap (λ (o : Output). o.bio) c.make_room-m.ensures in
    let ct = ap (λ (b : Bio). b.ct) e in
    (rw e r.0, omega (arith, r.1))

pub returns : goal.returns
unfolding put_bit
returns c =
    let s = c in
    let m = c.make_room-m in
    ap (output m.new.out) (c.hold_bits.ensures ∙ hold_bit-is m.result s.args.bit s.requires.1)
    ∙ ap (λ (o : Output). output o.bytes (hold_bit o.bio s.args.bit)) m.ensures
