use mathlib.Core.Path.{sym, ap, ◌∙◌}
use Prim.Native.Nat.{ℕ}
use native.Mathlib.Omega.{arith}
use lib.Bits.{and_mask}
use Rattle.t800.specs.Bits.{bits_of}
use Rattle.bio_bytes.specs.Writing.{output, put_bits}
use Rattle.bio_write.proofs.Laws.WriteChunks.{hold_bits-is, put_bit-is}
use Rattle.bio_write.proofs.opj_bio_write.Goals as goal

pub opj_bio_putbit-requires : goal.opj_bio_putbit-requires
opj_bio_putbit-requires c =
    let s = c in
    (s.requires.0, omega (arith, and_mask s.args.v 1))

pub returns-then-n-eq1 : goal.returns-then-n-eq1
returns-then-n-eq1 c =
    let s = c in
    let o = output s.args.out.now s.args.b in
    c.opj_bio_putbit.ensures
    ∙ put_bit-is o s.args.v _ (and_mask s.args.v 1)
    ∙ ap (λ (n : ℕ). put_bits o (bits_of n s.args.v)) (sym c.if-n-eq1.true)

pub returns-then-n-b : goal.returns-then-n-b
returns-then-n-b c =
    let s = c in
    ap (output s.args.out.now) c.hold_bits.ensures
    ∙ hold_bits-is s.args.out.now s.args.b s.args.v s.args.n c.if-n-b.true
