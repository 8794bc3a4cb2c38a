use mathlib.Core.Path.{refl, sym, ap, ◌∙◌, subst}
use Prim.Native.Nat.{◌-◌}
use native.Mathlib.Omega.{arith}
use lib.Pow.{pow_pos, shl_exact}
use Rattle.t800.specs.Bits.{bits_of}
use Rattle.t800.specs.Segments.{comma_bits}
use Rattle.bio_bytes.specs.Writing.{Output, output, put_bits, FreeBitsClear}
use Rattle.bio_write.proofs.Laws.FreeBits.{put_bits-clear, put_bits-append}
use Rattle.t2_write_codes.proofs.Laws.CommaBits.{comma_ones, comma_number}
use Rattle.t2_write_codes.proofs.opj_t2_putcommacode.Goals as goal

pub loop-left-init : goal.loop-left-init
loop-left-init c = (c.requires, refl, refl)

pub opj_bio_write-bio-requires : goal.opj_bio_write-bio-requires
opj_bio_write-bio-requires c = (c.loop-left.invariant.0, omega arith)

pub overflow_sub-left : goal.overflow_sub-left
overflow_sub-left c = omega (arith, c.loop-left-test.true)

pub loop-left-smaller : goal.loop-left-smaller
loop-left-smaller c = omega (arith, c.loop-left-test.true)

pub loop-left-preserved : goal.loop-left-preserved
loop-left-preserved c =
    let w = c.opj_bio_write-bio in
    let l = c.loop-left in
    let o = output l.out l.bio in (
      subst FreeBitsClear (sym (ap (λ (s : Output). s.bio) w.ensures)) (put_bits-clear o (bits_of 30 0x3fff_ffff) l.invariant.0),
      w.auto.out ∙ l.invariant.1,
      ap (λ (s : Output). put_bits s (comma_bits (l.left - 30))) w.ensures
          ∙ sym (put_bits-append o (bits_of 30 0x3fff_ffff) (comma_bits (l.left - 30)))
          ∙ ap (put_bits o) (comma_ones l.left (omega (arith, c.loop-left-test.true)))
          ∙ l.invariant.2,
    )

pub overflow_shl-left : goal.overflow_shl-left
overflow_shl-left c = omega (arith, c.loop-left-test.false)

pub overflow_sub-left-2 : goal.overflow_sub-left-2
overflow_sub-left-2 c =
    let l = c.loop-left in
    omega (arith, shl_exact {a = 2} 2 l.left 32 (omega arith) (omega (arith, c.loop-left-test.false)), pow_pos l.left)

pub overflow_add-left : goal.overflow_add-left
overflow_add-left c = omega (arith, c.loop-left-test.false)

pub opj_bio_write-requires : goal.opj_bio_write-requires
opj_bio_write-requires c = (c.loop-left.invariant.0, omega (arith, c.loop-left-test.false))

pub shape_of-out : goal.shape_of-out
shape_of-out c = c.opj_bio_write.auto.out ∙ c.loop-left.invariant.1

pub returns : goal.returns
returns c =
    let l = c.loop-left in
    c.opj_bio_write.ensures
    ∙ ap (put_bits (output l.out l.bio)) (comma_number l.left c.loop-left-test.false)
    ∙ l.invariant.2
