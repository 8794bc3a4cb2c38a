use mathlib.Core.Path.{refl, sym, ap, ◌∙◌, subst}
use Prim.Native.Nat.{◌-◌}
use native.Mathlib.Omega.{arith}
use lib.ListN.{replicate}
use Rattle.bio_bytes.specs.Writing.{Output, output, put_bits, FreeBitsClear}
use Rattle.bio_write.proofs.Laws.FreeBits.{byte_out-ct, byte_out-clear}
use Rattle.tgt_write.proofs.Laws.Coding.{zeros_end, zeros_turn}
use Rattle.tgt_write.proofs.zeros.Goals as goal

pub loop-bio-init : goal.loop-bio-init
loop-bio-init c = (c.requires, refl, refl)

pub overflow_sub-left : goal.overflow_sub-left
overflow_sub-left c = let t = c.loop-bio-test.true in omega arith

pub loop-bio-smaller : goal.loop-bio-smaller
loop-bio-smaller c = let t = c.loop-bio-test.true in
    let l = c.loop-bio in
    let r = byte_out-ct (output l.out l.bio) in
    let e = ap (λ (o : Output). o.bio.ct) c.opj_bio_byteout-bio.ensures in
    omega (arith, l.invariant.0.at_most_eight)

pub loop-bio-preserved : goal.loop-bio-preserved
loop-bio-preserved c = let l = c.loop-bio in
    let r = c.opj_bio_byteout-bio in
    let o = output l.out l.bio in (
      subst FreeBitsClear (sym (ap (λ (x : Output). x.bio) r.ensures)) (byte_out-clear o),
      r.auto.out ∙ l.invariant.1,
      ap (λ (x : Output). put_bits x (replicate (l.left - l.bio.ct) 0)) r.ensures
          ∙ zeros_turn l.out l.bio l.left c.loop-bio-test.true ∙ l.invariant.2,
    )

pub after_bits-requires : goal.after_bits-requires
after_bits-requires c = c.loop-bio-test.false

pub shape_of-out : goal.shape_of-out
shape_of-out c = c.loop-bio.invariant.1

pub returns : goal.returns
returns c = let l = c.loop-bio in ap (output l.out) c.after_bits.ensures
    ∙ zeros_end l.out l.bio l.left c.loop-bio-test.false ∙ l.invariant.2
