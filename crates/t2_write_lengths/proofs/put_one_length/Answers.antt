use mathlib.Core.Path.{sym, ap, ◌∙◌, subst}
use mathlib.Core.List.{[], ◌∷◌}
use Prim.Native.Nat.{ℕ, ◌+◌}
use native.Mathlib.Omega.{arith}
use Rattle.t800.specs.Bits.{bits_of}
use Rattle.bio_bytes.specs.Writing.{Output, output, put_bits, FreeBitsClear}
use Rattle.bio_write.proofs.Laws.FreeBits.{put_bits-clear}
use Rattle.t2_segments.specs.Segments.{segment}
use Rattle.t2_segments.proofs.Laws.Segments.{length-up_to_31_bits}
use Rattle.t2_write_lengths.proofs.Laws.OneSegment.{one_increment, one_field, one_narrow}
use Rattle.t2_write_lengths.proofs.Laws.Passes.{lengths_are_lem}
use Rattle.t2_write_lengths.proofs.put_one_length.Goals as goal

pub overflow_add-lenbits : goal.overflow_add-lenbits
overflow_add-lenbits c = let s = c in
    omega (arith, c.bits_missing-more.ensures, length-up_to_31_bits s.args.s.bytes s.requires.5, s.requires.4)

pub opj_t2_putcommacode-widened-requires : goal.opj_t2_putcommacode-widened-requires
opj_t2_putcommacode-widened-requires c =
    subst FreeBitsClear (sym (ap (λ (x : Output). x.bio) c.put_pass_codeword-counted.ensures))
    (put_bits-clear _ _ c.requires.1)

pub overflow_cast-width : goal.overflow_cast-width
overflow_cast-width c =
    let s = c in
    omega (
      arith,
      c.field_width-width.ensures,
      one_narrow s.args.before _ (segment s.args.s.passes s.args.s.bytes)
          (c.bits_missing-more.ensures
          ∙ one_increment s.args.before (segment s.args.s.passes s.args.s.bytes)) s.requires.6,
    )

pub opj_bio_write-bio-requires : goal.opj_bio_write-bio-requires
opj_bio_write-bio-requires c =
    let s = c in
    let f = subst FreeBitsClear
    (sym (ap (λ (x : Output). x.bio) c.put_pass_codeword-counted.ensures))
    (put_bits-clear _ _ s.requires.1) in (
      subst FreeBitsClear (sym (ap (λ (x : Output). x.bio) c.opj_t2_putcommacode-widened.ensures))
          (put_bits-clear _ _ f),
      omega (
        arith,
        c.field_width-width.ensures,
        one_narrow s.args.before _ (segment s.args.s.passes s.args.s.bytes)
            (c.bits_missing-more.ensures
            ∙ one_increment s.args.before (segment s.args.s.passes s.args.s.bytes)) s.requires.6,
      ),
    )

pub returns : goal.returns
returns c =
    let s = c in
    let one = segment s.args.s.passes s.args.s.bytes in
    let more = c.bits_missing-more in
    let e = more.ensures ∙ one_increment s.args.before one in
    let field = ap (λ (k : ℕ). bits_of k s.args.s.bytes)
    c.field_width-width.ensures
    ∙ one_field (s.args.before + more.result) one in
    lengths_are_lem (output s.args.out.now s.args.b) _ _ _ s.args.before s.args.count more.result (one ∷ [])
    c.put_pass_codeword-counted.ensures
    c.opj_t2_putcommacode-widened.ensures
    (c.opj_bio_write-bio.ensures ∙ ap (put_bits _) field) e
