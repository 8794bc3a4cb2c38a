use mathlib.Core.Path.{◌≡◌, sym, ap, ◌∙◌, subst}
use mathlib.Core.Bool.{false}
use Prim.Native.Nat.{ℕ, ◌+◌}
use native.Mathlib.Omega.{arith}
use Rattle.t800.specs.Segments.{segments_of}
use Rattle.bio_bytes.specs.Writing.{Output, output, FreeBitsClear}
use Rattle.bio_write.proofs.Laws.FreeBits.{put_bits-clear}
use Rattle.t2_segments.specs.Segments.{any_too_wide}
use Rattle.t2_segments.proofs.Laws.Segments.{increment-up_to_31}
use Rattle.t2_write_lengths.proofs.Laws.Passes.{lengths_are_lem}
use Rattle.t2_write_lengths.proofs.put_all_lengths.Goals as goal

pub segment_increment-more-requires : goal.segment_increment-more-requires
segment_increment-more-requires c = let p = c.requires.4 in ((sym p.marked, omega (arith, p.few)), p.short)

pub overflow_add-lenbits : goal.overflow_add-lenbits
overflow_add-lenbits c =
    let s = c in
    omega (
      arith,
      c.segment_increment-more.ensures,
      s.requires.5,
      increment-up_to_31 s.args.before (segments_of s.args.lengths.now s.args.marks.now) s.requires.4.short,
    )

pub put_pass_codeword-counted-requires : goal.put_pass_codeword-counted-requires
put_pass_codeword-counted-requires c = let p = c.requires in
    (p.0, p.1, p.2, omega (arith, p.3, p.4.few))

pub opj_t2_putcommacode-widened-requires : goal.opj_t2_putcommacode-widened-requires
opj_t2_putcommacode-widened-requires c =
    subst FreeBitsClear (sym (ap (λ (x : Output). x.bio) c.put_pass_codeword-counted.ensures))
    (put_bits-clear _ _ c.requires.1)

pub code_lengths-bio-requires : goal.code_lengths-bio-requires
code_lengths-bio-requires c =
    let s = c in
    let m = c.segment_increment-more.ensures in
    let w = subst (λ (k : ℕ). any_too_wide (s.args.before + k) (segments_of s.args.lengths.now s.args.marks.now) ≡ false)
    (sym m) s.requires.6 in
    let f = subst FreeBitsClear
    (sym (ap (λ (x : Output). x.bio) c.put_pass_codeword-counted.ensures))
    (put_bits-clear _ _ s.requires.1) in (
      subst FreeBitsClear (sym (ap (λ (x : Output). x.bio) c.opj_t2_putcommacode-widened.ensures))
          (put_bits-clear _ _ f),
      s.requires.4,
      w,
    )

pub shape_of-out : goal.shape_of-out
shape_of-out c = c.code_lengths-bio.auto.out
    ∙ c.opj_t2_putcommacode-widened.auto.out
    ∙ c.put_pass_codeword-counted.auto.out

pub returns : goal.returns
returns c =
    let s = c in
    lengths_are_lem (output s.args.out.now s.args.b) _ _ _ s.args.before s.args.count
    c.segment_increment-more.result
    (segments_of s.args.lengths.now s.args.marks.now)
    c.put_pass_codeword-counted.ensures
    c.opj_t2_putcommacode-widened.ensures c.code_lengths-bio.ensures
    c.segment_increment-more.ensures
