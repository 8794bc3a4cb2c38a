use mathlib.Core.Path.{refl, sym, ap, ◌∙◌, subst}
use mathlib.Core.List.{List}
use Prim.Native.Nat.{ℕ, ◌≤◌}
use native.Mathlib.Omega.{arith}
use Rattle.t800.specs.Bits.{bits_of}
use Rattle.t800.specs.Segments.{Segment, length_fields}
use Rattle.bio_bytes.specs.Writing.{Output, output, put_bits, FreeBitsClear}
use Rattle.bio_write.proofs.Laws.FreeBits.{put_bits-clear}
use Rattle.t2_segments.specs.Segments.{segment}
use Rattle.t2_segments.proofs.Laws.Segments.{Next, next_segment_lem, no_segment_left, first_not_long, first_not_wide}
use Rattle.t2_write_lengths.proofs.Laws.Fields.{fields_turn}
use Rattle.t2_write_lengths.proofs.code_lengths.Goals as goal
use Rattle.t2_write_lengths.proofs.code_lengths.Goals.{After-segment_at-s, After-field_width-bits}

next : (c : After-segment_at-s)
    → let s = c in
    Next s.args.lengths.now s.args.marks.now
    c.loop-i.i c.segment_at-s.result.passes c.segment_at-s.result.bytes
next c =
    let s = c in
    next_segment_lem _ _ _ _ _ (sym s.requires.1.marked) (omega arith) c.segment_at-s.ensures

narrow : (c : After-field_width-bits) → c.field_width-bits.result ≤ 32
narrow c =
    let l = c.loop-i in
    let s = c in
    omega (arith, c.field_width-bits.ensures, (first_not_wide s.args.lenbits _ _ _ (next (goal.at.After-field_width-bits c).After-segment_at-s).is l.invariant.4).0)

pub loop-i-init : goal.loop-i-init
loop-i-init c = let p = c.requires in (p.0, refl, omega arith, p.1.short, p.2, refl)

pub segment_at-s-requires : goal.segment_at-s-requires
segment_at-s-requires c =
    let l = c.loop-i in
    let s = c in
    ((sym s.requires.1.marked, omega (arith, s.requires.1.few)), l.invariant.2)

pub overflow_cast-bytes : goal.overflow_cast-bytes
overflow_cast-bytes c = omega (arith, (first_not_long _ _ _ (next (goal.at.overflow_cast-bytes c).After-segment_at-s).is c.loop-i.invariant.3).0)

pub field_width-bits-requires : goal.field_width-bits-requires
field_width-bits-requires c = omega (arith, c.ranges.lenbits)

pub overflow_cast-bits : goal.overflow_cast-bits
overflow_cast-bits c = omega (arith, narrow (goal.at.overflow_cast-bits c).After-field_width-bits)

pub opj_bio_write-bio-requires : goal.opj_bio_write-bio-requires
opj_bio_write-bio-requires c = (c.loop-i.invariant.0, narrow (goal.at.opj_bio_write-bio-requires c).After-field_width-bits)

pub overflow_add-i : goal.overflow_add-i
overflow_add-i c =
    let s = c in
    omega (arith, (next (goal.at.overflow_add-i c).After-segment_at-s).enough, s.requires.1.few)

pub loop-i-smaller : goal.loop-i-smaller
loop-i-smaller c = omega (arith, (next (goal.at.loop-i-smaller c).After-segment_at-s).some)

pub loop-i-preserved : goal.loop-i-preserved
loop-i-preserved c =
    let l = c.loop-i in
    let s = c in
    let o = output l.out l.bio in
    let r = c.opj_bio_write-bio in
    let g = c.segment_at-s.result in
    let n = next (goal.at.loop-i-preserved c).After-segment_at-s in (
      subst FreeBitsClear (sym (ap (λ (x : Output). x.bio) r.ensures)) (put_bits-clear o _ l.invariant.0),
      r.auto.out ∙ l.invariant.1,
      n.enough,
      (first_not_long _ _ _ n.is l.invariant.3).1,
      (first_not_wide s.args.lenbits _ _ _ n.is l.invariant.4).1,
      fields_turn o s.args.lenbits (segment g.passes g.bytes) _ _ _ n.is
          (r.ensures ∙ ap (λ (k : ℕ). put_bits o (bits_of k g.bytes))
          c.field_width-bits.ensures) ∙ l.invariant.5,
    )

pub shape_of-out : goal.shape_of-out
shape_of-out c = c.loop-i.invariant.1

pub returns : goal.returns
unfolding length_fields put_bits
returns c =
    let l = c.loop-i in
    let s = c in
    let z = no_segment_left s.args.lengths.now s.args.marks.now l.i (omega arith) in
    sym (ap (λ (ss : List Segment). put_bits (output l.out l.bio) (length_fields s.args.lenbits ss)) z) ∙ l.invariant.5
