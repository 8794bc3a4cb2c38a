use Prim.Native.Nat.{max}
use mathlib.Core.Path.{◌≡◌}
use native.Mathlib.Omega.{arith}
use Rattle.t800.specs.Segments.{segments_of, increment}
use Rattle.t2_segments.proofs.Laws.Segments.{Next, next_segment_lem, no_segment_left, increment-turn, first_not_long}
use Rattle.t2_segments.proofs.segment_increment.Goals as goal
use Rattle.t2_segments.proofs.segment_increment.Goals.{After-segment_at-s}

next : (c : After-segment_at-s)
    → let s = c in
    Next s.args.lengths.now s.args.marks.now
    c.loop-at.at c.segment_at-s.result.passes c.segment_at-s.result.bytes
next c = next_segment_lem _ _ _ _ _ (omega arith) (omega arith) c.segment_at-s.ensures

pub loop-at-init : goal.loop-at-init
loop-at-init c = let s = c in (omega arith, omega arith, s.requires.1)

pub overflow_cast-s : goal.overflow_cast-s
overflow_cast-s c = omega (arith, (first_not_long _ _ _ (next (goal.at.overflow_cast-s c).After-segment_at-s).is c.loop-at.invariant.2).0)

pub overflow_cast-at : goal.overflow_cast-at
overflow_cast-at c = omega (arith, (next (goal.at.overflow_cast-at c).After-segment_at-s).enough)

pub overflow_add-at : goal.overflow_add-at
overflow_add-at c = omega (arith, (next (goal.at.overflow_add-at c).After-segment_at-s).enough)

pub loop-at-smaller : goal.loop-at-smaller
loop-at-smaller c = let n = next (goal.at.loop-at-smaller c).After-segment_at-s in omega (arith, n.enough, n.some)

pub loop-at-preserved : goal.loop-at-preserved
loop-at-preserved c =
    let s = c in
    let l = c.loop-at in
    let n = next (goal.at.loop-at-preserved c).After-segment_at-s in (
      n.enough,
      omega (
        arith,
        c.opj_uint_max-most.ensures,
        c.bits_missing-missing.ensures,
        increment-turn s.args.length_bits l.most _ _ _ n.is,
        l.invariant.1,
      ),
      (first_not_long _ _ _ n.is l.invariant.2).1,
    )

pub returns : goal.returns
unfolding increment
returns c =
    let s = c in
    let l = c.loop-at in
    let z = no_segment_left s.args.lengths.now s.args.marks.now l.at (omega arith) in
    let e : max l.most 0
    ≡ increment s.args.length_bits (segments_of s.args.lengths.now s.args.marks.now) = rw z at l.invariant.1 in
    omega arith

pub segment_at-s-requires : goal.segment_at-s-requires
segment_at-s-requires c = omega arith

pub bits_missing-missing-requires : goal.bits_missing-missing-requires
bits_missing-missing-requires c = omega arith

pub opj_uint_max-most-requires : goal.opj_uint_max-most-requires
opj_uint_max-most-requires c = omega arith
