use mathlib.Core.Path.{ap}
use native.Mathlib.Nat.{le_of_lt}
use native.Mathlib.Omega.{arith}
use Rattle.t800.specs.MarkerSegments.{MarkerRead}
use Rattle.bits_taken.proofs.Laws.Counting.{header_in_reach}
use Rattle.bio_read_end.specs.declared.Aligned.{Aligned}
use Rattle.bio_read_end.specs.HeaderEnd.{aligned_at}
use Rattle.t2_read_marks.specs.Marks.{marker_read}
use Rattle.t2_read_marks.proofs.Laws.Markers.{skip_inside, taken_up_to, done_is}
use Rattle.t2_read_marks.proofs.done.Goals as goal

pub opj_bio_inalign-end-requires : goal.opj_bio_inalign-end-requires
opj_bio_inalign-end-requires c =
    let s = c in
    le_of_lt (header_in_reach s.args.src.now s.args.s.skip s.args.b s.requires)

pub overflow_add-taken : goal.overflow_add-taken
unfolding aligned_at
overflow_add-taken c =
    let s = c in
    let src = s.args.src.now in
    let at = c.opj_bio_inalign-end.result.bio.bp in
    omega (
      arith,
      ap (λ (r : Aligned). r.bio.bp) c.opj_bio_inalign-end.ensures,
      taken_up_to src s.args.b,
      header_in_reach src s.args.s.skip s.args.b s.requires,
      ap (λ (e : MarkerRead). e.skip) c.read_marker-e.ensures,
      skip_inside s.args.m.eph 2 0x92 src at,
      c,
    )

pub returns : goal.returns
unfolding aligned_at
returns c =
    let s = c in
    done_is s.args.m s.args.src.now (marker_read s.args.s) s.args.b s.args.present s.args.segments
    c.opj_bio_inalign-end.result.bio.bp (marker_read c.read_marker-e.result)
    c.bits_past-past.result _ _
    (ap (λ (r : Aligned). r.bio.bp) c.opj_bio_inalign-end.ensures)
    c.read_marker-e.ensures c.bits_past-past.ensures
    c.from.ensures c.from-2.ensures
