use Rattle.std.proofs.Common.{◌-◌, [], sym, refl, ◌∙◌, arith}
use Rattle.tcd_places.specs.Places.{block_at}
use Rattle.t2_read_segments.specs.Reading.{reading}
use Rattle.t2_read_segments.proofs.Laws.ManySegments.{has_room, taken_is, segment-leaves, segments_turn, segments_stop, no_segments}
use Rattle.t2_read_segments.proofs.read_segments.Goals as goal

pub loop-left-init : goal.loop-left-init
loop-left-init c =
    let s = c in
    (s.requires.0, refl, refl, s.requires.3, s.requires.4, s.requires.5, (s.args.passes, omega arith, λ reports. refl))

pub current_segment-s-requires : goal.current_segment-s-requires
current_segment-s-requires c = omega (arith, c.requires.1, c.loop-left.invariant.1)

pub overflow_sub-room : goal.overflow_sub-room
overflow_sub-room c =
    let l = c.loop-left in
    omega (
      arith,
      (has_room l.words c.args.at _
          c.current_segment-s.ensures l.invariant.4).0,
    )

pub read_segment-run-requires : goal.read_segment-run-requires
read_segment-run-requires c =
    let s = c in
    let l = c.loop-left in
    let e = c.current_segment-s.ensures in
    let r = has_room l.words s.args.at _ e l.invariant.4 in
    (l.invariant.0, omega (arith, s.requires.1, l.invariant.1), s.requires.2, e, omega (arith, r.0, r.1, c.opj_uint_min-n.ensures))

pub shape_of-words-then-run-ne0 : goal.shape_of-words-then-run-ne0
shape_of-words-then-run-ne0 c = c.read_segment-run.auto.words
    ∙ c.loop-left.invariant.1

pub shape_of-records-then-run-ne0 : goal.shape_of-records-then-run-ne0
shape_of-records-then-run-ne0 c = c.read_segment-run.auto.records
    ∙ c.loop-left.invariant.2

pub returns-then-run-ne0 : goal.returns-then-run-ne0
returns-then-run-ne0 c =
    let s = c in
    let l = c.loop-left in
    let t = taken_is l.words s.args.at l.left _ _
    c.current_segment-s.ensures
    c.opj_uint_min-n.ensures in
    λ reports. segments_stop s.args.src.now s.args.block s.args.at l.invariant.6.0 l.left _
    (reading l.words reports l.records l.run) _
    c.loop-left-test.true
    l.invariant.6.1 t (c.read_segment-run.ensures reports) c.if-run-ne0.true
    ∙ l.invariant.6.2 reports

pub overflow_sub-left : goal.overflow_sub-left
overflow_sub-left c = omega (arith, c.opj_uint_min-n.ensures)

pub loop-left-smaller : goal.loop-left-smaller
loop-left-smaller c =
    let l = c.loop-left in
    let r = has_room l.words
    c.args.at _
    c.current_segment-s.ensures
    l.invariant.4 in
    omega (
      arith,
      r.0,
      c.opj_uint_min-n.ensures,
      c.loop-left-test.true,
    )

pub loop-left-preserved : goal.loop-left-preserved
loop-left-preserved c =
    let s = c in
    let l = c.loop-left in
    let g = c.read_segment-run in
    let e = c.current_segment-s.ensures in
    let m = c.opj_uint_min-n.ensures in
    let r = has_room l.words s.args.at _ e l.invariant.4 in
    let a = reading l.words [] l.records l.run in
    let k = segment-leaves s.args.src.now s.args.block s.args.at _ a _ _ (g.ensures []) e l.invariant.0
    (omega (arith, s.requires.1, l.invariant.1)) l.invariant.4 (omega (arith, r.0, m)) in
    let t = taken_is l.words s.args.at l.left _ _ e m in (
      k.few,
      g.auto.words ∙ l.invariant.1,
      g.auto.records ∙ l.invariant.2,
      omega (arith, l.invariant.3),
      k.segment,
      c.if-run-ne0.false,
      (
        l.invariant.6.0 - 1,
        omega (
          arith,
          r.0,
          m,
          l.invariant.6.1,
          c.loop-left-test.true,
        ),
        λ reports. segments_turn s.args.src.now s.args.block s.args.at l.invariant.6.0 l.left _
            (reading l.words reports l.records l.run) _
            c.loop-left-test.true
            l.invariant.6.1 t (g.ensures reports) c.if-run-ne0.false ∙ l.invariant.6.2 reports,
      ),
    )

pub shape_of-words : goal.shape_of-words
shape_of-words c = c.loop-left.invariant.1

pub shape_of-records : goal.shape_of-records
shape_of-records c = c.loop-left.invariant.2

pub returns : goal.returns
returns c =
    let s = c in
    let l = c.loop-left in
    λ reports. sym (no_segments s.args.src.now s.args.block (block_at s.args.at) l.invariant.6.0 l.left
    (reading l.words reports l.records l.run) (omega (arith, c.loop-left-test.false))) ∙ l.invariant.6.2 reports
