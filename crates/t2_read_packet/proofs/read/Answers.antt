use mathlib.Core.Path.{sym, ap, ◌∙◌, subst}
use native.Mathlib.Omega.{arith}
use Rattle.t800.specs.declared.Bio.{Bio}
use Rattle.t800.specs.Bits.{Decoded, bio_at, get_bit}
use Rattle.t800.specs.MarkerSegments.{MarkerRead}
use Rattle.bio_read.specs.Reading.{decoded}
use Rattle.bits_taken.specs.Taken.{Takes}
use Rattle.bits_taken.proofs.Laws.Taken.{takes_one}
use Rattle.bits_taken.proofs.Laws.Reached.{first_reached}
use Rattle.t2_read_marks.specs.Marks.{marker_read}
use Rattle.t2_read_marks.proofs.Laws.Markers.{skip_inside}
use Rattle.t2_read_refusals.proofs.Laws.Refusals.{accepted}
use Rattle.t2_read_refusals.proofs.Laws.Words.{number-ne0, word-0}
use Rattle.t800.specs.RefusalNumbers.{word_of}
use Rattle.t2_read_packet.proofs.Laws.Whole.{unchanged_is, read-absent_is, read-present_is}
use Rattle.t2_read_packet.proofs.read.Goals as goal

pub returns-in-Some : goal.returns-in-Some
returns-in-Some c =
    let a = c.args in
    let e = ap word_of c.in-Some.is in
    unchanged_is a.state.now a.scratch.now a.m a.src.now a.reports.now
    a.records.now _ _ (sym e ∙ c.read_refusal.ensures) (number-ne0 c.in-Some.why) c.refused.ensures

pub bit_in-first-requires : goal.bit_in-first-requires
bit_in-first-requires c = omega (arith, ap (λ (b : Bio). b.ct) c.opj_bio_init_dec-start.ensures)

pub read_absent-requires : goal.read_absent-requires
read_absent-requires c =
    let s = c in
    let g = accepted s.args.state.now s.args.scratch.now s.args.reports.now
    (sym c.read_refusal.ensures ∙ word-0 _ c.in_default.not-Some) in
    let e = c.bit_in-first.ensures
    ∙ ap (get_bit s.args.src.now) c.opj_bio_init_dec-start.ensures in
    let k = ap (λ (f : MarkerRead). f.skip) c.read_marker-s.ensures in
    let b = bio_at c.read_marker-s.result.skip in
    let inside = skip_inside s.args.m.sop 6 0x91 s.args.src.now 0 in
    let first = subst (Takes s.args.src.now 1 b) (sym (ap (λ (d : Decoded). d.bio) e)) (takes_one s.args.src.now b) in
    (g.valid, g.layers, first_reached s.args.src.now b.bp _ (omega (arith, k, inside)) first)

pub returns-then-first-eq0 : goal.returns-then-first-eq0
returns-then-first-eq0 c =
    let s = c in
    let e = c.bit_in-first.ensures
    ∙ ap (get_bit s.args.src.now)
    c.opj_bio_init_dec-start.ensures in
    read-absent_is s.args.state.now s.args.scratch.now s.args.m s.args.src.now s.args.reports.now
    s.args.records.now
    (sym c.read_refusal.ensures ∙ word-0 _ c.in_default.not-Some)
    (marker_read c.read_marker-s.result)
    c.read_marker-s.ensures
    (decoded c.bit_in-first.result) e
    _ c.if-first-eq0.true
    (c.read_absent.ensures s.args.records.now)

pub read_present-requires : goal.read_present-requires
read_present-requires c =
    let s = c in
    let g = accepted s.args.state.now s.args.scratch.now s.args.reports.now
    (sym c.read_refusal.ensures ∙ word-0 _ c.in_default.not-Some) in
    let e = c.bit_in-first.ensures
    ∙ ap (get_bit s.args.src.now) c.opj_bio_init_dec-start.ensures in
    let k = ap (λ (f : MarkerRead). f.skip) c.read_marker-s.ensures in
    let b = bio_at c.read_marker-s.result.skip in (
      g.valid,
      g.layers,
      g.listed,
      omega (arith, k, skip_inside s.args.m.sop 6 0x91 s.args.src.now 0),
      subst (Takes s.args.src.now 1 b) (sym (ap (λ (d : Decoded). d.bio) e)) (takes_one s.args.src.now b),
    )

pub returns : goal.returns
returns c =
    let s = c in
    let e = c.bit_in-first.ensures
    ∙ ap (get_bit s.args.src.now)
    c.opj_bio_init_dec-start.ensures in
    read-present_is s.args.state.now s.args.scratch.now s.args.m s.args.src.now s.args.reports.now
    s.args.records.now
    (sym c.read_refusal.ensures ∙ word-0 _ c.in_default.not-Some)
    (marker_read c.read_marker-s.result)
    c.read_marker-s.ensures
    (decoded c.bit_in-first.result) e _
    c.if-first-eq0.false
    c.read_present.ensures
