use mathlib.Core.Path.{refl, sym, ap, ◌∙◌, subst}
use Prim.Native.Nat.{ℕ, ◌<◌}
use native.Mathlib.Omega.{arith}
use lib.ListN.{length}
use Rattle.t800.specs.declared.Bio.{Bio}
use Rattle.t800.specs.Bits.{Decoded, get_bit}
use Rattle.t800.specs.MarkerSegments.{MarkerRead}
use Rattle.t800.specs.State.{reader}
use Rattle.bio_read.specs.Reading.{decoded}
use Rattle.tcd_laws.proofs.Laws.ValidStates.{valid_state_lem, thirteen_words}
use Rattle.t2_read_marks.specs.Marks.{marker_read}
use Rattle.t2_read_marks.proofs.Laws.Markers.{skip_inside}
use Rattle.t2_read_segments.specs.Reading.{BitsIn}
use Rattle.t2_skip_packet.proofs.Laws.FirstBit.{first_in_lem}
use Rattle.t2_skip_packet.proofs.Laws.Parts.{layers_refused, header_refused, packet-skipped, header_number}
use Rattle.t2_skip_packet.proofs.opj_t2_skip_packet.Goals as goal

pub bounds-words-3 : goal.bounds-words-3
bounds-words-3 c =
    let s = c in
    let ws = s.args.words.now in
    omega (arith, thirteen_words ws (length ws) (valid_state_lem reader ws (length ws) s.requires))

pub returns-then-layer-eq-NOT_YET_INCLUDED : goal.returns-then-layer-eq-NOT_YET_INCLUDED
returns-then-layer-eq-NOT_YET_INCLUDED c =
    let s = c in
    layers_refused s.args.words.now s.args.m s.args.src.now s.requires _ c.if-layer-eq-NOT_YET_INCLUDED.true

pub bit_in-first-requires : goal.bit_in-first-requires
bit_in-first-requires c = omega (arith, ap (λ (b : Bio). b.ct) c.opj_bio_init_dec-start.ensures)

pub skip_from-h-requires : goal.skip_from-h-requires
skip_from-h-requires c =
    let s = c in
    let src = s.args.src.now in
    let ws = s.args.words.now in
    let v = valid_state_lem reader ws (length ws) s.requires in
    let k = ap (λ (f : MarkerRead). f.skip) c.read_marker-s.ensures in
    let start = c.read_marker-s.result.skip in
    let e = c.bit_in-first.ensures ∙ ap (get_bit src) c.opj_bio_init_dec-start.ensures in (
      s.requires,
      omega (arith, v.layer-up_to, c.if-layer-eq-NOT_YET_INCLUDED.false),
      subst (λ (d : Decoded). BitsIn src d.bio) (sym e)
          (first_in_lem src start (omega (arith, k, skip_inside s.args.m.sop 6 0x91 src 0))),
    )

pub overflow_add-words : goal.overflow_add-words
overflow_add-words c =
    let s = c in
    let ws = s.args.words.now in
    let v = valid_state_lem reader ws (length ws) s.requires in
    omega (arith, v.layer-up_to)

pub bounds-words-3-2 : goal.bounds-words-3-2
bounds-words-3-2 c =
    let s = c in
    let ws = s.args.words.now in
    let v = valid_state_lem reader ws (length ws) s.requires in
    subst (λ (n : ℕ). 3 < n) (sym c.words-1.given) (omega (arith, thirteen_words ws (length ws) v))

pub header_bytes-header-requires : goal.header_bytes-header-requires
header_bytes-header-requires c = c.skip_from-h.ensures.bits.place

pub refusal_of-requires : goal.refusal_of-requires
refusal_of-requires c =
    header_number c.args.src.now c.args.words.now c.requires (decoded c.bit_in-first.result) _ c.skip_from-h.result c.skip_from-h.ensures

pub returns-in-Some : goal.returns-in-Some
returns-in-Some c =
    let s = c in
    let src = s.args.src.now in
    header_refused s.args.words.now s.args.m src s.requires c.if-layer-eq-NOT_YET_INCLUDED.false (marker_read c.read_marker-s.result)
    c.read_marker-s.ensures (decoded c.bit_in-first.result) (c.bit_in-first.ensures ∙ ap (get_bit src) c.opj_bio_init_dec-start.ensures)
    _ c.skip_from-h.result c.skip_from-h.ensures _ c.in-Some.why c.in-Some.ensures

pub returns : goal.returns
returns c =
    let s = c in
    let src = s.args.src.now in
    packet-skipped s.args.words.now s.args.m src s.requires c.if-layer-eq-NOT_YET_INCLUDED.false (marker_read c.read_marker-s.result)
    c.read_marker-s.ensures (decoded c.bit_in-first.result) (c.bit_in-first.ensures ∙ ap (get_bit src) c.opj_bio_init_dec-start.ensures)
    _ c.skip_from-h.result c.skip_from-h.ensures _ _ (sym c.in_default.ensures) refl c.header_bytes-header.ensures
