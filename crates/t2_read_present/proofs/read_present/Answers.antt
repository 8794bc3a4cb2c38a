use mathlib.Core.Path.{◌≡◌, sym, ◌∙◌, subst}
use mathlib.Core.Bool.{true}
use mathlib.Core.List.{List}
use Prim.Native.Nat.{ℕ, ◌*◌, ◌<◌}
use native.Mathlib.Omega.{arith}
use lib.ListN.{length}
use Rattle.t800.specs.State.{reader, layer, bands, blocks, not_yet_included}
use Rattle.t800.specs.Ranges.{valid_state}
use Rattle.tcd_laws.proofs.Laws.ValidStates.{valid_state_lem, thirteen_words}
use Rattle.t2_read_segments.specs.Reading.{reading}
use Rattle.t2_read_marks.specs.Marks.{marker_read}
use Rattle.t2_read_present.proofs.Laws.Results.{first_in_lem, broken_is, present_is, bits_reached}
use Rattle.t800.specs.Reports.{report_width}
use Rattle.t2_read_present.proofs.read_present.Goals as goal

pub copy-requires : goal.copy-requires
copy-requires c =
    let s = c in
    let ws = s.args.state.now in
    let v = valid_state_lem reader ws (length s.args.scratch.now) s.requires.0 in
    sym v.scratch_is

pub opj_t2_read_packet_header-run-requires : goal.opj_t2_read_packet_header-run-requires
opj_t2_read_packet_header-run-requires c =
    let s = c in
    let ws = s.args.state.now in
    let v = valid_state_lem reader ws (length s.args.scratch.now) s.requires.0 in
    let e = c.copy.ensures in (
      subst (λ (us : List ℕ). valid_state reader us (length us) ≡ true) (sym e)
          (subst (λ (n : ℕ). valid_state reader ws n ≡ true) v.scratch_is s.requires.0),
      subst (λ (us : List ℕ). layer us < not_yet_included) (sym e) s.requires.1,
      subst (λ (us : List ℕ). length s.args.reports.now ≡ report_width * length (blocks (bands us))) (sym e) s.requires.2,
      first_in_lem s.args.src.now s.args.s.skip s.args.b s.requires.3 s.requires.4,
    )

pub returns-then-run-ne0 : goal.returns-then-run-ne0
returns-then-run-ne0 c =
    let s = c in
    let a = s.args in
    let h = c.opj_t2_read_packet_header-run in
    let w = c.wipe_all in
    broken_is a.state.now a.scratch.now a.m a.src.now a.reports.now a.records.now (marker_read a.s) a.b
    c.copy.new.to
    c.copy.ensures
    (reading h.new.words h.new.reports h.new.records h.result) h.ensures _ _ _ _
    c.if-run-ne0.true
    (h.auto.words ∙ c.copy.auto.to) h.auto.reports
    h.auto.records w.ensures.0 w.ensures.1 w.ensures.2 c.refused.ensures

pub settle-requires : goal.settle-requires
settle-requires c =
    let s = c in
    let ws = s.args.state.now in
    let v = valid_state_lem reader ws (length s.args.scratch.now) s.requires.0 in
    let h = c.opj_t2_read_packet_header-run in (
      h.auto.words ∙ c.copy.auto.to
          ∙ v.scratch_is,
      omega (arith, thirteen_words ws (length s.args.scratch.now) v),
      s.requires.1,
    )

pub done-requires : goal.done-requires
done-requires c =
    let s = c in
    let a = s.args in
    let h = c.opj_t2_read_packet_header-run in
    bits_reached a.state.now a.scratch.now a.m a.src.now a.reports.now a.records.now (marker_read a.s) a.b
    c.copy.new.to
    c.copy.ensures
    (reading h.new.words h.new.reports h.new.records h.result) h.ensures a.s.skip (length a.scratch.now)
    s.requires.3 s.requires.4 s.requires.0 s.requires.1
    c.if-run-ne0.false

pub returns : goal.returns
returns c =
    let s = c in
    let a = s.args in
    let h = c.opj_t2_read_packet_header-run in
    let w = c.settle in
    present_is a.state.now a.scratch.now a.m a.src.now a.reports.now a.records.now (marker_read a.s) a.b
    c.copy.new.to
    c.copy.ensures
    (reading h.new.words h.new.reports h.new.records h.result) h.ensures _ _ _
    c.if-run-ne0.false s.requires.2 w.ensures.0 w.ensures.1
    c.done.ensures
