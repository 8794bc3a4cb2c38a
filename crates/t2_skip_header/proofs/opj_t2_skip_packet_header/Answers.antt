use mathlib.Core.List.{[]}
use Rattle.t2_read_segments.specs.Reading.{reading}
use Rattle.t2_skip_header.proofs.Laws.Skips.{skips}
use Rattle.t2_skip_header.proofs.opj_t2_skip_packet_header.Goals as goal

pub returns : goal.returns
returns c =
    let s = c in
    let a = s.args in
    let h = c.read_header-run in
    skips a.src.now a.words.now a.b s.requires.0 s.requires.2 [] []
    (reading h.new.words h.new.reports h.new.records h.result) h.ensures
