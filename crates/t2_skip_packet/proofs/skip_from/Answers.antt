use Rattle.bio_read.specs.Reading.{decoded}
use Rattle.t2_skip_packet.proofs.Laws.Skipping.{absent-skipped, present_skipped}
use Rattle.t2_skip_packet.proofs.skip_from.Goals as goal

pub returns-then-first-eq0 : goal.returns-then-first-eq0
returns-then-first-eq0 c =
    let s = c in
    absent-skipped s.args.src.now s.args.words.now (decoded s.args.first) c.if-first-eq0.true s.requires.2

pub returns : goal.returns
returns c =
    let s = c in
    present_skipped s.args.src.now s.args.words.now (decoded s.args.first) _ _ c.if-first-eq0.false
    c.opj_t2_skip_packet_header.ensures
