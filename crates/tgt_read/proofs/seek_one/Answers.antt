use Rattle.bio_read.specs.Reading.{decoded}
use Rattle.tgt_read.proofs.Laws.Seeking.{one_raises, one_reaches}
use Rattle.tgt_read.proofs.seek_one.Goals as goal

pub returns-then-r-eq0 : goal.returns-then-r-eq0
returns-then-r-eq0 c = let s = c in
    let r = c.bit_in-r in
    one_raises s.args.src.now s.args.value s.args.low s.args.b (decoded r.result) s.requires.1 r.ensures
    c.if-r-eq0.true

pub returns : goal.returns
returns c = let s = c in
    let r = c.bit_in-r in
    one_reaches s.args.src.now s.args.value s.args.low s.args.b (decoded r.result) s.requires.1 r.ensures
    c.if-r-eq0.false
