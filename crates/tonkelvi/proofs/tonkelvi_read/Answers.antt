use Rattle.tonkelvi_read_parts.proofs.Structs.{filled-is_call}
use Rattle.tonkelvi.proofs.tonkelvi_read.Goals as goal

pub returns : goal.returns
returns c =
    let s = c.args in
    let n = c.read_words-a in
    filled-is_call s.state.now s.scratch.now (record { sop = s.sop; eph = s.eph }) s.src.now s.reports.now s.work.now s.records.now
    s.answer.now n.new.state n.new.scratch n.new.reports n.new.work n.new.answer n.result c.fill.new.records c.to_fill-m.result n.ensures n.auto.work
    c.to_fill-m.ensures c.fill.ensures
