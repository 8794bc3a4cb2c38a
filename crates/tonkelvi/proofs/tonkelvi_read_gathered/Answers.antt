use Rattle.tonkelvi_gathered_parts.proofs.Structs.{filled-is_gathered}
use Rattle.tonkelvi.proofs.tonkelvi_read_gathered.Goals as goal

pub returns : goal.returns
returns c =
    let s = c.args in
    let n = c.gathered_words-a in
    filled-is_gathered s.state.now s.scratch.now (record { sop = s.sop; eph = s.eph }) s.headers.now s.src.now s.reports.now s.work.now
    s.records.now s.answer.now n.new.state n.new.scratch n.new.reports n.new.work n.new.answer n.result c.fill.new.records
    c.to_fill-m.result n.ensures n.auto.work c.to_fill-m.ensures c.fill.ensures
