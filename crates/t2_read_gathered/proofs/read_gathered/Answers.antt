use mathlib.Core.Path.{◌∙◌}
use Rattle.t800.specs.Reports.{as_words}
use Rattle.t2_read_gathered.proofs.Told.{beside_sop, read-beside}
use Rattle.t2_read_gathered.proofs.read_gathered.Goals as goal

pub returns : goal.returns
returns c =
    let a = c.args in
    let r = c.read-a in
    beside_sop as_words a.m a.src.now _ _ _ _ _ _ _ r.ensures c.told_beside.ensures
    ∙ read-beside as_words a.m a.src.now a.state.now a.scratch.now a.headers.now a.reports.now a.records.now
