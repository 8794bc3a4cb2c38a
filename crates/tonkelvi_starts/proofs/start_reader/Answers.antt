use Rattle.t800.specs.State.{reader}
use Rattle.tonkelvi_starts.proofs.Laws.{start-unlisted, start-listed}
use Rattle.tonkelvi_starts.proofs.start_reader.Goals as goal

pub returns-then-bands-ne9 : goal.returns-then-bands-ne9
returns-then-bands-ne9 c =
    let a = c.args in
    start-unlisted reader a.count a.bands.now a.style a.planes.now a.state.now _ c.from.ensures c.if-bands-ne9.true

pub returns : goal.returns
returns c =
    let a = c.args in
    start-listed reader a.count a.bands.now a.style a.planes.now a.state.now _ _
    c.if-bands-ne9.false
    c.start_reader.ensures c.bands_in-given.ensures
