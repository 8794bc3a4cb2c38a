use mathlib.Core.Path.{◌∙◌}
use Rattle.t800.specs.State.{reader}
use Rattle.t2_start_parts.proofs.Laws.Checks.{reader-begun}
use Rattle.t2_start.proofs.start_reader.Goals as goal

pub returns : goal.returns
unfolding reader
returns c = let s = c.args in c.begin.ensures
    ∙ reader-begun s.count s.bands s.style s.planes.now s.state.now
