use native.Mathlib.Omega.{arith}
use Rattle.t2_put_packet.proofs.Laws.Put.{layer-settled}
use Rattle.t2_put_packet.proofs.settle.Goals as goal

pub returns-then-passes-eq0 : goal.returns-then-passes-eq0
returns-then-passes-eq0 c =
    let s = c in
    layer-settled s.args.state.now s.args.scratch.now s.requires.0 (s.requires.2 (omega (arith, c.if-passes-eq0.true)))
