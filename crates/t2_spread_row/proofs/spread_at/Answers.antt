use mathlib.Core.Path.{refl, subst}
use Rattle.t800.specs.Base.{Bytes}
use Rattle.t2_spread_packet.specs.Moving.{SpreadsPacket}
use Rattle.tcd_states.specs.States.{words_at}
use Rattle.t2_spread_row.proofs.Laws.Turns.{lent-rest}
use Rattle.t2_spread_row.proofs.spread_at.Goals as goal

pub returns : goal.returns
returns c =
    let r = c in
    let s = r in
    let a = s.args in
    let p = r.spread_packet in
    record {
      after = p.new.words;
      packet = subst (λ (bodies : Bytes). SpreadsPacket a.segments.now bodies a.m (words_at a.f a.scratch.now) a.row.now
          a.g p.new.words p.new.window p.new.row p.result)
          (lent-rest a.bodies.now a.g.bodies s.requires.4) p.ensures;
      replaced = refl;
    }
