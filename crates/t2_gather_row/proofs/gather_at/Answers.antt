use mathlib.Core.Path.{refl, subst}
use Rattle.t800.specs.Base.{Bytes}
use Rattle.t2_gather_packet.specs.Moving.{GathersPacket}
use Rattle.tcd_states.specs.States.{words_at}
use Rattle.t2_gather_row.proofs.Laws.Turns.{lent-rest}
use Rattle.t2_gather_row.proofs.gather_at.Goals as goal

pub returns : goal.returns
returns c =
    let r = c in
    let s = r in
    let a = s.args in
    let p = r.gather_packet in
    record {
      after = p.new.words;
      packet = subst (λ (row : Bytes). GathersPacket row a.m (words_at a.f a.scratch.now) a.headers.now a.bodies.now
          a.g p.new.words p.new.headers p.new.bodies p.result)
          (lent-rest a.row.now a.g.taken s.requires.2) p.ensures;
      replaced = refl;
    }
