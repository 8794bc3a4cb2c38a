use Rattle.std.proofs.Common.{◌≡◌, ℕ, List, set, sym, ap, ◌∙◌, arith}
use Rattle.t2_records.specs.Segments.{segment_after, record_at, filled}
use Rattle.t2_records.proofs.Stored.{last_none, last_turn, stored-none, stored-turn}
use Rattle.t2_records.proofs.fill.Goals as goal

pub loop-i-init : goal.loop-i-init
loop-i-init c =
    (c.no_segment-last.ensures ∙ sym (last_none c.args.words.now), sym (stored-none (record_at c.args.words.now) c.args.records.now))

pub loop-i-preserved : goal.loop-i-preserved
loop-i-preserved c =
    let l = c.loop-i in
    let ws : List ℕ = c.args.words.now in
    let e : c.segment_after-last.result ≡ record_at ws l.i =
    c.segment_after-last.ensures ∙ ap (segment_after ws l.i) l.invariant.0 in (
      e ∙ last_turn ws l.i,
      c.put_segment.ensures
          ∙ (λ j. set (l.invariant.1 j) l.i (e j))
          ∙ stored-turn (record_at ws) l.i c.args.records.now,
    )

pub returns : goal.returns
returns c =
    let l = c.loop-i in
    let e : l.i ≡ c.args.n = omega arith in
    l.invariant.1 ∙ ap (λ (n : ℕ). filled c.args.words.now n c.args.records.now) e
