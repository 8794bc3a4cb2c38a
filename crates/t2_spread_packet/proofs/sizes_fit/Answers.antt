use mathlib.Core.Path.{refl}
use Rattle.std.proofs.Common.{Ok}
use Rattle.t2_skip_packet.specs.Parts.{skipped}
use Rattle.t2_spread_packet.proofs.Laws.Sizes.{by_bodies, by_room, by_none}
use Rattle.t2_spread_packet.proofs.sizes_fit.Goals as goal

pub returns-then-not-end_within : goal.returns-then-not-end_within
returns-then-not-end_within c =
    let a = c.args in
    by_bodies (skipped (Ok a.p)) a.left a.put a.room refl _ c.end_within.ensures c.if-not-end_within.true

pub returns-then-not-end_within-2 : goal.returns-then-not-end_within-2
returns-then-not-end_within-2 c =
    let a = c.args in
    by_room (skipped (Ok a.p)) a.left a.put a.room refl _
    c.end_within.ensures c.if-not-end_within.false c.requires _ c.end_within-2.ensures c.if-not-end_within-2.true

pub returns : goal.returns
returns c =
    let a = c.args in
    by_none (skipped (Ok a.p)) a.left a.put a.room refl _
    c.end_within.ensures c.if-not-end_within.false c.requires _ c.end_within-2.ensures c.if-not-end_within-2.false
