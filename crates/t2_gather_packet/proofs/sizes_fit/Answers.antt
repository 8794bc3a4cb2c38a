use mathlib.Core.Path.{refl, sym, ◌∙◌}
use native.Mathlib.Omega.{arith}
use borrow.Author.Tests.{ltb-false}
use Rattle.std.proofs.Common.{Ok}
use Rattle.t2_skip_packet.specs.Parts.{skipped}
use Rattle.t2_gather_packet.proofs.Laws.Sizes.{found, not_found, by_row, by_segments, by_room, by_none, up_to_all}
use Rattle.t2_gather_packet.proofs.sizes_fit.Goals as goal

pub returns-then-not-end_within : goal.returns-then-not-end_within
returns-then-not-end_within c =
    let a = c.args in
    by_row (skipped (Ok a.p)) a.g a.left a.headers_room a.bodies_room refl
    (found _ _ c.end_within.ensures c.if-not-end_within.true)

pub returns-then-needs_more_segments : goal.returns-then-needs_more_segments
returns-then-needs_more_segments c =
    let a = c.args in
    by_segments (skipped (Ok a.p)) a.g a.left a.headers_room a.bodies_room refl
    (not_found _ _ c.end_within.ensures c.if-not-end_within.false)
    (sym c.needs_more_segments.ensures ∙ c.if-needs_more_segments.true)

pub has_room-requires : goal.has_room-requires
has_room-requires c =
    let e = c.end_within.ensures in
    let s = c in
    let a = s.args in (
      up_to_all (skipped (Ok a.p)) a.g a.left a.headers_room a.bodies_room
          (sym c.needs_more_segments.ensures ∙ c.if-needs_more_segments.false),
      s.requires.1,
      omega (arith, ltb-false a.left _ (not_found _ _ e c.if-not-end_within.false), s.ranges.left),
    )

pub returns-then-not-has_room : goal.returns-then-not-has_room
returns-then-not-has_room c =
    let a = c.args in
    by_room (skipped (Ok a.p)) a.g a.left a.headers_room a.bodies_room refl
    (not_found _ _ c.end_within.ensures c.if-not-end_within.false)
    (sym c.needs_more_segments.ensures ∙ c.if-needs_more_segments.false)
    (found _ _ c.has_room.ensures c.if-not-has_room.true)

pub returns : goal.returns
returns c =
    let a = c.args in
    by_none (skipped (Ok a.p)) a.g a.left a.headers_room a.bodies_room refl
    (not_found _ _ c.end_within.ensures c.if-not-end_within.false)
    (sym c.needs_more_segments.ensures ∙ c.if-needs_more_segments.false)
    (not_found _ _ c.has_room.ensures c.if-not-has_room.false)
