use mathlib.Core.Path.{refl, ◌∙◌}
use Rattle.std.proofs.lemmas.Result.{err_from_is_err_and}
use Rattle.tcd_states.proofs.Laws.Valid.{states_fit_lem}
use Rattle.t2_spread_row.proofs.Laws.Turns.{first_one, last_one, place_there, state_ready, ended, next_one}
use Rattle.t2_spread_row.proofs.spread_places.Goals as goal

pub loop-place-init : goal.loop-place-init
loop-place-init c =
    let a = c.args in (
      refl,
      refl,
      refl,
      first_one a.segments.now a.bodies.now a.m a.states.now a.places.now a.row.now _ c.requires.0 _ _
          c.requires.2 c.requires.3,
    )

pub find_state-f-requires : goal.find_state-f-requires
find_state-f-requires c =
    let a = c.args in
    let l = c.loop-place in (
      (states_fit_lem a.states.now _ a.places.now c.requires.0).all_valid,
      c.requires.1,
      place_there a.segments.now a.bodies.now a.m a.states.now a.places.now a.row.now _ c.requires.0
          l.place-index l.scratch l.window l.row l.g l.invariant.3 c.loop-place-test.true,
    )

pub spread_at-requires : goal.spread_at-requires
spread_at-requires c =
    let f = c.find_state-f in
    let l = c.loop-place in
    let a = c.args in
    let r = state_ready a.segments.now a.bodies.now a.m a.states.now a.places.now a.row.now _ c.requires.0
    l.place-index l.scratch l.window l.row l.g l.invariant.3 c.loop-place-test.true f.result f.ensures in
    (r.inside, r.valid, r.headers-at, c.requires.4, r.in_bodies, r.in_row)

pub returns-in_err-g : goal.returns-in_err-g
returns-in_err-g c =
    let f = c.find_state-f in
    let l = c.loop-place in
    let a = c.args in
    let r = err_from_is_err_and c.from_residual.result c.from_residual.ensures.1 in
    rw (r.1, r.2) (ended a.segments.now a.bodies.now a.m a.states.now a.places.now a.row.now _ c.requires.0
    l.place-index l.scratch l.window l.row l.g l.invariant.3 c.loop-place-test.true
    f.result f.ensures _ _ _ c.in_err-g.field-0.0 c.in_err-g.ensures)

pub loop-place-preserved : goal.loop-place-preserved
loop-place-preserved c =
    let f = c.find_state-f in
    let l = c.loop-place in
    let a = c.args in
    let k = c.spread_at.auto in (
      k.scratch ∙ l.invariant.0,
      k.window ∙ l.invariant.1,
      k.row ∙ l.invariant.2,
      next_one a.segments.now a.bodies.now a.m a.states.now a.places.now a.row.now _ c.requires.0
          l.place-index l.scratch l.window l.row l.g l.invariant.3 c.loop-place-test.true
          f.result f.ensures _ _ _ c.in_ok-g.g c.in_ok-g.ensures,
    )

pub returns : goal.returns
returns c =
    let a = c.args in
    let l = c.loop-place in
    last_one a.segments.now a.bodies.now a.m a.states.now a.places.now a.row.now _ c.requires.0
    l.place-index l.scratch l.window l.row l.g l.invariant.3 c.loop-place-test.false

pub shape_of-scratch : goal.shape_of-scratch
shape_of-scratch c = c.loop-place.invariant.0

pub shape_of-window : goal.shape_of-window
shape_of-window c = c.loop-place.invariant.1

pub shape_of-row : goal.shape_of-row
shape_of-row c = c.loop-place.invariant.2
