use mathlib.Core.Path.{◌≡◌, refl, ◌∙◌}
use Rattle.std.proofs.Common.{Err}
use Rattle.std.proofs.lemmas.Result.{err_from_is_err_and}
use Rattle.tcd_states.proofs.Laws.Valid.{states_fit_lem}
use Rattle.t2_gather_row.specs.Standing.{GathersPackets}
use Rattle.t2_gather_row.proofs.Laws.Turns.{first_one, last_one, place_there, state_ready, ended, next_one}
use Rattle.t2_gather_row.proofs.gather_places.Goals as goal

pub loop-place-init : goal.loop-place-init
loop-place-init c =
    let a = c.args in
    (refl, refl, refl, first_one a.row.now a.m a.states.now a.places.now a.headers.now a.bodies.now _ c.requires.0 _ c.requires.2)

pub find_state-f-requires : goal.find_state-f-requires
find_state-f-requires c =
    let a = c.args in
    let l = c.loop-place in (
      (states_fit_lem a.states.now _ a.places.now c.requires.0).all_valid,
      c.requires.1,
      place_there a.row.now a.m a.states.now a.places.now a.headers.now a.bodies.now _ c.requires.0
          l.place-index l.scratch l.headers l.bodies l.g l.invariant.3 c.loop-place-test.true,
    )

pub gather_at-requires : goal.gather_at-requires
gather_at-requires c =
    let a = c.args in
    let l = c.loop-place in
    state_ready a.row.now a.m a.states.now a.places.now a.headers.now a.bodies.now _ c.requires.0
    l.place-index l.scratch l.headers l.bodies l.g l.invariant.3 c.loop-place-test.true
    c.find_state-f.result c.find_state-f.ensures

pub returns-in_err-g : goal.returns-in_err-g
returns-in_err-g c =
    let a = c.args in
    let l = c.loop-place in
    let f = c.find_state-f in
    let r = err_from_is_err_and c.from_residual.result c.from_residual.ensures.1 in
    rw (r.1, r.2) (ended a.row.now a.m a.states.now a.places.now a.headers.now a.bodies.now _ c.requires.0
    l.place-index l.scratch l.headers l.bodies l.g l.invariant.3 c.loop-place-test.true
    f.result f.ensures _ _ _ c.in_err-g.field-0.0 c.in_err-g.ensures)

pub loop-place-preserved : goal.loop-place-preserved
loop-place-preserved c =
    let a = c.args in
    let l = c.loop-place in
    let f = c.find_state-f in
    let k = c.gather_at.auto in (
      k.scratch ∙ l.invariant.0,
      k.headers ∙ l.invariant.1,
      k.bodies ∙ l.invariant.2,
      next_one a.row.now a.m a.states.now a.places.now a.headers.now a.bodies.now _ c.requires.0
          l.place-index l.scratch l.headers l.bodies l.g l.invariant.3 c.loop-place-test.true
          f.result f.ensures _ _ _ c.in_ok-g.g c.in_ok-g.ensures,
    )

pub returns : goal.returns
returns c =
    let a = c.args in
    let l = c.loop-place in
    last_one a.row.now a.m a.states.now a.places.now a.headers.now a.bodies.now _ c.requires.0
    l.place-index l.scratch l.headers l.bodies l.g l.invariant.3 c.loop-place-test.false

pub shape_of-scratch : goal.shape_of-scratch
shape_of-scratch c = c.loop-place.invariant.0

pub shape_of-headers : goal.shape_of-headers
shape_of-headers c = c.loop-place.invariant.1

pub shape_of-bodies : goal.shape_of-bodies
shape_of-bodies c = c.loop-place.invariant.2
