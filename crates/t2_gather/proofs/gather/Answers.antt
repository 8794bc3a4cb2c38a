use Prim.Native.Nat.{ℕ}
use mathlib.Core.Path.{◌≡◌, sym, ◌∙◌, subst}
use mathlib.Core.Bool.{false}
use Rattle.t800.specs.Gathered.{bad_states}
use Rattle.tcd_states.proofs.Laws.Valid.{states_fit_lem}
use Rattle.t2_gather_packet.proofs.Laws.Sizes.{found, not_found}
use Rattle.t2_gather.proofs.Laws.Whole.{wiped-alike, bad_states_lem, packets-refused, row_left-over, room_to_close, all_moved}
use Rattle.t2_gather.proofs.gather.Goals as goal

pub returns-then-not-states_fit : goal.returns-then-not-states_fit
returns-then-not-states_fit c =
    let a = c.args in
    c.refuse.ensures
    ∙ bad_states_lem a.row.now a.states.now a.scratch.now a.places.now a.m a.headers.now a.bodies.now
    (found _ _ c.states_fit.ensures c.if-not-states_fit.true)

pub copy-requires : goal.copy-requires
copy-requires c =
    let a = c.args in
    sym (states_fit_lem a.states.now _ a.places.now (not_found _ _ c.states_fit.ensures c.if-not-states_fit.false)).scratch_is

pub gather_packets-requires : goal.gather_packets-requires
gather_packets-requires c =
    let a = c.args in (
      subst (λ (n : ℕ). bad_states a.states.now n a.places.now ≡ false) (sym c.copy.auto.to)
          (not_found _ _ c.states_fit.ensures c.if-not-states_fit.false),
      c.copy.ensures,
    )

-- ---- after the packets

pub returns-in-Err : goal.returns-in-Err
returns-in-Err c =
    let a = c.args in
    let l = c.gather_packets.new in
    let k = c.gather_packets.auto in
    c.refuse-in-Err.ensures
    ∙ wiped-alike _ a.scratch.now l.scratch a.headers.now l.headers a.bodies.now l.bodies
    (k.scratch ∙ c.copy.auto.to) k.headers k.bodies
    ∙ packets-refused a.row.now a.states.now a.scratch.now a.places.now a.m a.headers.now a.bodies.now
    (not_found _ _ c.states_fit.ensures c.if-not-states_fit.false) _ _ _ c.in-Err.why c.in-Err.ensures

pub returns-then-g-row : goal.returns-then-g-row
returns-then-g-row c =
    let a = c.args in
    let l = c.gather_packets.new in
    let k = c.gather_packets.auto in
    c.refuse-then-g-row.ensures
    ∙ wiped-alike _ a.scratch.now l.scratch a.headers.now l.headers a.bodies.now l.bodies
    (k.scratch ∙ c.copy.auto.to) k.headers k.bodies
    ∙ row_left-over a.row.now a.states.now a.scratch.now a.places.now a.m a.headers.now a.bodies.now
    (not_found _ _ c.states_fit.ensures c.if-not-states_fit.false) _ _ _ c.in-Ok.g c.in-Ok.ensures c.if-g-row.true

pub close-requires : goal.close-requires
close-requires c =
    let a = c.args in
    room_to_close a.row.now a.states.now a.scratch.now a.places.now a.m a.headers.now a.bodies.now
    (not_found _ _ c.states_fit.ensures c.if-not-states_fit.false) _ _ _ c.in-Ok.g c.in-Ok.ensures c.if-g-row.false

pub returns : goal.returns
returns c =
    let e = c.close.ensures in
    let a = c.args in
    all_moved a.row.now a.states.now a.scratch.now a.places.now a.m a.headers.now a.bodies.now
    (not_found _ _ c.states_fit.ensures c.if-not-states_fit.false) _ _ _ c.in-Ok.g c.in-Ok.ensures c.if-g-row.false _ _ e.0 e.1
