use mathlib.Core.Path.{◌≡◌, refl, sym, subst}
use mathlib.Core.Bool.{false}
use Prim.Native.Nat.{ℕ}
use native.Mathlib.Omega.{arith}
use Rattle.std.proofs.lemmas.Result.{err_from_is_err_and}
use Rattle.t800.specs.Gathered.{bad_states}
use Rattle.tcd_states.proofs.Laws.Valid.{states_fit_lem}
use Rattle.t2_spread.proofs.Laws.Calls.{packets-refused, headers_over, bodies_over, spreads_all}
use Rattle.t2_spread.proofs.spread_all.Goals as goal

pub copy-requires : goal.copy-requires
copy-requires c =
    sym (states_fit_lem c.args.states.now _ c.args.places.now c.requires.0).scratch_is

pub spread_packets-requires : goal.spread_packets-requires
spread_packets-requires c =
    let k = c.copy in (
      subst (λ (n : ℕ). bad_states c.args.states.now n c.args.places.now ≡ false) (sym k.auto.to) c.requires.0,
      k.ensures,
      c.requires.1,
      c.requires.2,
    )

pub returns-in_err-o : goal.returns-in_err-o
returns-in_err-o c =
    let a = c.args in
    let r = err_from_is_err_and c.from_residual.result c.from_residual.ensures.1 in
    rw (r.1, r.2) (packets-refused a.segments.now a.bodies.now a.m a.states.now a.places.now a.row.now _ _
    c.in_err-o.field-0.0 c.in_err-o.ensures)

pub returns-then-o-plain : goal.returns-then-o-plain
returns-then-o-plain c =
    let a = c.args in
    headers_over a.segments.now a.bodies.now a.m a.states.now a.places.now a.row.now _ _ c.in_ok-o.o c.in_ok-o.ensures
    (omega (arith, c.if-o-plain.true, c.requires.2))

pub returns-then-o-bodies : goal.returns-then-o-bodies
returns-then-o-bodies c =
    let a = c.args in
    bodies_over a.segments.now a.bodies.now a.m a.states.now a.places.now a.row.now _ _ c.in_ok-o.o c.in_ok-o.ensures
    c.if-o-bodies.true

pub returns : goal.returns
returns c =
    let a = c.args in
    spreads_all a.segments.now a.bodies.now a.m a.states.now a.places.now a.row.now _ _ c.in_ok-o.o c.in_ok-o.ensures
    c.in_ok-o.o.row (omega (arith, c.if-o-plain.false, c.requires.2)) c.if-o-bodies.false refl
