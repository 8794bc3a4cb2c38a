use Rattle.std.proofs.Common.{◌≡◌, ◌+◌, ◌≤◌, ◌<◌, length, drop, refl, sym, ◌∙◌, arith}
use Rattle.t800.specs.Base.{sum}
use Rattle.t800.specs.State.{reader}
use Rattle.t800.specs.Gathered.{states_in}
use Rattle.tcd_states.specs.States.{start_of, any_out_of_range}
use Rattle.tcd_states.proofs.Laws.Walk.{at_inside, nothing_behind, found_out_of_range, one_left, found_on, found_in_range}
use Rattle.tcd_states.proofs.Laws.Walk.{some_found, one_out_of_range, all_counted}
use Rattle.tcd_states.proofs.count_states.Goals as goal
use Rattle.tcd_states.proofs.count_states.Goals.{In_ok-words}

-- the state at this place is in range

step : (c : In_ok-words) →
    let ws = c.args.states.now in
    let l = c.loop-at in
    (l.count < length (states_in ws))
    × (l.at + c.in_ok-words.words ≡ start_of (states_in ws) (l.count + 1))
    × (any_out_of_range (drop (l.count + 1) (states_in ws)) ≡ any_out_of_range (drop l.count (states_in ws)))
    × (1 ≤ c.in_ok-words.words)
    × (l.at + c.in_ok-words.words ≤ length ws)
unfolding reader
step c =
    let ws = c.args.states.now in
    let l = c.loop-at in
    let more = c.loop-at-test.true in
    let is = sym c.in_ok-words.was ∙ c.state_in_front.ensures in
    let on = found_on ws l.count l.at l.invariant.0 more _ is in (
      one_left ws l.count l.at l.invariant.0 more _ is,
      on,
      found_in_range ws l.count l.at l.invariant.0 more _ is,
      some_found ws l.count l.at l.invariant.0 more _ is,
      at_inside ws (l.count + 1) _ on,
    )

pub loop-at-init : goal.loop-at-init
unfolding start_of sum
loop-at-init c = (refl, omega arith, omega arith, refl)

pub returns-in_err-words : goal.returns-in_err-words
unfolding reader
returns-in_err-words c =
    let ws = c.args.states.now in
    let l = c.loop-at in
    c.from_residual.ensures ∙ one_out_of_range (states_in ws)
    (sym l.invariant.3
    ∙ found_out_of_range ws l.count l.at l.invariant.0 c.loop-at-test.true
    (sym c.in_err-words.was ∙ c.state_in_front.ensures))

pub loop-at-preserved : goal.loop-at-preserved
loop-at-preserved c =
    let l = c.loop-at in
    let s = step c in
    (s.1, omega (arith, l.invariant.1, s.3), omega (arith, s.0), s.2 ∙ l.invariant.3)

pub returns : goal.returns
returns c =
    let ws = c.args.states.now in
    let l = c.loop-at in
    all_counted (states_in ws) l.count l.invariant.2
    (nothing_behind ws l.count l.at l.invariant.0 c.loop-at-test.false) l.invariant.3

pub overflow_add-at : goal.overflow_add-at
overflow_add-at c = omega (arith, step c)

pub loop-at-smaller : goal.loop-at-smaller
loop-at-smaller c = omega (arith, step c)
