use Prim.Native.Nat.{◌+◌, ◌-◌}
use lib.ListN.{length, length-take, length-drop, drop}
use mathlib.Core.Path.{◌∙◌, ◌≡◌, ap, refl}
use native.Mathlib.Omega.{arith}
use Rattle.t800.specs.Base.{sum}
use Rattle.t800.specs.Gathered.{states_in}
use Rattle.tcd_states.specs.States.{start_of}
use Rattle.tcd_states.proofs.Laws.Walk.{at_inside, valid_behind, one_on}
use Rattle.tcd_states.proofs.Laws.Starts.{start-rises}
use Rattle.tcd_states.proofs.length_of_first.Goals as goal
use Rattle.tcd_states.proofs.length_of_first.Goals.{After-first_length-words}

step : (c : After-first_length-words) →
    let ws = c.args.states.now in
    let l = c.loop-i in
    l.at + c.first_length-words.result ≡ start_of (states_in ws) (l.i + 1)
step c =
    let ws = c.args.states.now in
    let l = c.loop-i in
    omega (arith, c.first_length-words.ensures, one_on ws l.i l.at l.invariant.1)

pub loop-i-init : goal.loop-i-init
unfolding start_of sum
loop-i-init c = (omega arith, refl)

pub returns-then-states-at : goal.returns-then-states-at
returns-then-states-at c =
    let s = c in
    let ws = s.args.states.now in
    let l = c.loop-i in
    omega (
      arith,
      l.invariant.1,
      start-rises (states_in ws) l.i s.args.n l.invariant.0,
      at_inside ws s.args.n _ refl,
      c.if-states-at.true,
    )

pub first_length-words-requires : goal.first_length-words-requires
first_length-words-requires c =
    let s = c in
    let ws = s.args.states.now in
    let l = c.loop-i in (
      valid_behind ws l.i l.at l.invariant.1 s.requires,
      omega (arith, c.if-states-at.false, length-take (length ws - l.at) (drop l.at ws), length-drop l.at ws),
    )

pub overflow_add-at : goal.overflow_add-at
overflow_add-at c =
    let ws = c.args.states.now in
    let l = c.loop-i in
    omega (arith, at_inside ws (l.i + 1) _ (step c))

pub returns : goal.returns
returns c =
    let s = c in
    let l = c.loop-i in
    let e : l.i ≡ s.args.n = omega (arith, c.loop-i-test.false, l.invariant.0) in
    l.invariant.1 ∙ ap (start_of (states_in s.args.states.now)) e

pub slice_bounds-first_length-count : goal.slice_bounds-first_length-count
slice_bounds-first_length-count c = omega arith

pub slice_bounds-first_length-start : goal.slice_bounds-first_length-start
slice_bounds-first_length-start c = omega arith

pub overflow_add-i : goal.overflow_add-i
overflow_add-i c = omega arith

pub loop-i-smaller : goal.loop-i-smaller
loop-i-smaller c = omega arith

pub loop-i-preserved : goal.loop-i-preserved
loop-i-preserved c = (omega arith, step c)
