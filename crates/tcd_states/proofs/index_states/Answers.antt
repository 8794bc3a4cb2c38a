use Prim.Native.Nat.{◌+◌, ◌*◌, ◌≤◌, ℕ}
use lib.ListN.{length, length-set}
use mathlib.Core.Path.{◌∙◌, ◌≡◌, ap}
use native.Mathlib.Omega.{arith}
use Rattle.t800.specs.Gathered.{states_in}
use Rattle.tcd_states.specs.States.{start_of}
use Rattle.tcd_states.proofs.Laws.Index.{none_filled, first_entry, one_filled, all_filled}
use Rattle.tcd_states.proofs.Laws.Walk.{at_inside, valid_behind, so_many_on}
use Rattle.tcd_states.proofs.index_states.Goals as goal
use Rattle.tcd_states.proofs.index_states.Goals.{In-loop-i, After-length_of_first-words}

inside : (c : In-loop-i) → c.loop-i.at ≤ length c.args.states.now
inside c =
    let l = c.loop-i in
    at_inside c.args.states.now _ l.at l.invariant.2

-- as many states on as the stride has

step : (c : After-length_of_first-words) →
    let ws = c.args.states.now in
    let l = c.loop-i in
    l.at + c.length_of_first-words.result ≡ start_of (states_in ws) ((l.i + 1) * c.stride_for-stride.result)
step c =
    let ws = c.args.states.now in
    let l = c.loop-i in
    let stride = c.stride_for-stride.result in
    let next : l.i * stride + stride ≡ (l.i + 1) * stride = omega arith in
    ap (λ (n : ℕ). l.at + n) c.length_of_first-words.ensures
    ∙ so_many_on ws (l.i * stride) l.at l.invariant.2 stride
    ∙ ap (start_of (states_in ws)) next

pub loop-i-init : goal.loop-i-init
loop-i-init c =
    let s = c in
    let ss = states_in s.args.states.now in
    (omega arith, s.requires.2, first_entry ss _, none_filled ss _ s.args.starts.now)

pub length_of_first-words-requires : goal.length_of_first-words-requires
length_of_first-words-requires c =
    let s = c in
    let l = c.loop-i in
    valid_behind s.args.states.now _ l.at l.invariant.2 s.requires.0

pub overflow_add-at : goal.overflow_add-at
overflow_add-at c = omega (arith, at_inside c.args.states.now _ _ (step c))

pub loop-i-preserved : goal.loop-i-preserved
loop-i-preserved c =
    let s = c in
    let l = c.loop-i in (
      omega arith,
      length-set l.starts l.i l.at ∙ l.invariant.1,
      step c,
      one_filled (states_in s.args.states.now) _ l.i l.starts l.at (omega arith) l.invariant.2 l.invariant.3,
    )

pub returns : goal.returns
returns c =
    let s = c in
    let l = c.loop-i in
    let f = c.stride_for-stride in
    let room : length l.starts * f.result ≡ 256 * f.result = ap (λ (n : ℕ). n * f.result) l.invariant.1 in (
      all_filled (states_in s.args.states.now) f.result l.i l.starts f.ensures.0 (omega arith)
          (omega (arith, f.ensures.1)) l.invariant.3,
      f.ensures.1,
    )

pub bounds-starts-i : goal.bounds-starts-i
bounds-starts-i c = omega arith

pub offset_bounds-states-at : goal.offset_bounds-states-at
offset_bounds-states-at c = omega (arith, inside c)

pub slice_bounds-length_of_first-count : goal.slice_bounds-length_of_first-count
slice_bounds-length_of_first-count c = omega (arith, inside c)

pub slice_bounds-length_of_first-start : goal.slice_bounds-length_of_first-start
slice_bounds-length_of_first-start c = omega (arith, inside c)

pub overflow_add-i : goal.overflow_add-i
overflow_add-i c = omega arith

pub loop-i-smaller : goal.loop-i-smaller
loop-i-smaller c = omega arith

pub shape_of-starts : goal.shape_of-starts
shape_of-starts c = omega arith
