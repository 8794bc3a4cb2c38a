use Prim.Native.Nat.{◌+◌, ◌-◌, ◌*◌, ◌/◌, ◌%◌, ◌≤◌, ◌<◌, ℕ}
use lib.ListN.{drop, get_or, length, length-take, length-drop}
use mathlib.Core.Path.{◌∙◌, ◌≡◌, ap}
use native.Mathlib.Nat.{div-add-mod'}
use native.Mathlib.Omega.{arith}
use Rattle.t800.specs.Gathered.{states_in}
use Rattle.tcd_states.specs.States.{start_of}
use Rattle.tcd_states.proofs.Laws.Cuts.{words_left}
use Rattle.tcd_states.proofs.Laws.Index.{entry-there, entry-is}
use Rattle.tcd_states.proofs.Laws.Walk.{at_inside, valid_behind, so_many_on, first_behind}
use Rattle.tcd_states.proofs.find_state.Goals as goal
use Rattle.tcd_states.proofs.find_state.Goals.{Start, After-length_of_first}

-- ---- the entry, and the state from there

there : (s : Start) → s.args.place / s.args.stride < length s.args.starts.now
there s = entry-there (states_in s.args.states.now) s.args.stride s.args.starts.now s.requires.1 s.args.place s.requires.2

entry : (s : Start) → get_or s.args.starts.now (s.args.place / s.args.stride) 0
    ≡ start_of (states_in s.args.states.now) (s.args.place / s.args.stride * s.args.stride)
entry s = entry-is (states_in s.args.states.now) s.args.stride s.args.starts.now s.requires.1 s.args.place s.requires.2

inside : (s : Start) → get_or s.args.starts.now (s.args.place / s.args.stride) 0 ≤ length s.args.states.now
inside s = at_inside s.args.states.now (s.args.place / s.args.stride * s.args.stride) _ (entry s)

start : (c : After-length_of_first) →
    let a = c.args in
    get_or a.starts.now (a.place / a.stride) 0 + c.length_of_first.result ≡ start_of (states_in a.states.now) a.place
start c =
    let s = c in
    let a = s.args in
    let ws = a.states.now in
    ap (λ (n : ℕ). get_or a.starts.now (a.place / a.stride) 0 + n) c.length_of_first.ensures
    ∙ so_many_on ws (a.place / a.stride * a.stride) _ (entry (goal.at.After-length_of_first c).Start) (a.place % a.stride)
    ∙ ap (start_of (states_in ws)) (div-add-mod' a.place a.stride)

start_left : (c : After-length_of_first) →
    let a = c.args in
    get_or a.starts.now (a.place / a.stride) 0 + c.length_of_first.result < length a.states.now
start_left c =
    let s = c in
    omega (arith, start c, words_left s.args.states.now s.args.place s.requires.2)

pub length_of_first-requires : goal.length_of_first-requires
length_of_first-requires c =
    let s = c in
    valid_behind s.args.states.now (s.args.place / s.args.stride * s.args.stride) _ (entry (goal.at.length_of_first-requires c).Start) s.requires.0

pub first_length-words-requires : goal.first_length-words-requires
first_length-words-requires c =
    let s = c in
    let ws = s.args.states.now in
    let at : ℕ = get_or s.args.starts.now (s.args.place / s.args.stride) 0 + c.length_of_first.result in (
      valid_behind ws s.args.place _ (start (goal.at.first_length-words-requires c).After-length_of_first) s.requires.0,
      omega (arith, start_left (goal.at.first_length-words-requires c).After-length_of_first, length-take (length ws - at) (drop at ws), length-drop at ws),
    )

pub returns : goal.returns
returns c =
    let s = c in
    let e = start (goal.at.returns c).After-length_of_first in
    (e, c.first_length-words.ensures ∙ ap length (first_behind s.args.states.now s.args.place _ e))

pub offset_bounds-starts-place : goal.offset_bounds-starts-place
offset_bounds-starts-place c = omega (arith, there (goal.at.offset_bounds-starts-place c).Start)

pub bounds-starts-place : goal.bounds-starts-place
bounds-starts-place c = there (goal.at.bounds-starts-place c).Start

pub offset_bounds-states-from : goal.offset_bounds-states-from
offset_bounds-states-from c = omega (arith, inside (goal.at.offset_bounds-states-from c).Start)

pub slice_bounds-length_of_first-count : goal.slice_bounds-length_of_first-count
slice_bounds-length_of_first-count c = omega (arith, inside (goal.at.slice_bounds-length_of_first-count c).Start)

pub slice_bounds-length_of_first-start : goal.slice_bounds-length_of_first-start
slice_bounds-length_of_first-start c = omega (arith, inside (goal.at.slice_bounds-length_of_first-start c).Start)

pub overflow_add-start : goal.overflow_add-start
overflow_add-start c = omega (arith, start_left c)

pub offset_bounds-states-start : goal.offset_bounds-states-start
offset_bounds-states-start c = omega (arith, start_left c)

pub slice_bounds-first_length-count : goal.slice_bounds-first_length-count
slice_bounds-first_length-count c = omega (arith, start_left c)

pub slice_bounds-first_length-start : goal.slice_bounds-first_length-start
slice_bounds-first_length-start c = omega (arith, start_left c)
