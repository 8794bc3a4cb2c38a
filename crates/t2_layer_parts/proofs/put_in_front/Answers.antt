use lib.ListN.{length, length-take}
use native.Mathlib.Omega.{arith}
use Rattle.t800.specs.WriteHeader.{contribution}
use Rattle.t2_put_packet.specs.Put.{answer_of}
use Rattle.t2_layer_parts.proofs.Laws.Put.{none_refused, words_asked, blocks-asked, passes_asked, bytes_asked, state_there}
use Rattle.t2_layer_parts.proofs.Laws.Put.{counts_there, lengths_there, marks_there, body_there, parts_accepted, put_parts}
use Rattle.t2_layer_parts.proofs.put_in_front.Goals as goal

pub slice_bounds-put-end : goal.slice_bounds-put-end
slice_bounds-put-end c =
    let a = c.args in
    let p = contribution a.counts.now a.lengths.now a.marks.now in
    let n = length a.bodies.now in
    omega (arith, length-take a.front.words a.states.now, words_asked a.states.now p n a.front c.requires.0, state_there a.states.now p n (none_refused a.states.now p n a.front c.requires.0))

pub slice_bounds-put-end-2 : goal.slice_bounds-put-end-2
slice_bounds-put-end-2 c =
    let a = c.args in
    let p = contribution a.counts.now a.lengths.now a.marks.now in
    let n = length a.bodies.now in
    omega (arith, words_asked a.states.now p n a.front c.requires.0, state_there a.states.now p n (none_refused a.states.now p n a.front c.requires.0), c.requires.1)

pub slice_bounds-put-end-3 : goal.slice_bounds-put-end-3
slice_bounds-put-end-3 c =
    let a = c.args in
    let p = contribution a.counts.now a.lengths.now a.marks.now in
    let n = length a.bodies.now in
    omega (arith, length-take a.front.words a.scratch.now, words_asked a.states.now p n a.front c.requires.0, state_there a.states.now p n (none_refused a.states.now p n a.front c.requires.0), c.requires.1)

pub slice_bounds-put-end-4 : goal.slice_bounds-put-end-4
slice_bounds-put-end-4 c =
    let a = c.args in
    let p = contribution a.counts.now a.lengths.now a.marks.now in
    let n = length a.bodies.now in
    omega (arith, length-take a.front.blocks a.counts.now, blocks-asked a.states.now p n a.front c.requires.0, counts_there a.states.now p n (none_refused a.states.now p n a.front c.requires.0))

pub slice_bounds-put-end-5 : goal.slice_bounds-put-end-5
slice_bounds-put-end-5 c =
    let a = c.args in
    let p = contribution a.counts.now a.lengths.now a.marks.now in
    let n = length a.bodies.now in
    omega (arith, length-take a.front.passes a.lengths.now, passes_asked a.states.now p n a.front c.requires.0, lengths_there a.states.now p n (none_refused a.states.now p n a.front c.requires.0))

pub slice_bounds-put-end-6 : goal.slice_bounds-put-end-6
slice_bounds-put-end-6 c =
    let a = c.args in
    let p = contribution a.counts.now a.lengths.now a.marks.now in
    let n = length a.bodies.now in
    omega (arith, length-take a.front.passes a.marks.now, passes_asked a.states.now p n a.front c.requires.0, marks_there a.states.now p n (none_refused a.states.now p n a.front c.requires.0))

pub slice_bounds-put-end-7 : goal.slice_bounds-put-end-7
slice_bounds-put-end-7 c =
    let a = c.args in
    let p = contribution a.counts.now a.lengths.now a.marks.now in
    let n = length a.bodies.now in
    omega (arith, length-take a.front.bytes a.bodies.now, bytes_asked a.states.now p n a.front c.requires.0, body_there a.states.now p n (none_refused a.states.now p n a.front c.requires.0))

pub put-requires : goal.put-requires
put-requires c =
    let s = c in
    let a = s.args in
    let p = contribution a.counts.now a.lengths.now a.marks.now in
    parts_accepted a.states.now p (length a.bodies.now) a.front s.requires.0 a.scratch.now s.requires.1

pub returns : goal.returns
returns c =
    let s = c in
    let a = s.args in
    let p = contribution a.counts.now a.lengths.now a.marks.now in
    let k = c.put in
    put_parts a.states.now p a.bodies.now a.front s.requires.0 a.scratch.now s.requires.1 a.markers
    a.number a.output.now (answer_of k.result) _ _ k.ensures k.auto.scratch k.auto.output
