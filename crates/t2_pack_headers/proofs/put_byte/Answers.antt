use native.Mathlib.Omega.{arith}
use Rattle.t800.specs.PackedHeaders.{segments_for}
use Rattle.t2_pack_headers.proofs.Laws.Steps.{later_byte, first_byte}
use Rattle.t2_pack_headers.proofs.put_byte.Goals as goal

pub bounds-headers-at : goal.bounds-headers-at
unfolding segments_for
bounds-headers-at c = omega arith

pub overflow_add-result-then-p-ne0 : goal.overflow_add-result-then-p-ne0
unfolding segments_for
overflow_add-result-then-p-ne0 c = omega arith

pub returns-then-p-ne0 : goal.returns-then-p-ne0
returns-then-p-ne0 c = let s = c in
    later_byte s.args.headers.now s.args.p.count s.args.p.at s.args.p.left s.args.byte s.requires.0 s.requires.1
    c.if-p-ne0.true

pub open_segment-requires : goal.open_segment-requires
unfolding segments_for
open_segment-requires c = omega arith

pub overflow_add-headers : goal.overflow_add-headers
unfolding segments_for
overflow_add-headers c = omega arith

pub bounds-headers-at-2 : goal.bounds-headers-at-2
unfolding segments_for
bounds-headers-at-2 c = omega arith

pub overflow_add-result-3 : goal.overflow_add-result-3
unfolding segments_for
overflow_add-result-3 c = omega arith

pub overflow_add-result-4 : goal.overflow_add-result-4
unfolding segments_for
overflow_add-result-4 c = omega arith

pub returns : goal.returns
returns c = let s = c in
    first_byte s.args.headers.now s.args.p.count s.args.p.at s.args.p.left s.args.byte s.requires.0 s.requires.1
    _ c.if-p-ne0.false c.open_segment.ensures
