use mathlib.Core.Path.{sym}
use Prim.Native.Nat.{◌^◌}
use native.Mathlib.Omega.{arith}
use Rattle.t800.specs.Bits.{bio_at}
use Rattle.bits_taken.proofs.Laws.Inside.{none_past}
use Rattle.bits_taken.proofs.Laws.Counting.{header_in_reach, some_past}
use Rattle.bio_read_end.proofs.bits_past.Goals as goal

pub returns-then-b-n : goal.returns-then-b-n
returns-then-b-n c =
    let s = c in
    sym (none_past s.args.src.now (2 ^ 39) (bio_at s.args.start) s.args.b s.requires.takes c.if-b-n.true)

pub overflow_add-not_read : goal.overflow_add-not_read
overflow_add-not_read c =
    let s = c in
    let past = some_past s.args.src.now s.args.start s.args.b s.requires (omega arith) in
    let near = header_in_reach s.args.src.now s.args.start s.args.b s.requires in
    omega (arith, past, near, c.stuffed_past.ensures)

pub overflow_mul-result : goal.overflow_mul-result
overflow_mul-result c =
    let s = c in
    omega (arith, header_in_reach s.args.src.now s.args.start s.args.b s.requires)

pub overflow_sub-result : goal.overflow_sub-result
overflow_sub-result c =
    let s = c in
    let past = some_past s.args.src.now s.args.start s.args.b s.requires (omega arith) in
    omega (arith, past, c.stuffed_past.ensures)

pub returns : goal.returns
returns c =
    let s = c in
    let past = some_past s.args.src.now s.args.start s.args.b s.requires (omega arith) in
    omega (arith, past, c.stuffed_past.ensures)
