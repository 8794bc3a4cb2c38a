use Prim.Native.Nat.{◌-◌, ◌%◌}
use native.Mathlib.Omega.{arith}
use lib.ListN.{length, get_or}
use borrow.Author.Tests.{lt-ltb, le-ltb, eq-eqb, ne_eqb}
use Rattle.bits_taken.specs.Taken.{stuffed_past}
use Rattle.bio_read_end.proofs.stuffed_past.Goals as goal

pub returns-then-n-start : goal.returns-then-n-start
unfolding stuffed_past
returns-then-n-start c = let a = c.args in simp (le-ltb a.start (length a.src.now) c.if-n-start.true)

pub returns-then-src-n : goal.returns-then-src-n
unfolding stuffed_past
returns-then-src-n c =
    let a = c.args in
    let src = a.src.now in
    let last = get_or src (length src - 1) 0 in
    simp (lt-ltb a.start (length src) (omega arith), eq-eqb (last % 256) 255 (omega (arith, c.if-src-n.true)))

pub returns : goal.returns
unfolding stuffed_past
returns c =
    let a = c.args in
    let src = a.src.now in
    let last = get_or src (length src - 1) 0 in
    let byte = c.shared_slice_known-1.given (length src - 1) in
    simp (lt-ltb a.start (length src) (omega arith), ne_eqb (last % 256) 255 (λ e. c.if-src-n.false (omega (arith, e, byte))))
