use lib.ListN.{length-set}
use native.Mathlib.Numerals.{add-one, add-two, add-three, add-four}
use native.Mathlib.Omega.{arith}
use Rattle.t2_pack_headers.proofs.open_segment.Goals as goal

pub bounds-headers-at-2 : goal.bounds-headers-at-2
bounds-headers-at-2 c = simp length-set (omega arith)

pub bounds-headers-at-3 : goal.bounds-headers-at-3
bounds-headers-at-3 c = simp length-set (omega arith)

pub bounds-headers-at-4 : goal.bounds-headers-at-4
bounds-headers-at-4 c = simp length-set (omega arith)

pub bounds-headers-at-5 : goal.bounds-headers-at-5
bounds-headers-at-5 c = simp length-set (omega arith)

pub returns : goal.returns
returns c = simp (add-one, add-two, add-three, add-four)
