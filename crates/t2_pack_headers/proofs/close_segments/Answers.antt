use borrow.Author.Tests.{eq-eqb, ne_eqb}
use lib.ListN.{length-set}
use native.Mathlib.Omega.{arith}
use Rattle.t800.specs.PackedHeaders.{segments_for}
use Rattle.t2_pack_headers.specs.Packing.{closed}
use Rattle.t2_pack_headers.proofs.close_segments.Goals as goal

pub bounds-headers-at : goal.bounds-headers-at
unfolding segments_for
bounds-headers-at c = omega arith

pub bounds-headers-at-then-last-ne0 : goal.bounds-headers-at-then-last-ne0
unfolding segments_for
bounds-headers-at-then-last-ne0 c = simp length-set (omega arith)

pub returns-then-last-ne0 : goal.returns-then-last-ne0
unfolding closed
returns-then-last-ne0 c = simp (ne_eqb _ _ c.if-last-ne0.true)

pub returns-else-last-ne0 : goal.returns-else-last-ne0
unfolding closed
returns-else-last-ne0 c = simp (eq-eqb _ _ c.if-last-ne0.false)
