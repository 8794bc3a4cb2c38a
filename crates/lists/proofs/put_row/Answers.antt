use borrow.Author.Tests.{le-ltb, lt-ltb}
use lib.ListN.{length-set}
use native.Mathlib.Omega.{arith}
use Rattle.lists.specs.Rows.{put_row}
use Rattle.lists.proofs.put_row.Goals as goal

pub bounds-rows-at-then-n-rows : goal.bounds-rows-at-then-n-rows
bounds-rows-at-then-n-rows c = simp length-set (omega arith)

pub bounds-rows-at-then-n-rows-2 : goal.bounds-rows-at-then-n-rows-2
bounds-rows-at-then-n-rows-2 c = simp length-set (omega arith)

pub bounds-rows-at-then-n-rows-3 : goal.bounds-rows-at-then-n-rows-3
bounds-rows-at-then-n-rows-3 c = simp length-set (omega arith)

pub returns-then-n-rows : goal.returns-then-n-rows
unfolding put_row
returns-then-n-rows c = simp (lt-ltb _ _ c.if-n-rows.true)

pub returns-else-n-rows : goal.returns-else-n-rows
unfolding put_row
returns-else-n-rows c = simp (le-ltb _ _ c.if-n-rows.false)
