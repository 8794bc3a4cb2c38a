use native.Mathlib.Omega.{arith}
use lib.ListN.{length-set}
use Rattle.t2_start_parts.proofs.first_words.Goals as goal

pub bounds-state-1 : goal.bounds-state-1
bounds-state-1 c = simp length-set (omega arith)

pub bounds-state-2 : goal.bounds-state-2
bounds-state-2 c = simp length-set (omega arith)
