use borrow.Author.Tests.{eq-eqb, ne_eqb}
use Rattle.t2_segments.proofs.length_bits_before.Goals as goal

pub returns-then-so_far-eq0 : goal.returns-then-so_far-eq0
returns-then-so_far-eq0 c = simp (eq-eqb _ _ c.if-so_far-eq0.true)

pub returns-else-so_far-eq0 : goal.returns-else-so_far-eq0
returns-else-so_far-eq0 c = simp (ne_eqb _ _ c.if-so_far-eq0.false)
