use borrow.Author.Tests.{eq-eqb, ne_eqb}
use mathlib.Core.Path.{◌∙◌}
use Rattle.t2_start_parts.specs.Parts.{planes_wanted}
use Rattle.t2_start_parts.proofs.planes_wanted.Goals as goal

pub returns-then-role-eq-WRITER : goal.returns-then-role-eq-WRITER
unfolding planes_wanted
returns-then-role-eq-WRITER c = c.num_blocks.ensures ∙ simp (eq-eqb _ _ c.if-role-eq-WRITER.true)

pub returns : goal.returns
unfolding planes_wanted
returns c = simp (ne_eqb _ _ c.if-role-eq-WRITER.false)
