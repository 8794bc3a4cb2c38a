use mathlib.Core.Path.{◌∙◌}
use borrow.Author.Tests.{eq-eqb, ne_eqb}
use Rattle.bio_read.specs.Chunks.{refill}
use Rattle.bio_read.proofs.refill.Goals as goal

pub returns-then-b-eq0 : goal.returns-then-b-eq0
unfolding refill
returns-then-b-eq0 c = c.opj_bio_bytein.ensures ∙ simp (eq-eqb _ _ c.if-b-eq0.true)

pub returns : goal.returns
unfolding refill
returns c = simp (ne_eqb _ _ c.if-b-eq0.false)
