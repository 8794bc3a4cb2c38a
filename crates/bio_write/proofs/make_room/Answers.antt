use mathlib.Core.Path.{◌∙◌}
use borrow.Author.Tests.{eq-eqb, ne_eqb}
use Rattle.bio_bytes.specs.Writing.{make_room}
use Rattle.bio_write.proofs.make_room.Goals as goal

pub returns-then-b-eq0 : goal.returns-then-b-eq0
unfolding make_room
returns-then-b-eq0 c = c.opj_bio_byteout.ensures ∙ simp (eq-eqb _ _ c.if-b-eq0.true)

pub returns : goal.returns
unfolding make_room
returns c = simp (ne_eqb _ _ c.if-b-eq0.false)
