use mathlib.Core.Path.{sym, ap, ◌∙◌}
use borrow.Author.Tests.{eq-eqb, ne_eqb}
use Rattle.bio_bytes.specs.Writing.{Output, byte_out, flush}
use Rattle.bio_write.proofs.opj_bio_flush.Goals as goal

pub shape_of-out-then-m-eq7 : goal.shape_of-out-then-m-eq7
shape_of-out-then-m-eq7 c = c.opj_bio_byteout.auto.out
    ∙ c.opj_bio_byteout-m.auto.out

pub returns-then-m-eq7 : goal.returns-then-m-eq7
unfolding flush
returns-then-m-eq7 c =
    let e = c.opj_bio_byteout-m.ensures in
    c.opj_bio_byteout.ensures ∙ ap byte_out e
    ∙ simp (eq-eqb _ _ (sym (ap (λ (o : Output). o.bio.ct) e) ∙ c.if-m-eq7.true))

pub shape_of-out : goal.shape_of-out
shape_of-out c = c.opj_bio_byteout-m.auto.out

pub returns : goal.returns
unfolding flush
returns c =
    let e = c.opj_bio_byteout-m.ensures in
    e ∙ simp (ne_eqb _ _ (λ q. c.if-m-eq7.false (ap (λ (o : Output). o.bio.ct) e ∙ q)))
