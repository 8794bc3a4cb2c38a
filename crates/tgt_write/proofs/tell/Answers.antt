use mathlib.Core.Path.{◌∙◌}
use lib.ListN.{set}
use borrow.Author.Tests.{eq-eqb, ne_eqb}
use Rattle.bio_bytes.specs.Writing.{put_bits}
use Rattle.tgt_write.specs.Coding.{told}
use Rattle.tgt_write.proofs.tell.Goals as goal

pub returns-then-known-eq0 : goal.returns-then-known-eq0
unfolding told put_bits
returns-then-known-eq0 c = let s = c in
    (λ i. record { words = set s.args.words.now s.args.at 1; output = c.bit_out.ensures i })
    ∙ simp (eq-eqb _ _ c.if-known-eq0.true)

pub returns : goal.returns
unfolding told put_bits
returns c = simp (ne_eqb _ _ c.if-known-eq0.false)
