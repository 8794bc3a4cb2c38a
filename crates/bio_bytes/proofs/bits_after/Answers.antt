use borrow.Author.Tests.{eq-eqb, ne_eqb}
use Rattle.bio_bytes.proofs.bits_after.Goals as goal

pub returns-then-buf-eq65280 : goal.returns-then-buf-eq65280
returns-then-buf-eq65280 c = simp (eq-eqb _ _ c.if-buf-eq65280.true)

pub returns-else-buf-eq65280 : goal.returns-else-buf-eq65280
returns-else-buf-eq65280 c = simp (ne_eqb _ _ c.if-buf-eq65280.false)
