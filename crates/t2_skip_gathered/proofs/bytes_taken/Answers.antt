use mathlib.Core.Path.{◌≡◌, sym, ◌∙◌}
use Prim.Native.Nat.{min}
use native.Mathlib.Omega.{arith}
use lib.Bits.{and_mask}
use borrow.Author.Tests.{eq-eqb, ne_eqb}
use Rattle.t2_skip_gathered.proofs.bytes_taken.Goals as goal

pub returns-then-buf-ne255 : goal.returns-then-buf-ne255
returns-then-buf-ne255 c = simp (ne_eqb _ _ (λ q. c.if-buf-ne255.true (and_mask c.args.buf 8 ∙ q)), c.min.ensures)

pub returns-then-place-left : goal.returns-then-place-left
returns-then-place-left c = simp (eq-eqb _ _ (sym (and_mask c.args.buf 8) ∙ c.if-buf-ne255.false), eq-eqb _ _ c.if-place-left.true)

pub returns : goal.returns
returns c = simp (eq-eqb _ _ (sym (and_mask c.args.buf 8) ∙ c.if-buf-ne255.false), ne_eqb _ _ c.if-place-left.false)
