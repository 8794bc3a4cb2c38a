use mathlib.Core.Path.{◌≡◌, ap, ◌∙◌}
use mathlib.Core.Bool.{cond}
use Prim.Native.Nat.{ℕ, ◌*◌, ◌/◌, ◌%◌}
use native.Mathlib.Omega.{arith}
use lib.Dec.{eqb}
use lib.ListN.{set}
use lib.Bits.{bit_and}
use Rattle.bio_bytes.specs.Writing.{output, byte_out, place_after}
use Rattle.bio_bytes.proofs.Laws.HeldWord.{bio≡, moved_is}
use Rattle.bio_bytes.proofs.opj_bio_byteout.Goals as goal

pub overflow_cast-buf : goal.overflow_cast-buf
overflow_cast-buf c = omega (arith, moved_is c.args.b.buf)

pub returns : goal.returns
unfolding byte_out place_after
returns c =
    let a = c.args in
    let m = moved_is a.b.buf in
    let e : bit_and (a.b.buf * 256 % 4294967296) 65535 / 256 ≡ a.b.buf % 256 = omega arith in
    λ i.
    output
    ((c.store.ensures ∙ ap (set a.out.now a.b.bp) e) i)
    (bio≡ _ (byte_out (output a.out.now a.b)).bio c.saturating_add.ensures m
    (c.bits_after.ensures ∙ ap (λ (u : ℕ). cond (eqb u 0xff00) 7 8) m) i)
