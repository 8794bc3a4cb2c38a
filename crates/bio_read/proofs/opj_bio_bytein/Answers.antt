use mathlib.Core.Path.{ap, ap₂, ◌∙◌}
use mathlib.Core.Bool.{cond}
use Prim.Native.Nat.{ℕ}
use native.Mathlib.Omega.{arith}
use lib.Dec.{eqb}
use lib.ListN.{get_or, get_or-eq_default}
use lib.Bits.{bit_or}
use Rattle.t800.specs.Bits.{byte_in}
use Rattle.bio_bytes.proofs.Laws.HeldWord.{bio≡, moved_is, or_byte}
use Rattle.bio_read.proofs.opj_bio_bytein.Goals as goal

pub returns-then-bp-src : goal.returns-then-bp-src
unfolding byte_in
returns-then-bp-src c =
    let s = c in
    let b = s.args.b in
    let src = s.args.src.now in
    let inside = c.if-bp-src.true in
    bio≡ _ _
    (omega arith)
    (ap₂ bit_or (moved_is b.buf) c.from.ensures
    ∙ or_byte b.buf (get_or src b.bp 0) (omega (arith, c.shared_slice_known-then-bp-src-1.given b.bp)))
    (c.bits_after-ct.ensures ∙ ap (λ (u : ℕ). cond (eqb u 0xff00) 7 8) (moved_is b.buf))

pub returns : goal.returns
unfolding byte_in
returns c =
    let s = c in
    let b = s.args.b in
    bio≡ _ _
    c.place_past.ensures
    (moved_is b.buf ∙ omega (arith, get_or-eq_default s.args.src.now 0 c.if-bp-src.false))
    (c.bits_after-ct.ensures ∙ ap (λ (u : ℕ). cond (eqb u 0xff00) 7 8) (moved_is b.buf))
