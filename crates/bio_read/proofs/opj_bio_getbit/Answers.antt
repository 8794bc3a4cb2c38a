use mathlib.Core.Path.{ap, ◌∙◌}
use mathlib.Core.List.{List}
use Prim.Native.Nat.{ℕ, ◌-◌, ◌/◌, ◌%◌, ◌^◌}
use native.Mathlib.Omega.{arith}
use lib.Bits.{and_mask}
use lib.Dec.{ltb}
use lib.ListN.{length}
use Rattle.t800.specs.declared.Bio.{Bio}
use Rattle.t800.specs.Bits.{BitRead, held_bit, get_bit, past_end, read_bit}
use Rattle.bio_read.specs.Chunks.{refill}
use Rattle.bio_read.proofs.Laws.ReadChunks.{refill-ct}
use Rattle.bio_read.proofs.opj_bio_getbit.Goals as goal

-- the next bit of a held word that has one

abbrev first_of : List ℕ → Bio → (value : ℕ) → BitRead
first_of src m value =
    record { value = value; past = ltb (length src) m.bp; bio = record { bp = m.bp; buf = m.buf; ct = m.ct - 1 } }

pub overflow_sub-ct : goal.overflow_sub-ct
overflow_sub-ct c =
    let s = c in
    let r = refill-ct s.args.src.now s.args.b s.requires in
    omega (arith, r.0, ap (λ (b : Bio). b.ct) c.refill-m.ensures)

pub overflow_shr-bit : goal.overflow_shr-bit
overflow_shr-bit c =
    let s = c in
    let r = refill-ct s.args.src.now s.args.b s.requires in
    omega (arith, r.1, ap (λ (b : Bio). b.ct) c.refill-m.ensures)

pub returns : goal.returns
unfolding read_bit get_bit held_bit past_end refill
returns c =
    let s = c in
    let src = s.args.src.now in
    let m = c.refill-m.result in
    ap (first_of src m) (and_mask (m.buf / 2 ^ (m.ct - 1)) 1)
    ∙ ap (λ (b : Bio). first_of src b (b.buf / 2 ^ (b.ct - 1) % 2)) c.refill-m.ensures
