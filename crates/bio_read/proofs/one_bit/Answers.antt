use mathlib.Core.Path.{ap, ◌∙◌}
use native.Mathlib.Omega.{arith}
use Rattle.t800.specs.declared.Bio.{Bio}
use Rattle.bio_read.specs.Chunks.{held_bits}
use Rattle.bio_read.proofs.Laws.ReadChunks.{refill-ct, get_bit-is}
use Rattle.bio_read.proofs.one_bit.Goals as goal

pub held_bits-requires : goal.held_bits-requires
held_bits-requires c =
    let s = c in
    let r = refill-ct s.args.src.now s.args.b s.requires in
    let ct = ap (λ (b : Bio). b.ct) c.refill-m.ensures in
    omega arith

pub returns : goal.returns
returns c =
    let s = c in
    c.held_bits.ensures ∙ ap (λ (b : Bio). held_bits b 1) c.refill-m.ensures ∙ get_bit-is s.args.src.now s.args.b
