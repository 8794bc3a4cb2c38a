use mathlib.Core.Path.{sym, ap, ◌∙◌}
use Prim.Native.Nat.{ℕ}
use Rattle.t800.specs.Bits.{read_bits}
use Rattle.bio_read.proofs.Laws.ReadChunks.{held_bits-is, get_bit-read}
use Rattle.bio_read.proofs.opj_bio_read.Goals as goal

pub returns-then-n-eq1 : goal.returns-then-n-eq1
returns-then-n-eq1 c =
    let s = c in
    c.one_bit.ensures
    ∙ get_bit-read s.args.src.now s.args.b
    ∙ ap (λ (n : ℕ). read_bits s.args.src.now n s.args.b) (sym c.if-n-eq1.true)

pub returns-then-n-b : goal.returns-then-n-b
returns-then-n-b c =
    let s = c in
    c.held_bits.ensures ∙ held_bits-is s.args.src.now s.args.b s.args.n c.if-n-b.true
