use mathlib.Core.Path.{sym, ap, ◌∙◌}
use Prim.Native.Nat.{◌+◌, ◌-◌}
use native.Mathlib.Omega.{arith}
use lib.Dec.{ltb}
use lib.ListN.{set}
use Rattle.t800.specs.TagTree.{value}
use Rattle.bio_bytes.specs.Writing.{Output, output}
use Rattle.tgt_write.proofs.Laws.Coding.{bit_le, bit_is, code_one}
use Rattle.tgt_write.proofs.encode_one.Goals as goal

pub overflow_sub-low : goal.overflow_sub-low
overflow_sub-low c =
    let s = c in
    let below = ltb (value s.args.words.now s.args.at) s.args.threshold in
    omega (arith, c.from-bit.ensures, bit_is below, bit_le below, s.requires.2)

pub bit_out-bio-requires : goal.bit_out-bio-requires
bit_out-bio-requires c =
    let s = c in
    let below = ltb (value s.args.words.now s.args.at) s.args.threshold in
    (s.requires.0, omega (arith, c.from-bit.ensures, bit_is below, bit_le below))

pub returns : goal.returns
returns c =
    let s = c in
    let ws = s.args.words.now in
    let at = s.args.at in
    let t = s.args.threshold in
    let bit = c.from-bit.result in
    ap (λ (p : Output). record { words = set (set ws (at + 1) (t - bit)) (at + 2) bit; output = p; low = t - bit })
    c.bit_out-bio.ensures
    ∙ sym (code_one t at ws (output s.args.out.now s.args.b) s.requires.2 s.requires.3 bit
    (c.from-bit.ensures ∙ bit_is (ltb (value ws at) t)))
