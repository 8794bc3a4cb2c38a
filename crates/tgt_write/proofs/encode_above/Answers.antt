use mathlib.Core.Path.{◌≡◌, sym, ap, ◌∙◌}
use Prim.Native.Nat.{ℕ, ◌-◌}
use native.Mathlib.Omega.{arith}
use lib.Dec.{eqb}
use borrow.Author.Tests.{eqb-true}
use Rattle.t800.specs.TagTree.{known}
use Rattle.bio_bytes.specs.Writing.{output}
use Rattle.tgt_write.specs.Coding.{code_from}
use Rattle.tgt_write.proofs.Laws.Coding.{both, code_told}
use Rattle.tgt_write.proofs.encode_above.Goals as goal

pub encode_one-requires : goal.encode_one-requires
encode_one-requires c =
    let s = c in
    let ws = s.args.words.now in
    let e = both (eqb (known ws s.args.at) 0) (eqb (s.args.threshold - s.args.from) 1)
    (sym c.one_bit.ensures ∙ c.if-one_bit.true) in
    (s.requires.0, s.requires.1, omega (arith, s.requires.2), eqb-true _ _ e.0)

pub returns-then-one_bit : goal.returns-then-one_bit
returns-then-one_bit c =
    let s = c in
    let ws = s.args.words.now in
    let e = both (eqb (known ws s.args.at) 0) (eqb (s.args.threshold - s.args.from) 1)
    (sym c.one_bit.ensures
    ∙ c.if-one_bit.true) in
    let one = eqb-true (s.args.threshold - s.args.from) 1 e.1 in
    let q : s.args.threshold - 1 ≡ s.args.from = omega arith in
    c.encode_one.ensures
    ∙ ap (λ (f : ℕ). code_from s.args.threshold s.args.at f ws (output s.args.out.now s.args.b)) q

pub returns-then-nothing_to_tell : goal.returns-then-nothing_to_tell
returns-then-nothing_to_tell c =
    let s = c in
    sym (code_told s.args.threshold s.args.at s.args.from s.args.words.now
    (output s.args.out.now s.args.b) s.requires.2 (sym c.nothing_to_tell.ensures ∙ c.if-nothing_to_tell.true))
