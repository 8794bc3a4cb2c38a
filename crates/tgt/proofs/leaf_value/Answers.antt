use mathlib.Core.Path.{◌≡◌, ap}
use Prim.Native.Nat.{ℕ, ◌+◌, ◌*◌, ◌<◌}
use native.Mathlib.Omega.{arith}
use lib.ListN.{length, get_or}
use borrow.Author.Rules.{rules}
use Rattle.tgt.proofs.leaf_value.Goals as goal

pub first_word-at-requires : goal.first_word-at-requires
first_word-at-requires c = let s = c in
    let n : length s.args.words.now < 0x1_0000_0000_0000_0000 = search rules in
    (omega arith, omega (arith, s.requires.inside 0 s.requires.some))

pub offset_bounds-words-at : goal.offset_bounds-words-at
offset_bounds-words-at c = let s = c in
    let n : length s.args.words.now * 4 < 0x1_0000_0000_0000_0000 = search rules in
    omega (arith, c.first_word-at.ensures, s.requires.inside 0 s.requires.some)

pub bounds-words-at : goal.bounds-words-at
bounds-words-at c =
    omega (
      arith,
      c.first_word-at.ensures,
      c.requires.inside 0 c.requires.some,
    )

pub returns : goal.returns
returns c = let s = c in
    let e : c.first_word-at.result
    ≡ s.args.base + 3 * (get_or s.args.row.now 0 0 + s.args.x) = omega (arith, c.first_word-at.ensures) in
    ap (λ (a : ℕ). get_or s.args.words.now a 0) e
