use mathlib.Core.Path.{◌≡◌, sym, ap, ◌∙◌, subst}
use mathlib.Core.List.{List, reverse}
use Prim.Native.Nat.{ℕ, ◌+◌, ◌-◌, ◌*◌, ◌/◌, ◌^◌, ◌≤◌, ◌<◌}
use native.Mathlib.Omega.{arith}
use lib.ListN.{length, get_or, take}
use Rattle.t800.specs.TagTree.{read_path}
use Rattle.tgt.specs.Path.{nodes_over}
use Rattle.tgt_read.specs.Reading.{NodeAfter, node_after, read_at}
use Rattle.tgt.proofs.Laws.Path.{node_down}
use Rattle.tgt_read.proofs.Laws.Reading.{read_at-ct, read-turn}
use borrow.Author.Rules.{rules}
use Rattle.tgt_read.proofs.decode_path.Goals as goal

pub first_word-at-requires : goal.first_word-at-requires
first_word-at-requires c =
    let s = c in
    let n : length s.args.words.now < 0x1_0000_0000_0000_0000 = search rules in (
      omega (arith, s.requires.1.at_most_seven, s.requires.1.some),
      omega (arith, s.requires.1.inside (s.args.depth - 1) (omega (arith, s.requires.1.some))),
    )

pub decode_node-r-requires : goal.decode_node-r-requires
decode_node-r-requires c =
    let s = c in
    (s.requires.0, omega (arith, c.first_word-at.ensures, s.requires.1.inside (s.args.depth - 1) (omega (arith, s.requires.1.some))))

pub decode_below-requires : goal.decode_below-requires
decode_below-requires c =
    let s = c in
    let r = c.decode_node-r in
    let src = s.args.src.now in
    let row = s.args.row.now in
    let ws = s.args.words.now in
    let base = s.args.base in
    let t = s.args.threshold in
    let d = s.args.depth in
    let x = s.args.x in
    let n = get_or row (d - 1) 0 + x / 2 ^ (d - 1) in
    let k = node_after r.new.words r.result in
    let e : k ≡ read_at src t (base + 3 * n) 0 ws s.args.b = r.ensures
    ∙ ap (λ (a : ℕ). read_at src t a 0 ws s.args.b) c.first_word-at.ensures in (
      subst (λ (j : NodeAfter). j.bio.ct ≤ 8) (sym e) (read_at-ct src t (base + 3 * n) 0 ws s.args.b s.requires.0),
      record {
        at_most_seven = omega (arith, s.requires.1.at_most_seven);
        long = omega (arith, s.requires.1.long);
        inside = λ i h. omega (arith, r.auto.words, s.requires.1.inside i (omega arith));
      },
    )

pub returns : goal.returns
returns c =
    let s = c in
    let r = c.decode_node-r in
    let src = s.args.src.now in
    let row = s.args.row.now in
    let ws = s.args.words.now in
    let base = s.args.base in
    let t = s.args.threshold in
    let d = s.args.depth in
    let x = s.args.x in
    let n = get_or row (d - 1) 0 + x / 2 ^ (d - 1) in
    let k = node_after r.new.words r.result in
    let e : k ≡ read_at src t (base + 3 * n) 0 ws s.args.b = r.ensures
    ∙ ap (λ (a : ℕ). read_at src t a 0 ws s.args.b)
    c.first_word-at.ensures in
    c.decode_below.ensures
    ∙ read-turn src base t n (reverse (nodes_over (take (d - 1) row) x)) 0 ws s.args.b k e
    ∙ ap (λ (ns : List ℕ). read_path src base t ns 0 ws s.args.b) (sym (node_down row d x s.requires.1.some s.requires.1.long))
