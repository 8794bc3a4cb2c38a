use mathlib.Core.Path.{◌≡◌, sym, ap, ◌∙◌, subst}
use mathlib.Core.List.{List, reverse}
use Prim.Native.Nat.{ℕ, ◌+◌, ◌-◌, ◌*◌, ◌/◌, ◌^◌, max}
use native.Mathlib.Omega.{arith}
use lib.ListN.{get_or, take}
use Rattle.t800.specs.TagTree.{code_path, low}
use Rattle.bio_bytes.specs.Writing.{output, put_bits, FreeBitsClear}
use Rattle.tgt.specs.Path.{nodes_over}
use Rattle.tgt_write.specs.Coding.{NodeCoded, node_coded, put_coded, code_node}
use Rattle.tgt.proofs.Laws.Path.{node_down}
use Rattle.tgt_write.proofs.Laws.Coding.{code_from-clear, code_turn}
use Rattle.tgt_write.proofs.opj_tgt_encode.Goals as goal

pub loop-i-preserved : goal.loop-i-preserved
loop-i-preserved c = let s = c in
    let l = c.loop-i in
    let r = c.encode_node-r in
    let row = s.args.row.now in
    let base = s.args.base in
    let t = s.args.threshold in
    let x = s.args.x in
    let n = get_or row (l.i - 1) 0 + x / 2 ^ (l.i - 1) in
    let o = output l.out l.bio in
    let k = node_coded r.new.words r.new.out r.result in
    let e : k ≡ code_node t (base + 3 * n) l.low l.words o = r.ensures
    ∙ ap (λ (a : ℕ). code_node t a l.low l.words o)
    c.first_word-at.ensures in (
      subst FreeBitsClear (sym (ap (λ (j : NodeCoded). j.output.bio) e))
          (code_from-clear t (base + 3 * n) (max l.low (low l.words (base + 3 * n))) l.words o l.invariant.0),
      code_turn base t n (reverse (nodes_over (take (l.i - 1) row) x)) l.low l.words o k e
          ∙ ap (λ (ns : List ℕ). put_coded o (code_path base t ns l.low l.words))
          (sym (node_down row l.i x
          c.loop-i-test.true
          (omega (arith, s.requires.1.long))))
          ∙ l.invariant.1,
    )

pub returns : goal.returns
unfolding nodes_over code_path put_bits
returns c = let l = c.loop-i in let e : l.i ≡ 0 = omega arith in rw e at l.invariant.1
