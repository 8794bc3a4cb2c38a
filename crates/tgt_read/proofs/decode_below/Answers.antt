use mathlib.Core.Path.{◌≡◌, sym, ap, ◌∙◌, subst}
use mathlib.Core.List.{List, reverse}
use Prim.Native.Nat.{ℕ, ◌+◌, ◌-◌, ◌*◌, ◌/◌, ◌^◌, ◌≤◌}
use native.Mathlib.Omega.{arith}
use lib.ListN.{get_or, take}
use Rattle.t800.specs.TagTree.{read_path}
use Rattle.tgt.specs.Path.{nodes_over}
use Rattle.tgt_read.specs.Reading.{NodeAfter, node_after, read_at}
use Rattle.tgt.proofs.Laws.Path.{node_down}
use Rattle.tgt_read.proofs.Laws.Reading.{read_at-ct, read-turn}
use Rattle.tgt_read.proofs.decode_below.Goals as goal

pub loop-i-preserved : goal.loop-i-preserved
loop-i-preserved c = let s = c in
    let l = c.loop-i in
    let r = c.decode_node-r in
    let src = s.args.src.now in
    let row = s.args.row.now in
    let base = s.args.base in
    let t = s.args.threshold in
    let x = s.args.x in
    let n = get_or row (l.i - 1) 0 + x / 2 ^ (l.i - 1) in
    let k = node_after r.new.words r.result in
    let e : k ≡ read_at src t (base + 3 * n) l.low l.words l.bio = r.ensures
    ∙ ap (λ (a : ℕ). read_at src t a l.low l.words l.bio)
    c.first_word-at.ensures in (
      subst (λ (j : NodeAfter). j.bio.ct ≤ 8) (sym e) (read_at-ct src t (base + 3 * n) l.low l.words l.bio l.invariant.0),
      read-turn src base t n (reverse (nodes_over (take (l.i - 1) row) x)) l.low l.words l.bio k e
          ∙ ap (λ (ns : List ℕ). read_path src base t ns l.low l.words l.bio)
          (sym (node_down row l.i x (omega arith) (omega (arith, s.requires.1.long))))
          ∙ l.invariant.1,
    )

pub returns : goal.returns
unfolding nodes_over read_path
returns c = let l = c.loop-i in let e : l.i ≡ 0 = omega arith in rw e at l.invariant.1
