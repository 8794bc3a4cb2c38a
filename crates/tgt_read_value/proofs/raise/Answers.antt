use mathlib.Core.Path.{sym, ◌∙◌, subst}
use mathlib.Core.List.{reverse}
use Prim.Native.Nat.{◌≤◌}
use native.Mathlib.Omega.{arith}
use Rattle.t800.specs.TagTree.{PathRead, read_path}
use Rattle.tgt.specs.Path.{path_over, leaf_word}
use Rattle.tgt_read.specs.Reading.{path_read, leaf_of}
use Rattle.tgt_read.proofs.Laws.Reading.{read_path-ct, leaf_says, raise_stop, raise_on, raise_end}
use Rattle.tgt_read_value.proofs.raise.Goals as goal

pub returns-then-r : goal.returns-then-r
returns-then-r c = let s = c in
    let l = c.loop-threshold in
    let r = c.opj_tgt_decode-r in
    let src = s.args.src.now in
    let row = s.args.row.now in
    let p = read_path src s.args.base l.threshold (reverse (path_over row s.args.depth s.args.x)) 0 l.words l.bio in
    let says = leaf_says l.threshold (leaf_word s.args.base row s.args.x) r.new.words r.result p r.ensures in
    sym (raise_stop src (leaf_of s.args.base row s.args.depth s.args.x) l.threshold l.words l.bio
    (path_read r.new.words r.result.bio) says.0
    (omega (arith, c.loop-threshold-test.true)) (says.1 ∙ c.if-r.true))
    ∙ l.invariant.1

pub loop-threshold-preserved : goal.loop-threshold-preserved
loop-threshold-preserved c = let s = c in
    let l = c.loop-threshold in
    let r = c.opj_tgt_decode-r in
    let src = s.args.src.now in
    let row = s.args.row.now in
    let path = reverse (path_over row s.args.depth s.args.x) in
    let p = read_path src s.args.base l.threshold path 0 l.words l.bio in
    let says = leaf_says l.threshold (leaf_word s.args.base row s.args.x) r.new.words r.result p r.ensures in (
      subst (λ (q : PathRead). q.bio.ct ≤ 8) (sym says.0)
          (read_path-ct src s.args.base l.threshold path 0 l.words l.bio l.invariant.0),
      raise_on src (leaf_of s.args.base row s.args.depth s.args.x) l.threshold l.words l.bio
          (path_read r.new.words r.result.bio) says.0
          (omega (arith, c.loop-threshold-test.true)) (says.1 ∙ c.if-r.false) ∙ l.invariant.1,
    )

pub returns : goal.returns
returns c = let s = c in
    let l = c.loop-threshold in
    sym (raise_end s.args.src.now (leaf_of s.args.base s.args.row.now s.args.depth s.args.x) l.threshold
    l.words l.bio (omega (arith, c.loop-threshold-test.false))) ∙ l.invariant.1
