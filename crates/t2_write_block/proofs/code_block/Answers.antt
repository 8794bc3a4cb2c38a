use mathlib.Core.Path.{sym, ap, ◌∙◌, subst}
use Prim.Native.Nat.{ℕ, ◌+◌, ◌<◌}
use native.Mathlib.Omega.{arith}
use lib.ListN.{drop}
use Rattle.t800.specs.Segments.{segments_of}
use Rattle.bio_bytes.specs.Writing.{output}
use Rattle.tgt_write.specs.Coding.{LeafCoded, put_coded}
use Rattle.t2_write_lengths.proofs.Laws.Passes.{same_passes}
use Rattle.tcd_places.specs.Places.{BlockIn, block_in}
use Rattle.tcd_places.proofs.Laws.Before.{path_before}
use Rattle.t2_write_block.proofs.Laws.OneBlock.{incl_keeps, planes_keep, still_fit, coded-clear, block_absent, block_is}
use Rattle.t2_write_block.proofs.code_block.Goals as goal

pub returns-then-count-eq0 : goal.returns-then-count-eq0
returns-then-count-eq0 c =
    let s = c in
    block_absent s.args.layer s.args.count (block_in s.args.p s.args.row.now 0)
    (segments_of s.args.lengths.now s.args.marks.now) s.args.words.now (output s.args.out.now s.args.b) _
    c.if-count-eq0.true c.code_inclusion-told.ensures

pub code_zero_planes-planes-requires : goal.code_zero_planes-planes-requires
code_zero_planes-planes-requires c =
    let s = c in
    let i = c.code_inclusion-told in (
      coded-clear _ _ _ i.ensures s.requires.1,
      subst (λ (n : ℕ). BlockIn n s.args.p s.args.row.now) (sym i.auto.words) s.requires.2,
    )

pub code_passes-requires : goal.code_passes-requires
code_passes-requires c =
    let s = c in
    let p = s.args.p in
    let row = s.args.row.now in
    let i = c.code_inclusion-told in
    let z = c.code_zero_planes-planes in
    let k = block_in p row 0 in
    let e = ap (λ (x : LeafCoded). drop p.at x.words) z.ensures
    ∙ planes_keep p.at k i.new.words (path_before p.at p.zero row p.depth p.x s.requires.2.zero)
    ∙ ap (λ (x : LeafCoded). drop p.at x.words) i.ensures
    ∙ incl_keeps p.at k s.args.words.now s.args.layer s.args.count
    (path_before p.at p.incl row p.depth p.x s.requires.2.incl) in (
      s.requires.0,
      coded-clear _ _ _ z.ensures (coded-clear _ _ _ i.ensures s.requires.1),
      subst (λ (n : ℕ). p.at + 3 < n) (sym (z.auto.words ∙ i.auto.words)) s.requires.2.inside,
      omega (arith, c.if-count-eq0.false),
      still_fit p.at p.at s.args.count z.new.words s.args.words.now _ _ e (omega arith) s.requires.4,
    )

pub shape_of-words : goal.shape_of-words
shape_of-words c = c.code_passes.auto.words
    ∙ c.code_zero_planes-planes.auto.words
    ∙ c.code_inclusion-told.auto.words

pub shape_of-out : goal.shape_of-out
shape_of-out c = c.code_passes.auto.out
    ∙ c.code_zero_planes-planes.auto.out
    ∙ c.code_inclusion-told.auto.out

pub returns : goal.returns
returns c =
    let s = c in
    let k = block_in s.args.p s.args.row.now 0 in
    let z = c.code_zero_planes-planes in
    block_is s.args.layer s.args.count k (segments_of s.args.lengths.now s.args.marks.now) s.args.words.now
    (output s.args.out.now s.args.b) _ _ _
    c.if-count-eq0.false
    c.code_inclusion-told.ensures z.ensures
    (c.code_passes.ensures
    ∙ ap (put_coded (output z.new.out z.result))
    (same_passes k s.args.count (segments_of s.args.lengths.now s.args.marks.now) z.new.words))
