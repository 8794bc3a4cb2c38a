use mathlib.Core.Path.{ap, ◌∙◌}
use native.Mathlib.Omega.{arith}
use lib.ListN.{length}
use Rattle.bio_bytes.specs.Writing.{output, put_bits}
use Rattle.tgt_write.specs.Coding.{put_coded}
use Rattle.tcd_places.specs.Places.{block_in}
use Rattle.tcd_places.proofs.Laws.Before.{path_wider}
use Rattle.t2_write_block_parts.proofs.Laws.Branches.{planes_new, planes_old}
use Rattle.t2_write_block_parts.proofs.code_zero_planes.Goals as goal

pub opj_tgt_encode-requires : goal.opj_tgt_encode-requires
opj_tgt_encode-requires c = let s = c in (
  s.requires.0,
  path_wider s.args.p.at (length s.args.words.now) _ _ _ _ (omega (arith, s.requires.1.inside))
      s.requires.1.zero,
)

pub returns-then-words-at-eq0 : goal.returns-then-words-at-eq0
returns-then-words-at-eq0 c =
    let s = c in
    c.opj_tgt_encode.ensures
    ∙ ap (put_coded (output s.args.out.now s.args.b))
    (planes_new s.args.words.now (block_in s.args.p s.args.row.now 0)
    c.if-words-at-eq0.true)

pub returns : goal.returns
unfolding put_bits
returns c = let s = c in
    ap (put_coded (output s.args.out.now s.args.b))
    (planes_old s.args.words.now (block_in s.args.p s.args.row.now 0) c.if-words-at-eq0.false)
