use mathlib.Core.Path.{ap, ◌∙◌}
use mathlib.Core.Bool.{Bool, true, false, cond}
use mir.Val.{bool_byte}
use mathlib.Core.Path.{◌≡◌, refl}
use native.Mathlib.Omega.{arith}
use lib.Dec.{ltb}
use lib.ListN.{length}
use Rattle.bio_bytes.specs.Writing.{output, put_bit, put_bits}
use Rattle.tgt_write.specs.Coding.{put_coded}
use Rattle.t2_write_lengths.specs.Blocks.{coded}
use Rattle.tcd_places.specs.Places.{block_in}
use Rattle.tcd_places.proofs.Laws.Before.{path_wider}
use Rattle.t2_write_block_parts.proofs.Laws.Branches.{incl_new, incl_old}
use Rattle.t2_write_block_parts.proofs.code_inclusion.Goals as goal

as_number : (b : Bool) → bool_byte b ≡ cond b 1 0
as_number true = refl
as_number false = refl

pub opj_tgt_encode-requires : goal.opj_tgt_encode-requires
opj_tgt_encode-requires c = let s = c in (
  s.requires.0,
  path_wider s.args.p.at (length s.args.words.now) _ _ _ _ (omega (arith, s.requires.1.inside))
      s.requires.1.incl,
)

pub returns-then-words-at-eq0 : goal.returns-then-words-at-eq0
returns-then-words-at-eq0 c =
    let s = c in
    c.opj_tgt_encode.ensures
    ∙ ap (put_coded (output s.args.out.now s.args.b))
    (incl_new s.args.words.now (block_in s.args.p s.args.row.now 0) s.args.layer s.args.count
    c.if-words-at-eq0.true)

pub returns : goal.returns
unfolding put_bits
returns c =
    let o = output c.args.out.now c.args.b in
    let e : c.from.result ≡ cond (ltb 0 c.args.count) 1 0 = c.from.ensures ∙ as_number (ltb 0 c.args.count) in
    ap (coded c.args.words.now) (c.bit_out.ensures ∙ ap (put_bit o) e)
    ∙ ap (put_coded o) (incl_old c.args.words.now (block_in c.args.p c.args.row.now 0) c.args.layer c.args.count
    c.if-words-at-eq0.false)
