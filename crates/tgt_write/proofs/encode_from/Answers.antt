use mathlib.Core.Path.{◌≡◌, sym, ap, ◌∙◌, subst}
use Prim.Native.Nat.{ℕ, ◌+◌, ◌-◌, max, min}
use lib.ListN.{set, replicate, length-set}
use lib.Seq.{lt-length-set}
use Rattle.t800.specs.TagTree.{value, low_after}
use Rattle.bio_bytes.specs.Writing.{Output, output, FreeBitsClear}
use Rattle.bio_write.proofs.Laws.FreeBits.{put_bits-clear}
use Rattle.tgt_write.specs.Coding.{leaf_coded, told}
use Rattle.tgt_write.proofs.Laws.Coding.{code_to_threshold, code_to_value}
use Rattle.tgt_write.proofs.encode_from.Goals as goal

low-after : (v from t m to : ℕ) → m ≡ min v t → to ≡ max from m → to ≡ low_after v from t
unfolding low_after
low-after v from t m to e f = f ∙ ap (max from) e

pub returns-then-threshold-to : goal.returns-then-threshold-to
returns-then-threshold-to c = let s = c in
    let ws = s.args.words.now in
    let o = output s.args.out.now s.args.b in
    let to = c.opj_uint_max-to.result in
    let e = low-after (value ws s.args.at) s.args.from s.args.threshold
    c.opj_uint_min.result to
    c.opj_uint_min.ensures
    c.opj_uint_max-to.ensures in
    ap (λ (p : Output). record { words = set ws (s.args.at + 1) to; output = p; low = to }) c.zeros-bio.ensures
    ∙ sym (code_to_threshold s.args.threshold s.args.at s.args.from ws o to e c.if-threshold-to.true)

pub tell-told-requires : goal.tell-told-requires
tell-told-requires c = let s = c in
    let o = output s.args.out.now s.args.b in (
      subst FreeBitsClear (sym (ap (λ (p : Output). p.bio) c.zeros-bio.ensures))
          (put_bits-clear o (replicate (c.opj_uint_max-to.result - s.args.from)
          0) s.requires.0),
      lt-length-set s.args.words.now (s.args.at + 1)
          c.opj_uint_max-to.result {i = s.args.at + 2} s.requires.1,
    )

pub shape_of-words : goal.shape_of-words
shape_of-words c = let s =
    c in c.tell-told.auto.words
    ∙ length-set s.args.words.now (s.args.at + 1)
    c.opj_uint_max-to.result

pub returns : goal.returns
returns c = let s =
    c in
    let ws = s.args.words.now in
    let at = s.args.at in
    let o = output s.args.out.now s.args.b in
    let to = c.opj_uint_max-to.result in
    let t = c.tell-told in
    let e = low-after (value ws at) s.args.from s.args.threshold
    c.opj_uint_min.result to c.opj_uint_min.ensures
    c.opj_uint_max-to.ensures in
    sym (code_to_value s.args.threshold at s.args.from ws o to (leaf_coded t.new.words t.new.out t.result) e
    c.if-threshold-to.false
    (t.ensures ∙ ap (λ (p : Output). told (set ws (at + 1) to) p (at + 2))
    c.zeros-bio.ensures))
