use mathlib.Core.Path.{sym, ap, ◌∙◌, subst}
use Prim.Native.Nat.{ℕ}
use lib.Dec.{ltb}
use Rattle.tgt.specs.Path.{leaf_word, PathIn}
use Rattle.tgt_read.specs.Reading.{below_in}
use Rattle.tgt_read.proofs.opj_tgt_decode.Goals as goal

pub leaf_value-value-requires : goal.leaf_value-value-requires
leaf_value-value-requires c = let s = c in
    subst (λ (n : ℕ). PathIn n s.args.base s.args.row.now s.args.depth s.args.x)
    (sym c.decode_path-bio.auto.words) s.requires.1

pub returns : goal.returns
returns c = let s = c in
    let p = c.decode_path-bio in
    let t = s.args.threshold in
    ap (λ (v : ℕ). record { words = p.new.words; bio = p.result; below = ltb v t }) c.leaf_value-value.ensures
    ∙ ap (below_in t (leaf_word s.args.base s.args.row.now s.args.x)) p.ensures
