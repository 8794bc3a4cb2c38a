use mathlib.Core.Path.{sym, ap, ◌∙◌, subst}
use Prim.Native.Nat.{ℕ}
use Rattle.tgt.specs.Path.{leaf_word, PathIn}
use Rattle.tgt_read.specs.Reading.{value_in}
use Rattle.tgt_read_value.proofs.opj_tgt_decode_value.Goals as goal

pub leaf_value-value-requires : goal.leaf_value-value-requires
leaf_value-value-requires c = let s = c in
    subst (λ (n : ℕ). PathIn n s.args.base s.args.row.now s.args.depth s.args.x)
    (sym c.read_planes-bio.auto.words) s.requires.1

pub returns : goal.returns
returns c = let s = c in
    let p = c.read_planes-bio in
    ap (λ (v : ℕ). record { words = p.new.words; bio = p.result; value = v }) c.leaf_value-value.ensures
    ∙ ap (value_in (leaf_word s.args.base s.args.row.now s.args.x)) p.ensures
