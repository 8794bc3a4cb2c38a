use mathlib.Core.Path.{◌≡◌, sym, ◌∙◌, subst}
use mathlib.Core.List.{reverse}
use Prim.Native.Nat.{ℕ, ◌+◌}
use native.Mathlib.Omega.{arith}
use Rattle.t800.specs.TagTree.{read_path}
use Rattle.t800.specs.ReadHeader.{read_zero_planes_from}
use Rattle.t800.specs.State.{not_yet_planes}
use Rattle.tgt.specs.Path.{path_over}
use Rattle.tgt_read.specs.Reading.{leaf_of}
use Rattle.tgt_read_value.proofs.Laws.OneNode.{raised_at_once}
use Rattle.tgt_read_value.proofs.read_planes.Goals as goal

pub returns-then-depth-eq1 : goal.returns-then-depth-eq1
returns-then-depth-eq1 c =
    let s = c in
    let src = s.args.src.now in
    let row = s.args.row.now in
    let ws = s.args.words.now in
    let base = s.args.base in
    let x = s.args.x in
    c.decode_path.ensures
    ∙ subst (λ (d : ℕ). read_path src base (not_yet_planes + 1) (reverse (path_over row d x)) 0 ws s.args.b
    ≡ read_zero_planes_from src (leaf_of base row d x) (not_yet_planes + 2) 0 ws s.args.b)
    (sym c.if-depth-eq1.true)
    (sym (raised_at_once src base row x ws s.args.b (omega (arith, s.requires.1.long, s.requires.1.some))
    (omega (arith, s.requires.1.inside 0 s.requires.1.some))))
