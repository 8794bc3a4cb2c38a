use mathlib.Core.Path.{sym, ap, ◌∙◌}
use Prim.Native.Nat.{ℕ}
use Rattle.t800.specs.TagTree.{read_node}
use Rattle.tgt_read.proofs.seek.Goals as goal

pub returns-then-left-eq1 : goal.returns-then-left-eq1
returns-then-left-eq1 c = let s = c in
    c.seek_one.ensures
    ∙ ap (λ (n : ℕ). read_node s.args.src.now n s.args.value s.args.low s.args.b) (sym c.if-left-eq1.true)
