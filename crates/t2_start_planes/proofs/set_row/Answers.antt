use native.Mathlib.Omega.{arith}
use borrow.Author.Tests.{ltb-false}
use mathlib.Core.Path.{refl, sym, ap, ◌∙◌, subst}
use mathlib.Core.List.{List}
use Prim.Native.Nat.{ℕ, ◌+◌}
use lib.Dec.{ltb}
use lib.ListN.{drop, drop_of_length-le}
use Rattle.tgt.specs.Path.{PathIn}
use Rattle.t2_start_planes.specs.Rows.{set_row}
use Rattle.t2_start_planes.proofs.Laws.ZeroPlanes.{none_at, column_turn}
use Rattle.t2_start_planes.proofs.set_row.Goals as goal

pub loop-x-init : goal.loop-x-init
loop-x-init c = (refl, refl)

pub overflow_sub-zero : goal.overflow_sub-zero
overflow_sub-zero c = let s = c in let l = c.loop-x in
    ltb-false s.args.most _ (none_at (λ p. ltb s.args.most p) s.args.planes.now l.x (omega arith) s.requires.1)

pub opj_tgt_setvalue-requires : goal.opj_tgt_setvalue-requires
opj_tgt_setvalue-requires c =
    let s = c in
    let l = c.loop-x in
    subst (λ (k : ℕ). PathIn k s.args.base s.args.row.now s.args.depth l.x) (sym l.invariant.0)
    (s.requires.0 l.x (omega arith))

pub loop-x-preserved : goal.loop-x-preserved
loop-x-preserved c =
    let s = c.args in
    let l = c.loop-x in (
      c.opj_tgt_setvalue.auto.words ∙ l.invariant.0,
      ap (λ (z : List ℕ). set_row s.base s.row.now s.depth s.most (l.x + 1) (drop (l.x + 1) s.planes.now) z)
          c.opj_tgt_setvalue.ensures
          ∙ column_turn s.base s.row.now s.depth s.most l.x s.planes.now l.state (omega arith)
          ∙ l.invariant.1,
    )

pub shape_of-state : goal.shape_of-state
shape_of-state c = c.loop-x.invariant.0

pub returns : goal.returns
unfolding set_row
returns c = let l = c.loop-x in let z =
    drop_of_length-le c.args.planes.now {i = l.x} (omega arith) in rw z at l.invariant.1
