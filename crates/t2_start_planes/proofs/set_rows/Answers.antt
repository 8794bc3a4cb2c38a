use native.Mathlib.Omega.{arith}
use borrow.Author.Rules.{rules}
use mathlib.Core.Path.{◌≡◌, refl, ap, ◌∙◌}
use mathlib.Core.List.{List}
use Prim.Native.Nat.{ℕ, ◌+◌, ◌-◌, ◌*◌, ◌<◌}
use lib.Dec.{ltb}
use lib.ListN.{length, take, drop}
use Rattle.t800.specs.declared.Band.{Band}
use Rattle.t800.specs.State.{Block, band_nodes}
use Rattle.t800.specs.Start.{set_zero_planes}
use Rattle.t800_laws.proofs.Laws.Layout.{band_length_lem}
use Rattle.tgt.proofs.Laws.Path.{small_levels}
use Rattle.t2_start_planes.specs.Rows.{set_row}
use Rattle.t2_start_planes.proofs.Laws.Runs.{part_length}
use Rattle.t2_start_planes.proofs.Laws.BlockRows.{rows_first, rows_end, tree_of_band, row_inside, row_in}
use Rattle.t2_start_planes.proofs.Laws.ZeroPlanes.{none_before, none_after, row_turn}
use Rattle.t2_start_planes.proofs.set_rows.Goals as goal

pub overflow_add-base : goal.overflow_add-base
overflow_add-base c =
    let s = c in
    let f : length s.args.state.now < 0x1_0000_0000_0000_0000 = search rules in
    omega (arith, f, s.requires.1, s.requires.4, band_length_lem s.args.band)

pub overflow_mul-base : goal.overflow_mul-base
overflow_mul-base c = omega (arith, overflow_add-base c)

pub loop-y-init : goal.loop-y-init
loop-y-init c =
    let s = c.args in (
      omega arith,
      refl,
      ap (λ (ks : List Block). set_zero_planes ks s.planes.now s.state.now) (rows_first s.at s.band),
    )

pub opj_tgt_row-requires : goal.opj_tgt_row-requires
opj_tgt_row-requires c =
    let s = c in
    let b : Band = s.args.band in
    let t = tree_of_band b.across b.down s.args.tree s.args.depth s.requires.2 s.requires.3 in (
      small_levels b.across b.down s.args.tree s.args.depth t s.requires.0.0 s.requires.0.1,
      omega (arith, c.loop-y-test.true, s.requires.0.1),
      refl,
    )

pub overflow_add-to : goal.overflow_add-to
overflow_add-to c =
    let s = c in
    let l = c.loop-y in
    let e = row_inside s.args.band l.y l.from (omega arith) l.invariant.0 in
    let f : length s.args.planes.now * 4 < 0x1_0000_0000_0000_0000 = search rules in
    omega (arith, e, f, s.requires.5)

pub slice_bounds-set_row-end : goal.slice_bounds-set_row-end
slice_bounds-set_row-end c =
    let s = c in
    let l = c.loop-y in
    let e = row_inside s.args.band l.y l.from (omega arith) l.invariant.0 in
    let f : length s.args.planes.now * 4 < 0x1_0000_0000_0000_0000 = search rules in
    omega (arith, e, f, s.requires.5)

pub offset_bounds-planes-from : goal.offset_bounds-planes-from
offset_bounds-planes-from c = omega (arith, slice_bounds-set_row-end c)

pub slice_bounds-set_row-start : goal.slice_bounds-set_row-start
slice_bounds-set_row-start c = omega (arith, slice_bounds-set_row-end c)

pub set_row-requires : goal.set_row-requires
set_row-requires c =
    let s = c in
    let b : Band = s.args.band in
    let t = tree_of_band b.across b.down s.args.tree s.args.depth s.requires.2 s.requires.3 in
    let l = c.loop-y in
    let k : l.y < b.down = c.loop-y-test.true in
    let e = row_inside b l.y l.from k l.invariant.0 in
    let to : ℕ = l.from + b.across in
    let n : length (take (to - l.from) (drop l.from s.args.planes.now))
    ≡ to - l.from = part_length s.args.planes.now l.from to (omega arith) (omega (arith, e, s.requires.5)) in (
      row_in s.args.at b s.args.tree s.args.depth t l.y k c.opj_tgt_row.new.row
          c.opj_tgt_row.ensures _ _ _ (ap (λ (m : ℕ). s.args.at + 3 * m) s.requires.1)
          (omega (arith, s.requires.4, l.invariant.1)) (omega (arith, n)),
      none_before (λ p. ltb b.planes p) (to - l.from) (drop l.from s.args.planes.now)
          (none_after (λ p. ltb b.planes p) l.from s.args.planes.now s.requires.6),
    )

pub loop-y-preserved : goal.loop-y-preserved
loop-y-preserved c =
    let s = c in
    let b : Band = s.args.band in
    let t = tree_of_band b.across b.down s.args.tree s.args.depth s.requires.2 s.requires.3 in
    let l = c.loop-y in
    let k : l.y < b.down = c.loop-y-test.true in
    let e = row_inside b l.y l.from k l.invariant.0 in
    let to : ℕ = l.from + b.across in
    let part : List ℕ = take (to - l.from) (drop l.from s.args.planes.now) in
    let n : length part ≡ b.across = part_length s.args.planes.now l.from to (omega arith) (omega (arith, e, s.requires.5))
    ∙ omega arith in (
      omega (arith, l.invariant.0),
      c.set_row.auto.state ∙ l.invariant.1,
      row_turn s.args.at b s.args.tree s.args.depth t l.y k s.args.planes.now part l.state _ l.from to
          l.invariant.0 refl refl n
          (c.set_row.ensures
          ∙ ap (λ (m : ℕ). set_row (s.args.at + 3 * m)
          c.opj_tgt_row.new.row s.args.depth b.planes 0 part
          l.state) s.requires.1
          ∙ ap (λ (r : List ℕ). set_row (s.args.at + 3 * band_nodes b) r s.args.depth b.planes 0 part l.state)
          c.opj_tgt_row.ensures)
          ∙ l.invariant.2,
    )

pub shape_of-state : goal.shape_of-state
shape_of-state c = c.loop-y.invariant.1

pub returns : goal.returns
unfolding set_zero_planes
returns c = let l = c.loop-y in let s = c.args in
    rw (rows_end s.at s.band l.y c.loop-y-test.false) at l.invariant.2

pub slice_bounds-set_row-count : goal.slice_bounds-set_row-count
slice_bounds-set_row-count c = omega arith
