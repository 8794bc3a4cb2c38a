use mathlib.Core.Path.{◌≡◌, refl, sym, ap, ◌∙◌, subst}
use mathlib.Core.List.{List}
use Prim.Native.Nat.{ℕ, ◌+◌, ◌-◌, ◌*◌}
use native.Mathlib.Omega.{arith}
use lib.ListN.{length}
use Rattle.t800.specs.State.{Block}
use Rattle.tcd_places.specs.declared.Place.{Place}
use Rattle.t2_read_segments.specs.Reading.{reading, BlockFits}
use Rattle.t2_read_block_parts.specs.Blocks.{next_block, next_blocks}
use Rattle.tcd_places.specs.Places.{BlockIn, RowIn, block_in, row_blocks}
use Rattle.tcd_places.proofs.Laws.Rows.{block_in-inside, row_end}
use Rattle.t2_read_block.proofs.Laws.Rows.{block_fits, reads_then, reads_no_more, keeps_then}
use Rattle.t2_read_block.proofs.read_row.Goals as goal

pub loop-i-init : goal.loop-i-init
loop-i-init c =
    let s = c in
    let a = s.args in
    let e : a.n - 0 ≡ a.n = omega arith in
    let z : a.block + 0 ≡ a.block = omega arith in (
      record { bits = s.requires.0; after = refl },
      refl,
      refl,
      refl,
      s.requires.1,
      (λ j. next_blocks a.src.now a.layer (z j) (row_blocks a.p a.row.now a.planes (e j) 0)
          (reading a.words.now a.reports.now a.records.now a.r)),
    )

pub place_at-place-requires : goal.place_at-place-requires
place_at-place-requires c =
    let s = c in
    (omega (arith, s.requires.2.small, c.loop-i-test.true), omega (arith, s.requires.2.inside, c.loop-i-test.true))

pub overflow_add-number : goal.overflow_add-number
overflow_add-number c = omega (arith, c.requires.4, c.loop-i-test.true)

pub read_block-run-requires : goal.read_block-run-requires
read_block-run-requires c =
    let s = c in
    let a = s.args in
    let l = c.loop-i in
    let t = c.loop-i-test.true in
    let e = c.place_at-place.ensures in
    let r = subst (λ (m : ℕ). RowIn m a.p a.row.now a.n) (sym l.invariant.1) s.requires.2 in (
      l.invariant.0.bits.few,
      subst (λ (k : Place). BlockIn (length l.words) k a.row.now) (sym e)
          (block_in-inside (length l.words) a.n l.i a.p a.row.now t r),
      s.requires.3,
      omega (arith, s.requires.4, t),
      subst (λ (k : Place). BlockFits l.words k.at) (sym e)
          (block_fits (a.p.at + 4 * l.i) (a.p.at + 4 * l.i) l.words a.words.now l.invariant.0.after (omega arith)
          (s.requires.5 l.i t)),
    )

pub shape_of-words-then-run-ne0 : goal.shape_of-words-then-run-ne0
shape_of-words-then-run-ne0 c = c.read_block-run.auto.words
    ∙ c.loop-i.invariant.1

pub shape_of-reports-then-run-ne0 : goal.shape_of-reports-then-run-ne0
shape_of-reports-then-run-ne0 c = c.read_block-run.auto.reports
    ∙ c.loop-i.invariant.2

pub shape_of-records-then-run-ne0 : goal.shape_of-records-then-run-ne0
shape_of-records-then-run-ne0 c = c.read_block-run.auto.records
    ∙ c.loop-i.invariant.3

pub returns-then-run-ne0 : goal.returns-then-run-ne0
returns-then-run-ne0 c =
    let s = c in
    let a = s.args in
    let l = c.loop-i in
    let u = reading l.words l.reports l.records l.run in
    let e = c.read_block-run.ensures
    ∙ ap (λ (k : Place). next_block a.src.now a.layer (a.block + l.i) (block_in k a.row.now a.planes) u)
    c.place_at-place.ensures in
    reads_no_more a.src.now a.layer a.block a.p a.row.now a.planes a.n l.i
    c.loop-i-test.true u
    _ e c.if-run-ne0.true ∙ l.invariant.5

pub loop-i-preserved : goal.loop-i-preserved
loop-i-preserved c =
    let s = c in
    let a = s.args in
    let l = c.loop-i in
    let t = c.loop-i-test.true in
    let g = c.read_block-run in
    let u = reading l.words l.reports l.records l.run in
    let e = g.ensures ∙ ap
    (λ (k : Place). next_block a.src.now a.layer (a.block + l.i) (block_in k a.row.now a.planes) u)
    c.place_at-place.ensures in (
      keeps_then a.src.now a.layer a.block a.p a.row.now a.planes a.n l.i t u _ e (length a.words.now)
          a.words.now s.requires.2 l.invariant.0,
      g.auto.words ∙ l.invariant.1,
      g.auto.reports ∙ l.invariant.2,
      g.auto.records ∙ l.invariant.3,
      c.if-run-ne0.false,
      reads_then a.src.now a.layer a.block a.p a.row.now a.planes a.n l.i t u _ e c.if-run-ne0.false ∙ l.invariant.5,
    )

pub shape_of-words : goal.shape_of-words
shape_of-words c = c.loop-i.invariant.1

pub shape_of-reports : goal.shape_of-reports
shape_of-reports c = c.loop-i.invariant.2

pub shape_of-records : goal.shape_of-records
shape_of-records c = c.loop-i.invariant.3

pub returns : goal.returns
unfolding next_blocks
returns c =
    let a = c.args in
    let l = c.loop-i in
    sym
    (ap (λ (ks : List Block). next_blocks a.src.now a.layer (a.block + l.i) ks
    (reading l.words l.reports l.records l.run))
    (row_end a.p a.row.now a.planes a.n l.i c.loop-i-test.false)) ∙ l.invariant.5
