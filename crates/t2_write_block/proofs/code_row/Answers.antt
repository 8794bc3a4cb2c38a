use mathlib.Core.Path.{sym, ap, ◌∙◌, subst}
use mathlib.Core.List.{List}
use Prim.Native.Nat.{ℕ}
use lib.ListN.{length}
use Rattle.t800.specs.State.{Block}
use Rattle.bio_bytes.specs.Writing.{FreeBitsClear}
use Rattle.tcd_places.specs.declared.Place.{Place}
use Rattle.tcd_places.specs.Places.{BlockIn, RowIn, block_in}
use Rattle.tcd_places.proofs.Laws.Rows.{block_in-inside, row_end}
use Rattle.t2_write_block.specs.Runs.{Running, running, code_next, code_all, NextFits}
use Rattle.t2_write_block.proofs.Laws.Rows.{next_clear, fits_now, fits_then, codes_then}
use Rattle.t2_write_block.proofs.code_row.Goals as goal

pub code_next-run-requires : goal.code_next-run-requires
code_next-run-requires c =
    let s = c in
    let a = s.args in
    let l = c.loop-i in
    let e = c.place_at-place.ensures in
    let u = running l.words l.out l.run in
    let r = subst (λ (k : ℕ). RowIn k a.p a.row.now a.n) (sym l.invariant.1) s.requires.1 in
    let f = fits_now (length l.words) a.n l.i a.p a.row.now c.loop-i-test.true r
    a.by.now.layer a.by.now.counts.now a.by.now.lengths.now a.by.now.marks.now u l.invariant.3 in (
      l.invariant.0,
      subst (λ (k : Place). BlockIn (length l.words) k a.row.now) (sym e)
          (block_in-inside (length l.words) a.n l.i a.p a.row.now c.loop-i-test.true r),
      subst (λ (k : Place). NextFits a.by.now.counts.now a.by.now.lengths.now a.by.now.marks.now l.words k.at l.run.block
          l.run.pass) (sym e) f,
    )

pub loop-i-preserved : goal.loop-i-preserved
loop-i-preserved c =
    let s = c in
    let a = s.args in
    let l = c.loop-i in
    let t = c.loop-i-test.true in
    let g = c.code_next-run in
    let u = running l.words l.out l.run in
    let r = subst (λ (k : ℕ). RowIn k a.p a.row.now a.n) (sym l.invariant.1) s.requires.1 in
    let e = g.ensures ∙ ap
    (λ (k : Place). code_next a.by.now.layer a.by.now.counts.now a.by.now.lengths.now a.by.now.marks.now (block_in k a.row.now 0) u)
    c.place_at-place.ensures in (
      subst FreeBitsClear (sym (ap (λ (x : Running). x.output.bio) g.ensures))
          (next_clear a.by.now.layer a.by.now.counts.now a.by.now.lengths.now a.by.now.marks.now _ u l.invariant.0),
      g.auto.words ∙ l.invariant.1,
      g.auto.out ∙ l.invariant.2,
      fits_then (length l.words) a.n l.i a.p a.row.now t r a.by.now.layer a.by.now.counts.now a.by.now.lengths.now
          a.by.now.marks.now u _ e l.invariant.3,
      codes_then (length l.words) a.n l.i a.p a.row.now t r a.by.now.layer a.by.now.counts.now a.by.now.lengths.now
          a.by.now.marks.now u _ e ∙ l.invariant.4,
    )

pub returns : goal.returns
unfolding code_all
returns c =
    let a = c.args in
    let l = c.loop-i in
    sym
    (ap (λ (ks : List Block). code_all a.by.now.layer a.by.now.counts.now a.by.now.lengths.now a.by.now.marks.now ks
    (running l.words l.out l.run)) (row_end a.p a.row.now 0 a.n l.i c.loop-i-test.false)) ∙ l.invariant.4
