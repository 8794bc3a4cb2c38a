use mathlib.Core.Path.{refl, sym, ap, ◌∙◌, subst}
use mathlib.Core.List.{List}
use Prim.Native.Nat.{ℕ, ◌+◌, ◌*◌, ◌<◌, ◌≤◌}
use native.Mathlib.Omega.{arith}
use lib.ListN.{length}
use Rattle.t800.specs.declared.Level.{Level}
use Rattle.t800.specs.State.{Block}
use Rattle.t800.specs.TagTree.{levels}
use Rattle.tcd_laws.specs.Geometry.{padded}
use Rattle.tgt.specs.Path.{row_over, SmallLevels}
use Rattle.tcd_places.specs.declared.Grid.{Grid}
use Rattle.bio_bytes.specs.Writing.{FreeBitsClear}
use Rattle.t2_write_block.specs.Runs.{Running, running, code_all, AllFit}
use Rattle.t2_write_bands.proofs.Laws.BandRows.{all_clear, row_fits, left_fit, left_coded}
use Rattle.tcd_places.specs.Places.{BandIn, RowIn, row_blocks, row_place}
use Rattle.tcd_places.proofs.Laws.BandRows.{all_left, at_row, none_left, row_ends, row_in, small}
use Rattle.t2_write_bands.proofs.code_blocks.Goals as goal

pub loop-y-init : goal.loop-y-init
loop-y-init c =
    let s = c in
    let a = s.args in
    let e = all_left (length a.words.now) a.g.start a.band s.requires.1 in (
      s.requires.0,
      refl,
      refl,
      subst (λ (ks : List Block). AllFit a.by.now.counts.now a.by.now.lengths.now a.by.now.marks.now a.words.now ks a.r.block
          a.r.pass) (sym e) s.requires.4,
      ap (λ (ks : List Block). code_all a.by.now.layer a.by.now.counts.now a.by.now.lengths.now a.by.now.marks.now ks
          (running a.words.now a.out.now a.r)) e,
    )

pub opj_tgt_row-requires : goal.opj_tgt_row-requires
opj_tgt_row-requires c =
    let s = c in
    let a = s.args in
    let ge = s.requires.2 in
    let m = small (length a.words.now) a.g.start a.band s.requires.1 in (
      subst (λ (ls : List Level). SmallLevels ls a.g.depth) (sym s.requires.3)
          (subst (SmallLevels (padded (levels a.band.across a.band.down))) (sym (ap (λ (k : Grid). k.depth) ge)) m),
      omega (arith, c.loop-y-test.true, c.rows-y-end.ensures, s.requires.1.sides.1),
      refl,
    )

pub row_place-place-requires : goal.row_place-place-requires
row_place-place-requires c =
    let s = c in
    let a = s.args in
    let l = c.loop-y in
    let t : l.y < a.band.down = subst (λ (k : ℕ). l.y < k) c.rows-y-end.ensures c.loop-y-test.true in
    let ends = row_ends (length a.words.now) a.g.start a.band s.requires.1 l.y t in
    subst (λ (k : Grid). (k.w ≤ 64) × (l.y ≤ 64) × (k.start + 6 * k.nodes + 4 * (l.y * k.w) < 9223372036854775808)) (sym s.requires.2)
    (s.requires.1.sides.0, omega (arith, s.requires.1.sides.1), omega (arith, ends))

pub code_row-run-requires : goal.code_row-run-requires
code_row-run-requires c =
    let s = c in
    let a = s.args in
    let l = c.loop-y in
    let ge = s.requires.2 in
    let t : l.y < a.band.down =
    subst (λ (k : ℕ). l.y < k) c.rows-y-end.ensures
    c.loop-y-test.true in
    let ep = c.row_place-place.ensures ∙ ap (λ (k : Grid). row_place k l.y) ge in
    let er = c.opj_tgt_row.ensures ∙ (λ i. row_over (s.requires.3 i) (ge i).depth l.y) in
    let ew = ap (λ (k : Grid). k.w) ge in
    let b = subst (λ (k : ℕ). BandIn k a.g.start a.band) (sym l.invariant.1) s.requires.1 in
    let u = running l.words l.out l.run in (
      l.invariant.0,
      at_row (length l.words) a.g.start a.band b l.y t (RowIn (length l.words)) _ _ _ ep er ew
          (row_in (length l.words) a.g.start a.band b l.y t),
      at_row (length l.words) a.g.start a.band b l.y t
          (λ p r n. AllFit a.by.now.counts.now a.by.now.lengths.now a.by.now.marks.now l.words (row_blocks p r 0 n 0) l.run.block
          l.run.pass) _ _ _ ep er ew
          (row_fits (length l.words) a.g.start a.band b l.y t a.by.now.layer a.by.now.counts.now a.by.now.lengths.now
          a.by.now.marks.now u l.invariant.3),
    )

pub loop-y-preserved : goal.loop-y-preserved
loop-y-preserved c =
    let s = c in
    let a = s.args in
    let l = c.loop-y in
    let ge = s.requires.2 in
    let t : l.y < a.band.down =
    subst (λ (k : ℕ). l.y < k)
    c.rows-y-end.ensures
    c.loop-y-test.true in
    let ep = c.row_place-place.ensures
    ∙ ap (λ (k : Grid). row_place k l.y) ge in
    let er = c.opj_tgt_row.ensures
    ∙ (λ i. row_over (s.requires.3 i) (ge i).depth l.y) in
    let ew = ap (λ (k : Grid). k.w) ge in
    let b = subst (λ (k : ℕ). BandIn k a.g.start a.band) (sym l.invariant.1) s.requires.1 in
    let u = running l.words l.out l.run in
    let g = c.code_row-run in
    let e = g.ensures ∙
    (λ i. code_all a.by.now.layer a.by.now.counts.now a.by.now.lengths.now a.by.now.marks.now (row_blocks (ep i) (er i) 0 (ew i) 0) u) in (
      subst FreeBitsClear (sym (ap (λ (x : Running). x.output.bio) g.ensures))
          (all_clear a.by.now.layer a.by.now.counts.now a.by.now.lengths.now a.by.now.marks.now _ u l.invariant.0),
      g.auto.words ∙ l.invariant.1,
      g.auto.out ∙ l.invariant.2,
      left_fit (length l.words) a.g.start a.band b l.y t a.by.now.layer a.by.now.counts.now a.by.now.lengths.now a.by.now.marks.now
          u l.invariant.3 _ e,
      left_coded (length l.words) a.g.start a.band b l.y t a.by.now.layer a.by.now.counts.now a.by.now.lengths.now
          a.by.now.marks.now u l.invariant.3 _ e ∙ l.invariant.4,
    )

pub returns : goal.returns
unfolding code_all
returns c =
    let s = c in
    let a = s.args in
    let l = c.loop-y in
    let d : a.band.down ≤ l.y = subst (λ (k : ℕ). k ≤ l.y) c.rows-y-end.ensures c.loop-y-test.false in
    sym
    (ap (λ (ks : List Block). code_all a.by.now.layer a.by.now.counts.now a.by.now.lengths.now a.by.now.marks.now ks
    (running l.words l.out l.run)) (none_left (length a.words.now) a.g.start a.band s.requires.1 l.y d))
    ∙ l.invariant.4
