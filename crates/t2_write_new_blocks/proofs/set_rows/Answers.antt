use mathlib.Core.Path.{◌≡◌, refl, sym, ap, ◌∙◌, subst}
use mathlib.Core.List.{List}
use Prim.Native.Nat.{ℕ, ◌+◌, ◌*◌, ◌<◌, ◌≤◌}
use native.Mathlib.Omega.{arith}
use lib.ListN.{length}
use Rattle.t800.specs.declared.Level.{Level}
use Rattle.t800.specs.State.{Block}
use Rattle.t800.specs.TagTree.{levels}
use Rattle.tcd_laws.specs.Geometry.{padded}
use Rattle.tgt.specs.Path.{row_over, SmallLevels}
use Rattle.tcd_places.specs.Places.{BandIn, RowIn, row_blocks, row_place}
use Rattle.tcd_places.proofs.Laws.BandRows.{all_left, at_row, none_left, row_counts, row_ends, row_in, small}
use Rattle.tcd_places.specs.declared.Grid.{Grid}
use Rattle.t2_write_new_rows.specs.Setting.{set_all}
use Rattle.t2_write_new_blocks.proofs.Laws.BandRows.{left_set}
use Rattle.t2_write_new_blocks.proofs.set_rows.Goals as goal

pub loop-y-init : goal.loop-y-init
loop-y-init c =
    let s = c in
    let a = s.args in
    let e = all_left (length a.words.now) a.g.start a.band s.requires.0 in
    let f : a.block + 0 * a.band.across ≡ a.block = omega arith in
    (refl, λ i. set_all a.layer a.counts.now (e i) (f i) a.words.now)

pub opj_tgt_row-requires : goal.opj_tgt_row-requires
opj_tgt_row-requires c =
    let s = c in
    let a = s.args in
    let ge = s.requires.1 in
    let m = small (length a.words.now) a.g.start a.band s.requires.0 in (
      subst (λ (ls : List Level). SmallLevels ls a.g.depth) (sym s.requires.2)
          (subst (SmallLevels (padded (levels a.band.across a.band.down))) (sym (ap (λ (k : Grid). k.depth) ge)) m),
      omega (arith, c.loop-y-test.true, c.rows-y-end.ensures, s.requires.0.sides.1),
      refl,
    )

pub row_place-place-requires : goal.row_place-place-requires
row_place-place-requires c =
    let s = c in
    let a = s.args in
    let l = c.loop-y in
    let t : l.y < a.band.down = subst (λ (k : ℕ). l.y < k) c.rows-y-end.ensures c.loop-y-test.true in
    let ends = row_ends (length a.words.now) a.g.start a.band s.requires.0 l.y t in
    subst (λ (k : Grid). (k.w ≤ 64) × (l.y ≤ 64) × (k.start + 6 * k.nodes + 4 * (l.y * k.w) < 9223372036854775808)) (sym s.requires.1)
    (s.requires.0.sides.0, omega (arith, s.requires.0.sides.1), omega (arith, ends))

pub set_row-requires : goal.set_row-requires
set_row-requires c =
    let s = c in
    let a = s.args in
    let l = c.loop-y in
    let ge = s.requires.1 in
    let t : l.y < a.band.down =
    subst (λ (k : ℕ). l.y < k) c.rows-y-end.ensures
    c.loop-y-test.true in
    let ep = c.row_place-place.ensures ∙ ap (λ (k : Grid). row_place k l.y) ge in
    let er = c.opj_tgt_row.ensures ∙ (λ i. row_over (s.requires.2 i) (ge i).depth l.y) in
    let ew = ap (λ (k : Grid). k.w) ge in
    let b = subst (λ (k : ℕ). BandIn k a.g.start a.band) (sym l.invariant.0) s.requires.0 in (
      at_row (length l.words) a.g.start a.band b l.y t (RowIn (length l.words)) _ _ _ ep er ew
          (row_in (length l.words) a.g.start a.band b l.y t),
      subst (λ (k : Grid). a.block + l.y * k.w + k.w ≤ length a.counts.now) (sym ge)
          (omega (arith, row_counts (length a.words.now) a.g.start a.band s.requires.0 l.y t, s.requires.3)),
    )

pub loop-y-preserved : goal.loop-y-preserved
loop-y-preserved c =
    let s = c in
    let a = s.args in
    let l = c.loop-y in
    let ge = s.requires.1 in
    let t : l.y < a.band.down =
    subst (λ (k : ℕ). l.y < k) c.rows-y-end.ensures
    c.loop-y-test.true in
    let ep = c.row_place-place.ensures ∙ ap (λ (k : Grid). row_place k l.y) ge in
    let er = c.opj_tgt_row.ensures
    ∙ (λ i. row_over (s.requires.2 i) (ge i).depth l.y) in
    let ew = ap (λ (k : Grid). k.w) ge in
    let g = c.set_row in
    let e = g.ensures ∙
    (λ i. set_all a.layer a.counts.now (row_blocks (ep i) (er i) 0 (ew i) 0) (a.block + l.y * ew i) l.words) in (
      g.auto.words ∙ l.invariant.0,
      left_set (length a.words.now) a.g.start a.band s.requires.0 l.y t a.layer a.counts.now a.block l.words
          _ e ∙ l.invariant.1,
    )

pub returns : goal.returns
unfolding set_all
returns c =
    let s = c in
    let a = s.args in
    let l = c.loop-y in
    let d : a.band.down ≤ l.y = subst (λ (k : ℕ). k ≤ l.y) c.rows-y-end.ensures c.loop-y-test.false in
    sym (ap (λ (ks : List Block). set_all a.layer a.counts.now ks (a.block + l.y * a.band.across) l.words)
    (none_left (length a.words.now) a.g.start a.band s.requires.0 l.y d)) ∙ l.invariant.1
