use mathlib.Core.Path.{◌≡◌, refl, sym, ap, ◌∙◌, subst}
use mathlib.Core.List.{List, []}
use Prim.Native.Nat.{ℕ, ◌+◌, ◌-◌, ◌*◌, ◌<◌, ◌≤◌, min}
use native.Mathlib.Omega.{arith}
use lib.ListN.{length, drop}
use Rattle.t800.specs.declared.Band.{Band}
use Rattle.t800.specs.declared.Level.{Level}
use Rattle.t800.specs.State.{Block, band_nodes, blocks_from}
use Rattle.t800.specs.TagTree.{levels}
use Rattle.tcd_laws.specs.Geometry.{padded}
use Rattle.tcd_laws.proofs.Laws.Bands.{blocks-up_to_4096}
use Rattle.tgt.specs.Path.{row_over, SmallLevels}
use Rattle.tcd_places.specs.declared.Grid.{Grid}
use Rattle.tcd_places.specs.declared.Place.{Place}
use Rattle.t2_read_segments.specs.Reading.{reading, BlocksFit}
use Rattle.t2_read_block_parts.specs.Blocks.{next_blocks}
use Rattle.tcd_places.specs.Places.{BandIn, RowIn, row_blocks, place_at, row_place}
use Rattle.tcd_places.proofs.Laws.BandRows.{row_ends, small}
use Rattle.t2_read_bands.proofs.Laws.ReadBlocks.{row_there, part_number, part_in, part_fits, blocks-on, blocks-stop, blocks-kept}
use Rattle.t2_read_bands.proofs.read_blocks.Goals as goal

-- the blocks of one turn

in_row : (w across x end i n : ℕ) → w ≡ across → n ≡ min (w - x) (end - i) → x < across → i < end
    → (x + n ≤ across) × (i + n ≤ end) × (1 ≤ n)
in_row w across x end i n e is h k = (omega arith, omega arith, omega arith)

-- after a turn that does not end the blocks a row is done

row_done : (w across x y end i n : ℕ) → w ≡ across → n ≡ min (w - x) (end - i) → x < across → i ≡ y * across + x
    → i + n < end → (i + n ≡ (y + 1) * across + 0) × (0 < across)
row_done w across x y end i n e is h k m =
    let full : n ≡ across - x = omega arith in
    (omega arith, omega arith)

-- the code's place and row are these

at_part : (P : Place → List ℕ → Type 0) (p q : Place) (r v : List ℕ) → p ≡ q → r ≡ v → P q v → P p r
at_part P p q r v e f k = subst (λ (z : Place). P z r) (sym e) (subst (P q) (sym f) k)

none_left : (start : ℕ) (b : Band) (end at : ℕ) → end ≤ at → blocks_from start b (end - at) at ≡ []
unfolding blocks_from
none_left start b end at h = let z : end - at ≡ 0 = omega arith in ap (λ (n : ℕ). blocks_from start b n at) z

pub loop-at-init : goal.loop-at-init
loop-at-init c =
    let s = c in
    (record { bits = s.requires.0; after = refl }, refl, refl, refl, s.requires.1, s.requires.9, refl, omega arith)

pub opj_tgt_row-requires : goal.opj_tgt_row-requires
opj_tgt_row-requires c =
    let s = c in
    let a = s.args in
    let l = c.loop-at in
    let t = c.loop-at-test.true in
    let h = l.invariant.5 t in
    let here = row_there a.band l.column l.line l.at a.end t s.requires.8 h.0 in
    let ge = s.requires.3 in
    let m = small (length a.words.now) a.g.start a.band s.requires.2 in (
      subst (λ (ls : List Level). SmallLevels ls a.g.depth) (sym s.requires.4)
          (subst (SmallLevels (padded (levels a.band.across a.band.down))) (sym (ap (λ (k : Grid). k.depth) ge)) m),
      omega (arith, here, s.requires.2.sides.1),
      refl,
    )

pub row_place-start-requires : goal.row_place-start-requires
row_place-start-requires c =
    let s = c in
    let a = s.args in
    let l = c.loop-at in
    let t = c.loop-at-test.true in
    let h = l.invariant.5 t in
    let here = row_there a.band l.column l.line l.at a.end t s.requires.8 h.0 in
    let ge = s.requires.3 in
    let ends = row_ends (length a.words.now) a.g.start a.band s.requires.2 l.line here in
    subst (λ (k : Grid). (k.w ≤ 64) × (l.line ≤ 64) × (k.start + 6 * k.nodes + 4 * (l.line * k.w) < 9223372036854775808)) (sym ge)
    (s.requires.2.sides.0, omega (arith, here, s.requires.2.sides.1), omega (arith, ends))

pub place_at-place-requires : goal.place_at-place-requires
place_at-place-requires c =
    let s = c in
    let a = s.args in
    let l = c.loop-at in
    let t = c.loop-at-test.true in
    let h = l.invariant.5 t in
    let here = row_there a.band l.column l.line l.at a.end t s.requires.8 h.0 in
    let ge = s.requires.3 in
    let ends = row_ends (length a.words.now) a.g.start a.band s.requires.2 l.line here in
    subst (λ (q : Place). (q.x + l.column < 4294967296) × (q.at + 4 * l.column < 9223372036854775808))
    (sym (c.row_place-start.ensures ∙ ap (λ (k : Grid). row_place k l.line) ge))
    (omega (arith, h.1, s.requires.2.sides.0), omega (arith, h.1, ends))

pub overflow_sub-g : goal.overflow_sub-g
overflow_sub-g c =
    let s = c in
    let a = s.args in
    let l = c.loop-at in
    let t = c.loop-at-test.true in
    let h = l.invariant.5 t in
    let here = row_there a.band l.column l.line l.at a.end t s.requires.8 h.0 in
    omega (arith, ap (λ (k : Grid). k.w) s.requires.3, h.1)

pub overflow_sub-end : goal.overflow_sub-end
overflow_sub-end c = omega (arith, c.loop-at-test.true)

pub overflow_add-first : goal.overflow_add-first
overflow_add-first c =
    let s = c in
    let l = c.loop-at in
    omega (arith, c.loop-at-test.true, s.requires.8, s.requires.6, blocks-up_to_4096 s.args.band s.requires.2.sides)

pub read_row-run-requires : goal.read_row-run-requires
read_row-run-requires c =
    let s = c in
    let a = s.args in
    let l = c.loop-at in
    let t = c.loop-at-test.true in
    let h = l.invariant.5 t in
    let here = row_there a.band l.column l.line l.at a.end t s.requires.8 h.0 in
    let ge = s.requires.3 in
    let ep = c.place_at-place.ensures
    ∙ ap (λ (q : Place). place_at q l.column) (c.row_place-start.ensures ∙ ap (λ (k : Grid). row_place k l.line) ge) in
    let er = c.opj_tgt_row.ensures ∙ (λ j. row_over (s.requires.4 j) (ge j).depth l.line) in
    let m = in_row a.g.w a.band.across l.column a.end l.at c.min-n.result
    (ap (λ (k : Grid). k.w) ge) c.min-n.ensures h.1 t in
    let b = subst (λ (k : ℕ). BandIn k a.g.start a.band) (sym l.invariant.1) s.requires.2 in
    let P : Place → List ℕ → Type 0 = λ p r. RowIn (length l.words) p r c.min-n.result in
    let inside = part_in (length l.words) a.g.start a.band b l.line here l.column c.min-n.result m.0 in
    let at_words : a.g.start + 6 * band_nodes a.band + 4 * l.at
    ≡ a.g.start + 6 * band_nodes a.band + 4 * (l.line * a.band.across) + 4 * l.column = omega (arith, h.0) in
    let fits = part_fits (length l.words) a.g.start a.band b l.line here l.column c.min-n.result m.0
    l.words a.words.now a.i a.end s.requires.7 (omega (arith, h.0, l.invariant.7)) (omega (arith, h.0, m.1))
    (subst (λ (q : ℕ). drop q l.words ≡ drop q a.words.now) at_words l.invariant.0.after) in
    let number = part_number (length l.words) a.g.start a.band b l.line here l.column c.min-n.result m.0
    a.block s.requires.6 in (
      l.invariant.0.bits,
      l.invariant.4,
      at_part P _ _ _ _ ep er inside,
      s.requires.5,
      omega (arith, number, h.0),
      subst (λ (p : Place). BlocksFit l.words p.at c.min-n.result) (sym ep) fits,
    )

pub shape_of-words-then-run-ne0 : goal.shape_of-words-then-run-ne0
shape_of-words-then-run-ne0 c = c.read_row-run.auto.words ∙ c.loop-at.invariant.1

pub shape_of-reports-then-run-ne0 : goal.shape_of-reports-then-run-ne0
shape_of-reports-then-run-ne0 c = c.read_row-run.auto.reports ∙ c.loop-at.invariant.2

pub shape_of-records-then-run-ne0 : goal.shape_of-records-then-run-ne0
shape_of-records-then-run-ne0 c = c.read_row-run.auto.records ∙ c.loop-at.invariant.3

pub returns-then-run-ne0 : goal.returns-then-run-ne0
returns-then-run-ne0 c =
    let s = c in
    let a = s.args in
    let l = c.loop-at in
    let t = c.loop-at-test.true in
    let h = l.invariant.5 t in
    let here = row_there a.band l.column l.line l.at a.end t s.requires.8 h.0 in
    let ge = s.requires.3 in
    let ep = c.place_at-place.ensures
    ∙ ap (λ (q : Place). place_at q l.column) (c.row_place-start.ensures ∙ ap (λ (k : Grid). row_place k l.line) ge) in
    let er = c.opj_tgt_row.ensures ∙ (λ j. row_over (s.requires.4 j) (ge j).depth l.line) in
    let m = in_row a.g.w a.band.across l.column a.end l.at c.min-n.result
    (ap (λ (k : Grid). k.w) ge) c.min-n.ensures h.1 t in
    let b = subst (λ (k : ℕ). BandIn k a.g.start a.band) (sym l.invariant.1) s.requires.2 in
    let u = reading l.words l.reports l.records l.run in
    let g = c.read_row-run in
    let e = g.ensures
    ∙ (λ j. next_blocks a.src.now a.layer (a.block + l.at) (row_blocks (ep j) (er j) a.band.planes c.min-n.result 0) u) in
    blocks-stop (length l.words) a.g.start a.band b l.line here l.column c.min-n.result m.0 a.src.now
    a.layer a.block l.at a.end h.0 m.1 u _ e l.invariant.4 c.if-run-ne0.true ∙ l.invariant.6

pub overflow_add-at : goal.overflow_add-at
overflow_add-at c =
    let s = c in
    let a = s.args in
    let l = c.loop-at in
    let t = c.loop-at-test.true in
    let h = l.invariant.5 t in
    let here = row_there a.band l.column l.line l.at a.end t s.requires.8 h.0 in
    let ge = s.requires.3 in
    let ep = c.place_at-place.ensures
    ∙ ap (λ (q : Place). place_at q l.column) (c.row_place-start.ensures ∙ ap (λ (k : Grid). row_place k l.line) ge) in
    let er = c.opj_tgt_row.ensures ∙ (λ j. row_over (s.requires.4 j) (ge j).depth l.line) in
    let m = in_row a.g.w a.band.across l.column a.end l.at c.min-n.result
    (ap (λ (k : Grid). k.w) ge) c.min-n.ensures h.1 t in
    let b = subst (λ (k : ℕ). BandIn k a.g.start a.band) (sym l.invariant.1) s.requires.2 in
    omega (arith, m.1, s.requires.8, blocks-up_to_4096 a.band s.requires.2.sides)

pub overflow_add-line : goal.overflow_add-line
overflow_add-line c =
    let s = c in
    let a = s.args in
    let l = c.loop-at in
    let t = c.loop-at-test.true in
    let h = l.invariant.5 t in
    let here = row_there a.band l.column l.line l.at a.end t s.requires.8 h.0 in
    omega (arith, here, s.requires.2.sides.1)

pub loop-at-smaller : goal.loop-at-smaller
loop-at-smaller c =
    let s = c in
    let a = s.args in
    let l = c.loop-at in
    let t = c.loop-at-test.true in
    let h = l.invariant.5 t in
    let here = row_there a.band l.column l.line l.at a.end t s.requires.8 h.0 in
    let ge = s.requires.3 in
    let ep = c.place_at-place.ensures
    ∙ ap (λ (q : Place). place_at q l.column) (c.row_place-start.ensures ∙ ap (λ (k : Grid). row_place k l.line) ge) in
    let er = c.opj_tgt_row.ensures ∙ (λ j. row_over (s.requires.4 j) (ge j).depth l.line) in
    let m = in_row a.g.w a.band.across l.column a.end l.at c.min-n.result
    (ap (λ (k : Grid). k.w) ge) c.min-n.ensures h.1 t in
    let b = subst (λ (k : ℕ). BandIn k a.g.start a.band) (sym l.invariant.1) s.requires.2 in
    omega (arith, m.1, m.2, t)

pub loop-at-preserved : goal.loop-at-preserved
loop-at-preserved c =
    let s = c in
    let a = s.args in
    let l = c.loop-at in
    let t = c.loop-at-test.true in
    let h = l.invariant.5 t in
    let here = row_there a.band l.column l.line l.at a.end t s.requires.8 h.0 in
    let ge = s.requires.3 in
    let ep = c.place_at-place.ensures
    ∙ ap (λ (q : Place). place_at q l.column) (c.row_place-start.ensures ∙ ap (λ (k : Grid). row_place k l.line) ge) in
    let er = c.opj_tgt_row.ensures ∙ (λ j. row_over (s.requires.4 j) (ge j).depth l.line) in
    let m = in_row a.g.w a.band.across l.column a.end l.at c.min-n.result
    (ap (λ (k : Grid). k.w) ge) c.min-n.ensures h.1 t in
    let b = subst (λ (k : ℕ). BandIn k a.g.start a.band) (sym l.invariant.1) s.requires.2 in
    let u = reading l.words l.reports l.records l.run in
    let g = c.read_row-run in
    let e = g.ensures
    ∙ (λ j. next_blocks a.src.now a.layer (a.block + l.at) (row_blocks (ep j) (er j) a.band.planes c.min-n.result 0) u) in (
      blocks-kept (length l.words) a.g.start a.band b l.line here l.column c.min-n.result m.0 a.src.now
          a.layer a.block l.at a.end h.0 m.1 u _ e a.words.now l.invariant.0,
      g.auto.words ∙ l.invariant.1,
      g.auto.reports ∙ l.invariant.2,
      g.auto.records ∙ l.invariant.3,
      c.if-run-ne0.false,
      row_done a.g.w a.band.across l.column l.line a.end l.at c.min-n.result (ap (λ (k : Grid). k.w) ge)
          c.min-n.ensures h.1 h.0,
      blocks-on (length l.words) a.g.start a.band b l.line here l.column c.min-n.result m.0 a.src.now
          a.layer a.block l.at a.end h.0 m.1 u _ e c.if-run-ne0.false ∙ l.invariant.6,
      omega (arith, l.invariant.7),
    )

pub shape_of-words : goal.shape_of-words
shape_of-words c = c.loop-at.invariant.1

pub shape_of-reports : goal.shape_of-reports
shape_of-reports c = c.loop-at.invariant.2

pub shape_of-records : goal.shape_of-records
shape_of-records c = c.loop-at.invariant.3

pub returns : goal.returns
unfolding next_blocks
returns c =
    let a = c.args in
    let l = c.loop-at in
    sym (ap (λ (ks : List Block). next_blocks a.src.now a.layer (a.block + l.at) ks
    (reading l.words l.reports l.records l.run))
    (none_left a.g.start a.band a.end l.at c.loop-at-test.false)) ∙ l.invariant.6
