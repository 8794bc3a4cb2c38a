use mathlib.Core.Path.{◌≡◌, refl, sym, ap, ◌∙◌, subst}
use mathlib.Core.List.{List}
use Prim.Native.Nat.{ℕ, ◌+◌, ◌*◌, ◌^◌, ◌<◌, ◌≤◌}
use mir.Syntax.{w64}
use mir.Val.{Fits}
use native.Mathlib.Omega.{arith}
use lib.ListN.{length, get_or, take, drop}
use Rattle.t800.specs.declared.Band.{Band}
use Rattle.t800.specs.State.{blocks, blocks_at, band_length, end_of}
use Rattle.t800_laws.proofs.Laws.Layout.{end_after}
use Rattle.tcd_laws.specs.Geometry.{no_band, SidesUpTo64}
use Rattle.tcd_laws.proofs.Laws.Bands.{next_band, no_more_bands, sides_of_first, blocks-up_to_4096, end_turn}
use Rattle.t2_read_segments.specs.Reading.{reading}
use Rattle.t2_read_block_parts.specs.Blocks.{next_blocks}
use Rattle.t2_read_block_parts.proofs.Laws.Kept.{Keeps}
use Rattle.tcd_places.specs.declared.Grid.{Grid}
use Rattle.tcd_places.specs.Places.{BandIn, band_blocks, grid_of}
use Rattle.t2_read_bands.specs.Bands.{BandFits, BandsFit}
use Rattle.t2_read_bands.proofs.Laws.ReadBands.{band_still_fits, bands-then, bands-refused, bands-keep}
use borrow.Author.Rules.{rules}
use Rattle.t2_read_bands.proofs.read_bands.Goals as goal
use Rattle.t2_read_bands.proofs.read_bands.Goals.{Start}

-- What a goal asks is proved of variables, or once where it first holds: `omega` and `search` read all that a `c` holds.

all_three : (s : Start) → s.args.n ≤ length s.args.bands
all_three s = let g : length s.args.bands ≡ 3 = search rules in omega (arith, s.requires.2)

room : (s : Start) → length s.args.words.now * 4 < 2 ^ 64
room s = search rules

band-ends : (end after all size words : ℕ) → end ≤ after → after ≡ all → all ≤ size → words ≡ size → end ≤ words
band-ends end after all size words a e h k = omega arith

starts-below : (start end size : ℕ) → start ≤ end → end ≤ size → size * 4 < 2 ^ 64 → start < 2 ^ 63
starts-below start end size a h k = omega arith

blocks-before : (block i n : ℕ) → block ≤ 4096 * i → i < n → n ≤ 3 → block ≤ 12288
blocks-before block i n h k m = omega arith

blocks-fit : (block i n r m : ℕ) → r ≡ m → m ≤ 4096 → block ≤ 4096 * i → i < n → n ≤ 3 → Fits w64 (block + r)
blocks-fit block i n r m e f h k l = omega arith

blocks-then : (block i r m : ℕ) → r ≡ m → m ≤ 4096 → block ≤ 4096 * i → block + r ≤ 4096 * (i + 1)
blocks-then block i r m e f h = omega arith

ends-then : (a b c : ℕ) → a ≡ b → b ≤ c → a ≤ c
ends-then a b c e h = omega arith

next : (i n : ℕ) → i < n → i + 1 ≤ n
next i n h = omega arith

pub loop-i-init : goal.loop-i-init
unfolding blocks
loop-i-init c =
    let s = c in
    (record { bits = s.requires.0; after = refl }, refl, refl, refl, omega arith, s.requires.1, omega arith, s.requires.4, s.requires.6, refl)

pub bounds-bands-i : goal.bounds-bands-i
bounds-bands-i c =
    omega (arith, c.loop-i-test.true, c.requires.2)

pub grid_of-g-requires : goal.grid_of-g-requires
grid_of-g-requires c =
    let s = c in
    let l = c.loop-i in
    let t = c.loop-i-test.true in
    sides_of_first s.args.bands s.args.n l.i (all_three (goal.at.grid_of-g-requires c).Start) t s.requires.3

pub read_band-run-requires : goal.read_band-run-requires
read_band-run-requires c =
    let s = c in
    let a = s.args in
    let l = c.loop-i in
    let t = c.loop-i-test.true in
    let b : Band = get_or a.bands l.i no_band in
    let ge = c.grid_of-g.ensures in
    let m = sides_of_first a.bands a.n l.i (all_three (goal.at.read_band-run-requires c).Start) t s.requires.3 in
    let v = end_turn a.bands a.n l.i l.start (all_three (goal.at.read_band-run-requires c).Start) t in
    let after = end_after (l.start + band_length b) (drop (l.i + 1) (take a.n a.bands)) in
    let nb = next_band a.bands a.n l.i (all_three (goal.at.read_band-run-requires c).Start) t in (
      l.invariant.0.bits,
      l.invariant.5,
      subst (λ (k : Grid). BandIn (length l.words) k.start b) (sym ge)
          (record { sides = m; inside = band-ends _ _ _ _ _ after v l.invariant.7 l.invariant.1 }),
      subst (λ (k : Grid). k ≡ grid_of k.start b) (sym ge) refl,
      c.levels-tree.ensures,
      s.requires.5,
      blocks-before l.block l.i a.n l.invariant.6 t s.requires.2,
      subst (λ (k : Grid). BandFits l.words k.start b) (sym ge)
          (band_still_fits l.start b l.words a.words.now l.invariant.0.after
          (subst (BandsFit a.words.now l.start) nb l.invariant.8).0),
    )

pub shape_of-words-then-run-ne0 : goal.shape_of-words-then-run-ne0
shape_of-words-then-run-ne0 c = c.read_band-run.auto.words
    ∙ c.loop-i.invariant.1

pub shape_of-reports-then-run-ne0 : goal.shape_of-reports-then-run-ne0
shape_of-reports-then-run-ne0 c = c.read_band-run.auto.reports
    ∙ c.loop-i.invariant.2

pub shape_of-records-then-run-ne0 : goal.shape_of-records-then-run-ne0
shape_of-records-then-run-ne0 c = c.read_band-run.auto.records
    ∙ c.loop-i.invariant.3

pub returns-then-run-ne0 : goal.returns-then-run-ne0
returns-then-run-ne0 c =
    let s = c in
    let a = s.args in
    let l = c.loop-i in
    let t = c.loop-i-test.true in
    let b : Band = get_or a.bands l.i no_band in
    let m = sides_of_first a.bands a.n l.i (all_three (goal.at.returns-then-run-ne0 c).Start) t s.requires.3 in
    let nb = next_band a.bands a.n l.i (all_three (goal.at.returns-then-run-ne0 c).Start) t in
    let ge = c.grid_of-g.ensures in
    let u = reading l.words l.reports l.records l.run in
    let e = c.read_band-run.ensures
    ∙ ap (λ (k : Grid). next_blocks a.src.now a.layer l.block (band_blocks k.start b) u) ge in
    bands-refused a.src.now a.layer l.start l.block _ b (drop (l.i + 1) (take a.n a.bands)) nb u _ e l.invariant.5
    c.if-run-ne0.true ∙ l.invariant.9

pub grid_end-start-requires : goal.grid_end-start-requires
grid_end-start-requires c =
    let s = c in
    let a = s.args in
    let l = c.loop-i in
    let t = c.loop-i-test.true in
    let ge = c.grid_of-g.ensures in
    let b : Band = get_or a.bands l.i no_band in
    subst (λ (k : Grid). SidesUpTo64 b × (k ≡ grid_of k.start b) × (k.start < 2 ^ 63)) (sym ge) (
      sides_of_first a.bands a.n l.i (all_three (goal.at.grid_end-start-requires c).Start) t s.requires.3,
      refl,
      starts-below l.start _ _ (end_after l.start (drop l.i (take a.n a.bands))) l.invariant.7 (room (goal.at.grid_end-start-requires c).Start),
    )

pub overflow_add-block : goal.overflow_add-block
overflow_add-block c =
    let s = c in
    let a = s.args in
    let l = c.loop-i in
    let t = c.loop-i-test.true in
    let b : Band = get_or a.bands l.i no_band in
    let m = sides_of_first a.bands a.n l.i (all_three (goal.at.overflow_add-block c).Start) t s.requires.3 in
    blocks-fit l.block l.i a.n _ _ c.band_blocks-block.ensures (blocks-up_to_4096 b m) l.invariant.6 t s.requires.2

pub loop-i-preserved : goal.loop-i-preserved
loop-i-preserved c =
    let s = c in
    let a = s.args in
    let l = c.loop-i in
    let t = c.loop-i-test.true in
    let b : Band = get_or a.bands l.i no_band in
    let m = sides_of_first a.bands a.n l.i (all_three (goal.at.loop-i-preserved c).Start) t s.requires.3 in
    let v = end_turn a.bands a.n l.i l.start (all_three (goal.at.loop-i-preserved c).Start) t in
    let after = end_after (l.start + band_length b) (drop (l.i + 1) (take a.n a.bands)) in
    let nb = next_band a.bands a.n l.i (all_three (goal.at.loop-i-preserved c).Start) t in
    let f = c.read_band-run in
    let ge = c.grid_of-g.ensures in
    let el = c.grid_end-start.ensures ∙ ap (λ (k : Grid). k.start + band_length b) ge in
    let eb = c.band_blocks-block.ensures in
    let before = reading l.words l.reports l.records l.run in
    let e = f.ensures ∙ ap (λ (k : Grid). next_blocks a.src.now a.layer l.block (band_blocks k.start b) before) ge in
    let u = reading f.new.words f.new.reports f.new.records f.result in (
      subst (λ (z : ℕ). Keeps a.src.now z a.words.now u) (sym el)
          (bands-keep a.src.now a.layer l.start l.block _ b (drop (l.i + 1) (take a.n a.bands)) nb before _ e
          a.words.now l.invariant.0),
      f.auto.words ∙ l.invariant.1,
      f.auto.reports ∙ l.invariant.2,
      f.auto.records ∙ l.invariant.3,
      next l.i a.n t,
      c.if-run-ne0.false,
      blocks-then l.block l.i _ _ eb (blocks-up_to_4096 b m) l.invariant.6,
      subst (λ (z : ℕ). end_of z (drop (l.i + 1) (take a.n a.bands)) ≤ length a.words.now) (sym el) (ends-then _ _ _ v l.invariant.7),
      subst (λ (z : ℕ). BandsFit a.words.now z (drop (l.i + 1) (take a.n a.bands))) (sym el)
          (subst (BandsFit a.words.now l.start) nb l.invariant.8).1,
      (λ j. next_blocks a.src.now a.layer (l.block + eb j) (blocks_at (el j) (drop (l.i + 1) (take a.n a.bands))) u)
          ∙ bands-then a.src.now a.layer l.start l.block _ b (drop (l.i + 1) (take a.n a.bands)) nb before _ e
          c.if-run-ne0.false ∙ l.invariant.9,
    )

pub returns : goal.returns
unfolding next_blocks blocks_at
returns c =
    let s = c in
    let a = s.args in
    let l = c.loop-i in
    sym
    (ap (λ (bs : List Band). next_blocks a.src.now a.layer l.block (blocks_at l.start bs)
    (reading l.words l.reports l.records l.run)) (no_more_bands a.bands a.n l.i c.loop-i-test.false)) ∙ l.invariant.9
