use mathlib.Core.Path.{◌≡◌, refl, sym, ap, ◌∙◌, subst}
use mathlib.Core.List.{List, []}
use Prim.Native.Nat.{ℕ, ◌+◌, ◌*◌, ◌^◌, ◌<◌, ◌≤◌}
use mir.Syntax.{w64}
use mir.Val.{Fits}
use native.Mathlib.Nat.{le_refl}
use native.Mathlib.Omega.{arith}
use lib.ListN.{length, get_or, take, drop}
use Rattle.t800.specs.declared.Band.{Band}
use Rattle.t800.specs.declared.Level.{Level}
use Rattle.t800.specs.PackedHeaders.{unpacked}
use Rattle.t800.specs.State.{blocks, blocks_at, blocks_in, band_length, end_of}
use Rattle.t800_laws.proofs.Laws.Layout.{end_after}
use Rattle.tcd_laws.specs.Geometry.{no_band, SidesUpTo64}
use Rattle.tcd_laws.proofs.Laws.Bands.{next_band, no_more_bands, sides_of_first, blocks-up_to_4096, band_levels_at, end_turn}
use Rattle.tcd_places.specs.declared.Grid.{Grid}
use Rattle.tcd_places.specs.Places.{BandIn, band_blocks, grid_of}
use Rattle.t2_read_bands.specs.Bands.{BandFits, BandsFit}
use Rattle.t2_read_bands.proofs.Laws.ReadBands.{band_still_fits}
use Rattle.t2_skip_windows.specs.declared.InWindow.{InWindow}
use Rattle.t2_skip_windows.specs.Windows.{Somewhere, Skips, SkipsTo}
use Rattle.t2_skip_windows.proofs.Laws.Steps.{skips_none, after_then}
use Rattle.t2_skip_windows.proofs.Laws.BandParts.{bands-on, bands-stop, bands-somewhere}
use borrow.Author.Rules.{rules}
use Rattle.t2_skip_windows.proofs.skip_bands.Goals as goal
use Rattle.t2_skip_windows.proofs.skip_bands.Goals.{Start}

-- What a need asks is proved of variables, or once where it first holds: `omega` and `search` at a need read all that its `c` holds.

all_three : (s : Start) → s.args.n ≤ length s.args.bands
all_three s = let g : length s.args.bands ≡ 3 = search rules in omega (arith, s.requires.2)

room : (s : Start) → length s.args.words.now * 4 < 2 ^ 64
room s = search rules

band-there : (i n k : ℕ) → i < n → n ≤ k → i < k
band-there i n k h m = omega arith

band-ends : (end after all size words : ℕ) → end ≤ after → after ≡ all → all ≤ size → words ≡ size → end ≤ words
band-ends end after all size words a e h k = omega arith

starts-below : (start end size : ℕ) → start ≤ end → end ≤ size → size * 4 < 2 ^ 64 → start < 2 ^ 63
starts-below start end size a h k = omega arith

blocks-before : (block i n m : ℕ) → m ≤ 4096 → block ≤ 4096 * i → i < n → n ≤ 3 → block + m ≤ 12288
blocks-before block i n m f h k l = omega arith

blocks-fit : (block i n r m : ℕ) → r ≡ m → m ≤ 4096 → block ≤ 4096 * i → i < n → n ≤ 3 → Fits w64 (block + r)
blocks-fit block i n r m e f h k l = omega arith

blocks-then : (block i r m : ℕ) → r ≡ m → m ≤ 4096 → block ≤ 4096 * i → block + r ≤ 4096 * (i + 1)
blocks-then block i r m e f h = omega arith

ends-then : (a b c : ℕ) → a ≡ b → b ≤ c → a ≤ c
ends-then a b c e h = omega arith

start-after : (start n : ℕ) → start ≤ start + n
start-after start n = omega arith

-- what the band's own skipping says, in the grid's terms

at-start : (segments : List ℕ) (t block start : ℕ) (b : Band) (g : Grid) (ws : List ℕ) (s : InWindow) (window vs : List ℕ) (o : InWindow)
    → g ≡ grid_of start b
    → SkipsTo segments t block (band_blocks g.start b) (g.start + band_length b) ws s window vs o
    → SkipsTo segments t block (band_blocks start b) (start + band_length b) ws s window vs o
at-start segments t block start b g ws s window vs o e h =
    subst (λ (k : Grid). SkipsTo segments t block (band_blocks k.start b) (k.start + band_length b) ws s window vs o) e h

pub loop-i-init : goal.loop-i-init
unfolding blocks
loop-i-init c =
    let s = c in
    (s.requires.0, s.requires.1, refl, refl, refl, omega arith, s.requires.4, s.requires.6, λ vs o f. f)

pub offset_bounds-bands-i : goal.offset_bounds-bands-i
offset_bounds-bands-i c = omega (arith, c.loop-i-test.true, c.requires.2)

pub bounds-bands-i : goal.bounds-bands-i
bounds-bands-i c = omega (arith, c.loop-i-test.true, c.requires.2)

pub offset_bounds-trees-i : goal.offset_bounds-trees-i
offset_bounds-trees-i c = omega (arith, c.loop-i-test.true, c.requires.2)

pub bounds-trees-i : goal.bounds-trees-i
bounds-trees-i c = omega (arith, c.loop-i-test.true, c.requires.2)

pub grid_of-g-requires : goal.grid_of-g-requires
grid_of-g-requires c =
    let s = c in
    let l = c.loop-i in
    sides_of_first s.args.bands s.args.n l.i (all_three (goal.at.grid_of-g-requires c).Start) c.loop-i-test.true s.requires.3

pub skip_band-stand-requires : goal.skip_band-stand-requires
skip_band-stand-requires c =
    let s = c in
    let a = s.args in
    let l = c.loop-i in
    let t = c.loop-i-test.true in
    let b : Band = get_or a.bands l.i no_band in
    let ge = c.grid_of-g.ensures in
    let m = sides_of_first a.bands a.n l.i (all_three (goal.at.skip_band-stand-requires c).Start) t s.requires.3 in
    let v = end_turn a.bands a.n l.i l.start (all_three (goal.at.skip_band-stand-requires c).Start) t in
    let after = end_after (l.start + band_length b) (drop (l.i + 1) (take a.n a.bands)) in
    let nb = next_band a.bands a.n l.i (all_three (goal.at.skip_band-stand-requires c).Start) t in (
      l.invariant.0,
      l.invariant.1,
      subst (λ (k : Grid). BandIn (length l.words) k.start b) (sym ge)
          (record { sides = m; inside = band-ends _ _ _ _ _ after v l.invariant.6 l.invariant.2 }),
      subst (λ (k : Grid). k ≡ grid_of k.start b) (sym ge) refl,
      ap (λ (ts : List (List Level)). get_or ts l.i []) c.band_levels-trees.ensures
          ∙ band_levels_at a.bands l.i (band-there _ _ _ t (all_three (goal.at.skip_band-stand-requires c).Start)),
      s.requires.5,
      blocks-before l.block l.i a.n (blocks_in b) (blocks-up_to_4096 b m) l.invariant.5 t s.requires.2,
      subst (λ (k : Grid). BandFits l.words k.start b) (sym ge)
          (band_still_fits l.start b l.words a.words.now l.invariant.4
          (subst (BandsFit a.words.now l.start) nb l.invariant.7).0),
    )

pub shape_of-words-then-stand-ne0 : goal.shape_of-words-then-stand-ne0
shape_of-words-then-stand-ne0 c = c.skip_band-stand.auto.words ∙ c.loop-i.invariant.2

pub shape_of-window-then-stand-ne0 : goal.shape_of-window-then-stand-ne0
shape_of-window-then-stand-ne0 c = c.skip_band-stand.auto.window ∙ c.loop-i.invariant.3

pub returns-then-stand-ne0 : goal.returns-then-stand-ne0
returns-then-stand-ne0 c =
    let s = c in
    let a = s.args in
    let l = c.loop-i in
    let t = c.loop-i-test.true in
    let b : Band = get_or a.bands l.i no_band in
    let nb = next_band a.bands a.n l.i (all_three (goal.at.returns-then-stand-ne0 c).Start) t in
    let f = c.skip_band-stand in
    let h = at-start a.segments.now a.layer l.block l.start b _ l.words l.stand _ f.new.words f.result
    c.grid_of-g.ensures f.ensures in (
      h.window_on,
      l.invariant.8 f.new.words f.result
          (bands-stop (unpacked a.segments.now).bytes a.layer l.start l.block _ b (drop (l.i + 1) (take a.n a.bands)) nb
          l.words l.stand f.new.words f.result h.skips c.if-stand-ne0.true),
    )

pub grid_end-start-requires : goal.grid_end-start-requires
grid_end-start-requires c =
    let s = c in
    let a = s.args in
    let l = c.loop-i in
    let t = c.loop-i-test.true in
    let b : Band = get_or a.bands l.i no_band in
    subst (λ (k : Grid). SidesUpTo64 b × (k ≡ grid_of k.start b) × (k.start < 2 ^ 63)) (sym c.grid_of-g.ensures) (
      sides_of_first a.bands a.n l.i (all_three (goal.at.grid_end-start-requires c).Start) t s.requires.3,
      refl,
      starts-below l.start _ _ (end_after l.start (drop l.i (take a.n a.bands))) l.invariant.6 (room (goal.at.grid_end-start-requires c).Start),
    )

pub overflow_add-block : goal.overflow_add-block
overflow_add-block c =
    let s = c in
    let a = s.args in
    let l = c.loop-i
    in
    let t = c.loop-i-test.true in
    let b : Band = get_or a.bands l.i no_band in
    let m = sides_of_first a.bands a.n l.i (all_three (goal.at.overflow_add-block c).Start) t s.requires.3 in
    blocks-fit l.block l.i a.n _ _ c.band_blocks-block.ensures (blocks-up_to_4096 b m) l.invariant.5 t s.requires.2

pub loop-i-preserved : goal.loop-i-preserved
loop-i-preserved c =
    let s = c in
    let a = s.args in
    let l = c.loop-i
    in
    let t = c.loop-i-test.true in
    let b : Band = get_or a.bands l.i no_band in
    let m = sides_of_first a.bands a.n l.i (all_three (goal.at.loop-i-preserved c).Start) t s.requires.3 in
    let v = end_turn a.bands a.n l.i l.start (all_three (goal.at.loop-i-preserved c).Start) t in
    let nb = next_band a.bands a.n l.i (all_three (goal.at.loop-i-preserved c).Start) t in
    let f = c.skip_band-stand in
    let ge = c.grid_of-g.ensures in
    let el = c.grid_end-start.ensures ∙ ap (λ (k : Grid). k.start + band_length b) ge in
    let eb = c.band_blocks-block.ensures in
    let bytes = (unpacked a.segments.now).bytes in
    let later = drop (l.i + 1) (take a.n a.bands) in
    let z = c.if-stand-ne0.false in
    let h = at-start a.segments.now a.layer l.block l.start b _ l.words l.stand _ f.new.words f.result ge
    f.ensures in (
      h.window_on,
      subst (λ (k : ℕ). Somewhere (l.block + k) f.new.words f.result) (sym eb)
          (bands-somewhere bytes a.layer l.start l.block _ b later nb l.words l.stand f.new.words f.result h.skips z
          l.invariant.1),
      f.auto.words ∙ l.invariant.2,
      f.auto.window ∙ l.invariant.3,
      subst (λ (k : ℕ). drop k f.new.words ≡ drop k a.words.now) (sym el)
          (after_then l.start (l.start + band_length b) (l.start + band_length b) a.words.now l.words f.new.words
          (start-after l.start (band_length b)) (le_refl (l.start + band_length b)) l.invariant.4 h.after),
      blocks-then l.block l.i _ _ eb (blocks-up_to_4096 b m) l.invariant.5,
      subst (λ (k : ℕ). end_of k later ≤ length a.words.now) (sym el) (ends-then _ _ _ v l.invariant.6),
      subst (λ (k : ℕ). BandsFit a.words.now k later) (sym el) (subst (BandsFit a.words.now l.start) nb l.invariant.7).1,
      λ us x g. l.invariant.8 us x
          (bands-on bytes a.layer l.start l.block _ b later nb l.words l.stand f.new.words f.result h.skips z us x
          (subst (λ (k : ℕ). Skips bytes a.layer (l.block + k) (blocks_at (l.start + band_length b) later) f.new.words f.result
          us x) eb
          (subst (λ (k : ℕ). Skips bytes a.layer (l.block + c.band_blocks-block.result) (blocks_at k later) f.new.words f.result us x)
          el g))),
    )

pub shape_of-words : goal.shape_of-words
shape_of-words c = c.loop-i.invariant.2

pub shape_of-window : goal.shape_of-window
shape_of-window c = c.loop-i.invariant.3

pub returns : goal.returns
unfolding blocks_at
returns c =
    let a = c.args in
    let l = c.loop-i in
    let bytes = (unpacked a.segments.now).bytes in (
      l.invariant.0,
      l.invariant.8 l.words l.stand
          (subst (λ (bs : List Band). Skips bytes a.layer l.block (blocks_at l.start bs) l.words l.stand l.words
          l.stand) (sym (no_more_bands a.bands a.n l.i c.loop-i-test.false))
          (skips_none bytes a.layer l.block l.words l.stand)),
    )
