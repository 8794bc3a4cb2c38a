use mathlib.Core.Path.{◌≡◌, refl, sym, ap, ◌∙◌, subst}
use mathlib.Core.List.{List}
use Prim.Native.Nat.{ℕ, ◌+◌, ◌*◌, ◌≤◌, ◌<◌}
use native.Mathlib.Nat.{le_refl}
use native.Mathlib.Omega.{arith}
use lib.ListN.{drop}
use Rattle.t800.specs.PackedHeaders.{unpacked}
use Rattle.t800.specs.State.{Block, band_nodes, band_length, blocks_in}
use Rattle.t800_laws.proofs.Laws.Layout.{band_length_lem}
use Rattle.tcd_places.specs.declared.Grid.{Grid}
use Rattle.tcd_places.specs.Places.{BandIn, band_blocks}
use Rattle.t2_read_block.proofs.Laws.Rows.{block_fits}
use Rattle.t2_skip_windows.specs.declared.At.{At}
use Rattle.t2_skip_windows.specs.Windows.{Somewhere, Skips}
use Rattle.t2_skip_windows.proofs.Laws.Steps.{skips_none}
use Rattle.t2_read_bands.proofs.Laws.ReadBlocks.{row_there, some_column}
use Rattle.t2_skip_windows.proofs.Laws.BandParts.{all_left, none_left}
use Rattle.t2_skip_windows.proofs.Laws.BandParts.{blocks-on, blocks-stop, blocks-somewhere, blocks-after, blocks_end}
use Rattle.t2_skip_windows.proofs.skip_band.Goals as goal

pub loop-i-init : goal.loop-i-init
loop-i-init c =
    let s = c in
    let a = s.args in
    let bytes = (unpacked a.segments.now).bytes in
    let z : a.block + 0 ≡ a.block = omega arith in (
      s.requires.0,
      subst (λ (k : ℕ). Somewhere k a.words.now a.s) (sym z) s.requires.1,
      refl,
      refl,
      refl,
      omega arith,
      some_column a.band,
      λ vs o f. subst (λ (k : ℕ). Skips bytes a.layer k (band_blocks a.g.start a.band) a.words.now a.s vs o) z
          (subst (λ (ks : List Block). Skips bytes a.layer (a.block + 0) ks a.words.now a.s vs o)
          (all_left a.g.start a.band) f),
    )

pub next_block-stand-requires : goal.next_block-stand-requires
next_block-stand-requires c =
    let s = c in
    let a = s.args in
    let l = c.loop-i in
    let t : l.i < blocks_in a.band = subst (λ (k : ℕ). l.i < k) c.band_blocks-end.ensures c.loop-i-test.true in
    let q : ℕ = a.g.start + 6 * band_nodes a.band + 4 * l.i in (
      l.invariant.0,
      l.invariant.1,
      subst (λ (k : ℕ). BandIn k a.g.start a.band) (sym l.invariant.2) s.requires.2,
      s.requires.3,
      s.requires.4,
      s.requires.5,
      s.requires.6,
      block_fits q q l.words a.words.now l.invariant.4 (omega arith) (s.requires.7 l.i t),
      t,
      l.invariant.5,
      l.invariant.6 t,
    )

pub shape_of-words-then-stand-ne0 : goal.shape_of-words-then-stand-ne0
shape_of-words-then-stand-ne0 c = c.next_block-stand.auto.words ∙ c.loop-i.invariant.2

pub shape_of-window-then-stand-ne0 : goal.shape_of-window-then-stand-ne0
shape_of-window-then-stand-ne0 c = c.next_block-stand.auto.window ∙ c.loop-i.invariant.3

pub returns-then-stand-ne0 : goal.returns-then-stand-ne0
returns-then-stand-ne0 c =
    let a = c.args
    in
    let l = c.loop-i in
    let t : l.i < blocks_in a.band = subst (λ (k : ℕ). l.i < k) c.band_blocks-end.ensures c.loop-i-test.true in
    let b = c.next_block-stand in
    record {
      window_on = b.ensures.window_on;
      skips = l.invariant.7 b.new.words b.result
          (blocks-stop a.segments.now a.layer a.block a.g.start a.band l.i t l.words l.stand _ b.new.words
          b.result b.ensures c.if-stand-ne0.true);
      after = blocks_end a.segments.now a.layer a.block a.g.start a.band l.i t l.words l.stand _ b.new.words
          b.result b.ensures a.words.now l.invariant.4;
    }

pub next-at-requires : goal.next-at-requires
next-at-requires c =
    let s = c in
    let a = s.args in
    let l = c.loop-i in
    let t : l.i < blocks_in a.band = subst (λ (k : ℕ). l.i < k) c.band_blocks-end.ensures c.loop-i-test.true in (
      subst (λ (k : ℕ). l.at.x < k) (sym (ap (λ (k : Grid). k.w) s.requires.3)) (l.invariant.6 t),
      omega (arith, row_there a.band l.at.x l.at.y l.i _ t (le_refl _) l.invariant.5, s.requires.2.sides.1),
    )

pub loop-i-preserved : goal.loop-i-preserved
loop-i-preserved c =
    let s = c in
    let a = s.args in
    let l = c.loop-i in
    let t : l.i < blocks_in a.band = subst (λ (k : ℕ). l.i < k) c.band_blocks-end.ensures c.loop-i-test.true in
    let b = c.next_block-stand in
    let z = c.if-stand-ne0.false in
    let o : At = c.next-at.result in
    let n = subst (λ (k : ℕ). (o.y * k + o.x ≡ l.at.y * k + l.at.x + 1) × (o.x < k)) (ap (λ (k : Grid). k.w) s.requires.3)
    c.next-at.ensures in (
      b.ensures.window_on,
      blocks-somewhere a.segments.now a.layer a.block a.g.start a.band l.i t l.words l.stand _ b.new.words
          b.result b.ensures z l.invariant.1,
      b.auto.words ∙ l.invariant.2,
      b.auto.window ∙ l.invariant.3,
      blocks-after a.segments.now a.layer a.block a.g.start a.band l.i t l.words l.stand _ b.new.words
          b.result b.ensures (l.i + 1) a.words.now (omega arith) l.invariant.4,
      ap (λ (k : ℕ). k + 1) l.invariant.5 ∙ sym n.0,
      λ _. n.1,
      λ us x f. l.invariant.7 us x
          (blocks-on a.segments.now a.layer a.block a.g.start a.band l.i t l.words l.stand _ b.new.words
          b.result b.ensures z us x f),
    )

pub shape_of-words : goal.shape_of-words
shape_of-words c = c.loop-i.invariant.2

pub shape_of-window : goal.shape_of-window
shape_of-window c = c.loop-i.invariant.3

pub returns : goal.returns
returns c =
    let a = c.args in
    let l = c.loop-i in
    let bytes = (unpacked a.segments.now).bytes in
    let d : blocks_in a.band ≤ l.i = subst (λ (k : ℕ). k ≤ l.i) c.band_blocks-end.ensures c.loop-i-test.false in
    let q : a.g.start + 6 * band_nodes a.band + 4 * l.i ≡ a.g.start + band_length a.band =
    omega (arith, d, l.auto.i-end, c.band_blocks-end.ensures, band_length_lem a.band) in
    record {
      window_on = l.invariant.0;
      skips = l.invariant.7 l.words l.stand
          (subst (λ (ks : List Block). Skips bytes a.layer (a.block + l.i) ks l.words l.stand l.words l.stand)
          (sym (none_left a.g.start a.band l.i d)) (skips_none bytes a.layer (a.block + l.i) l.words l.stand));
      after = subst (λ (k : ℕ). drop k l.words ≡ drop k a.words.now) q l.invariant.4;
    }
