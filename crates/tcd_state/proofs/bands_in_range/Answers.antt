use Rattle.std.proofs.Common.{◌≡◌, ◌+◌, ◌*◌, ◌≤◌, ◌<◌, ℕ, List, ◌∷◌, Bool, false, true, None, Some, cond, ◌&&◌, leb, length, take, drop, get_or, refl, sym, ap, ap₂, ◌∙◌, arith, length-take, add-one, drop-cons, drop_of_length-le}
use borrow.Author.Tests.{le-leb, lt-leb}
use mathlib.Core.Bool.{and-false}
use Rattle.t800.specs.declared.Band.{Band}
use Rattle.t800.specs.Ranges.{bands_in_range, bands_in_range_with}
use Rattle.t800.specs.State.{band_length, band_nodes, blocks_in, end_of, state_length}
use Rattle.t800_laws.proofs.Laws.Layout.{band_length_lem, end_after}
use Rattle.t800_laws.proofs.Laws.Tests.{if-true, if-false}
use Rattle.tcd_laws.proofs.Laws.Bands.{band_length_up_to, sides_of}
use Rattle.tcd_laws.specs.Geometry.{AllUpTo64, no_band}
use Rattle.tcd_state.proofs.Laws.RangeParts.{bands-turn}
use Rattle.tcd_state.proofs.bands_in_range.Goals as goal

-- ---- what was found of the bands

module _ (ws : List ℕ) (bs : List Band) where
  abbrev asked : ℕ
  asked = state_length bs

  not-all-there : length ws < asked → None ≡ cond (leb asked (length ws) && bands_in_range ws 13 bs) (Some asked) None
  not-all-there h = sym (if-false _ (Some asked) None (ap (λ (t : Bool). t && bands_in_range ws 13 bs) (lt-leb asked (length ws) h)))

  out_of_range : false ≡ bands_in_range ws 13 bs → None ≡ cond (leb asked (length ws) && bands_in_range ws 13 bs) (Some asked) None
  out_of_range e =
      sym (if-false _ (Some asked) None (ap (λ (t : Bool). leb asked (length ws) && t) (sym e) ∙ and-false (leb asked (length ws))))

  all-in-range : (at : ℕ) → at ≡ asked → true ≡ bands_in_range ws 13 bs → at ≤ length ws
      → Some at ≡ cond (leb asked (length ws) && bands_in_range ws 13 bs) (Some asked) None
  all-in-range at e r h =
      ap Some e ∙ sym (if-true _ (Some asked) None
      (ap₂ (λ (t u : Bool). t && u) (le-leb asked (length ws) (omega (arith, e, h))) (sym r)))

-- ---- the band at an index

module _ (bs : List Band) (i : ℕ) (h : i < length bs) where
  abbrev band : Band
  band = get_or bs i no_band

  next : drop i bs ≡ band ∷ drop (i + 1) bs
  next = rw (add-one, drop-cons bs i no_band h)

  up_to : AllUpTo64 bs → band_length band ≤ 188416
  up_to s = band_length_up_to band (sides_of bs i h s)

  further : (at : ℕ) → end_of (at + band_length band) (drop (i + 1) bs) ≡ end_of at (drop i bs)
  unfolding end_of
  further at = sym (ap (end_of at) next)

pub loop-band-init : goal.loop-band-init
unfolding state_length
loop-band-init c = record { few = omega arith; ranges = refl; total = refl; there = c.requires.2 }

words : (nodes blocks : ℕ) (b : Band) → nodes ≡ band_nodes b → blocks ≡ blocks_in b → 6 * nodes + 4 * blocks ≡ band_length b
words nodes blocks b n m = omega (arith, band_length_lem b)

pub overflow_mul-end : goal.overflow_mul-end
overflow_mul-end c =
    let bs : List Band = take c.args.n c.args.bands in
    omega (arith, up_to bs c.loop-band.band-index c.loop-band-test.true c.requires.1, words _ _ _ c.band_nodes-nodes.ensures c.band_blocks-blocks.ensures)

pub overflow_add-end : goal.overflow_add-end
overflow_add-end c =
    let bs : List Band = take c.args.n c.args.bands in
    omega (arith, length-take c.args.n c.args.bands, up_to bs c.loop-band.band-index c.loop-band-test.true c.requires.1, words _ _ _ c.band_nodes-nodes.ensures c.band_blocks-blocks.ensures)

pub overflow_mul-end-in-loop-band : goal.overflow_mul-end-in-loop-band
overflow_mul-end-in-loop-band c =
    let bs : List Band = take c.args.n c.args.bands in
    omega (arith, up_to bs c.loop-band.band-index c.loop-band-test.true c.requires.1, words _ _ _ c.band_nodes-nodes.ensures c.band_blocks-blocks.ensures)

pub overflow_add-end-in-loop-band : goal.overflow_add-end-in-loop-band
overflow_add-end-in-loop-band c =
    let bs : List Band = take c.args.n c.args.bands in
    omega (arith, length-take c.args.n c.args.bands, up_to bs c.loop-band.band-index c.loop-band-test.true c.requires.1, words _ _ _ c.band_nodes-nodes.ensures c.band_blocks-blocks.ensures)

pub returns-then-states-end : goal.returns-then-states-end
returns-then-states-end c =
    let l = c.loop-band in
    let bs : List Band = take c.args.n c.args.bands in
    let b : Band = get_or bs l.band-index no_band in
    not-all-there c.args.states.now bs
    (omega (
      arith,
      words _ _ _ c.band_nodes-nodes.ensures c.band_blocks-blocks.ensures,
      further bs l.band-index c.loop-band-test.true l.at,
      end_after (l.at + band_length b) (drop (l.band-index + 1) bs),
      l.invariant.total,
    ))

pub band_in_range-requires : goal.band_in_range-requires
band_in_range-requires c =
    (c.band_nodes-nodes.ensures, omega (arith, words _ _ _ c.band_nodes-nodes.ensures c.band_blocks-blocks.ensures))

pub returns-then-not-band_in_range : goal.returns-then-not-band_in_range
returns-then-not-band_in_range c =
    let l = c.loop-band in
    let bs : List Band = take c.args.n c.args.bands in
    out_of_range c.args.states.now bs
    (bands-turn c.args.states.now l.at _ _ _ false (next bs l.band-index c.loop-band-test.true)
    (sym c.if-not-band_in_range.true ∙ c.band_in_range.ensures) ∙ l.invariant.ranges)

pub loop-band-preserved : goal.loop-band-preserved
loop-band-preserved c =
    let l = c.loop-band in
    let bs : List Band = take c.args.n c.args.bands in
    let b : Band = get_or bs l.band-index no_band in
    let rest : List Band = drop (l.band-index + 1) bs in
    let k : l.at + 6 * c.band_nodes-nodes.result + 4 * c.band_blocks-blocks.result ≡ l.at + band_length b =
    omega (arith, words _ _ _ c.band_nodes-nodes.ensures c.band_blocks-blocks.ensures) in
    record {
      few = omega (arith, k, up_to bs l.band-index c.loop-band-test.true c.requires.1);
      ranges = ap (λ (z : ℕ). bands_in_range c.args.states.now z rest) k
          ∙ bands-turn c.args.states.now l.at _ _ _ true (next bs l.band-index c.loop-band-test.true)
          (sym c.if-not-band_in_range.false ∙ c.band_in_range.ensures) ∙ l.invariant.ranges;
      total = ap (λ (z : ℕ). end_of z rest) k ∙ further bs l.band-index c.loop-band-test.true l.at ∙ l.invariant.total;
      there = c.if-states-end.false;
    }

pub returns : goal.returns
unfolding bands_in_range_with end_of
returns c =
    let l = c.loop-band in
    let bs : List Band = take c.args.n c.args.bands in
    let z = drop_of_length-le bs {i = l.band-index} c.loop-band-test.false in
    all-in-range c.args.states.now bs l.at (rw z at l.invariant.total) (rw z at l.invariant.ranges) l.invariant.there
