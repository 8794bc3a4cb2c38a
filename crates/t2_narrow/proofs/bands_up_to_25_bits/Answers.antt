use Prim.Native.Nat.{ℕ, ◌+◌, ◌*◌, ◌≤◌, ◌<◌}
use lib.ListN.{drop, get_or, length, take}
use mathlib.Core.Bool.{false, true}
use mathlib.Core.List.{List}
use mathlib.Core.Path.{◌∙◌, ◌≡◌, ap, refl, sym}
use native.Mathlib.Omega.{arith}
use Rattle.std.proofs.lemmas.List.{at_drop_all, at_drop_more, drop_more}
use Rattle.t800_laws.proofs.Laws.Layout.{band_length_lem, end_after}
use Rattle.t800.specs.State.{band_length, band_nodes, blocks_in, end_of, state_length}
use Rattle.t800.specs.declared.Band.{Band}
use Rattle.tcd_laws.specs.Geometry.{no_band}
use Rattle.t2_narrow.specs.Narrow.{bits_up_to25}
use Rattle.t2_narrow.proofs.Laws.FewBytes.{bits_turn}
use Rattle.t2_narrow.proofs.bands_up_to_25_bits.Goals as goal
use Rattle.t2_narrow.proofs.bands_up_to_25_bits.Goals.{After-band_blocks-size}

-- band i lies in a list of so many words

inside : (bs : List Band) (i at size : ℕ) → i < length bs → end_of at (drop i bs) ≡ size
    → at + 6 * band_nodes (get_or bs i no_band) + 4 * blocks_in (get_or bs i no_band) ≤ size
unfolding end_of
inside bs i at size k e =
    let b : Band = get_or bs i no_band in
    omega (
      arith,
      band_length_lem b,
      at_drop_more (end_of at) bs i no_band k,
      end_after (at + band_length b) (drop (i + 1) bs),
      e,
    )

words_left : (c : After-band_blocks-size)
    → c.loop-band.at + 6 * c.band_nodes.result + 4 * c.band_blocks-size.result ≤ length c.args.state.now
words_left c =
    let l = c.loop-band in
    omega (
      arith,
      c.band_nodes.ensures,
      c.band_blocks-size.ensures,
      inside (take c.args.n c.args.bands) l.band-index l.at (length c.args.state.now) c.loop-band-test.true l.invariant.1,
    )

pub loop-band-init : goal.loop-band-init
unfolding state_length
loop-band-init c = (refl, sym c.requires.2)

pub overflow_mul-first : goal.overflow_mul-first
overflow_mul-first c =
    let l = c.loop-band in
    omega (
      arith,
      c.band_nodes.ensures,
      inside (take c.args.n c.args.bands) l.band-index l.at (length c.args.state.now) c.loop-band-test.true l.invariant.1,
    )

pub overflow_add-first : goal.overflow_add-first
overflow_add-first c =
    let l = c.loop-band in
    omega (
      arith,
      c.band_nodes.ensures,
      inside (take c.args.n c.args.bands) l.band-index l.at (length c.args.state.now) c.loop-band-test.true l.invariant.1,
    )

pub blocks_up_to_25_bits-requires : goal.blocks_up_to_25_bits-requires
blocks_up_to_25_bits-requires c = words_left (goal.at.blocks_up_to_25_bits-requires c).After-band_blocks-size

pub returns-then-not-blocks_up_to_25_bits : goal.returns-then-not-blocks_up_to_25_bits
returns-then-not-blocks_up_to_25_bits c =
    let l = c.loop-band in
    bits_turn c.args.state.now l.at _ _ _ _ _ false
    (drop_more (take c.args.n c.args.bands) l.band-index no_band c.loop-band-test.true)
    (ap (λ (k : ℕ). l.at + 6 * k) c.band_nodes.ensures) c.band_blocks-size.ensures
    (sym c.if-not-blocks_up_to_25_bits.true ∙ c.blocks_up_to_25_bits.ensures) ∙ l.invariant.0

pub overflow_mul-at : goal.overflow_mul-at
overflow_mul-at c = omega (arith, words_left (goal.at.overflow_mul-at c).After-band_blocks-size)

pub overflow_add-at : goal.overflow_add-at
overflow_add-at c = omega (arith, words_left (goal.at.overflow_add-at c).After-band_blocks-size)

pub loop-band-preserved : goal.loop-band-preserved
unfolding end_of
loop-band-preserved c =
    let l = c.loop-band in
    let bs : List Band = take c.args.n c.args.bands in
    let b : Band = get_or bs l.band-index no_band in
    let k : l.at + 6 * c.band_nodes.result + 4 * c.band_blocks-size.result ≡ l.at + band_length b =
    omega (arith, c.band_nodes.ensures, c.band_blocks-size.ensures, band_length_lem b) in (
      bits_turn c.args.state.now l.at _ _ _ _ _ true
          (drop_more bs l.band-index no_band c.loop-band-test.true)
          (ap (λ (k : ℕ). l.at + 6 * k) c.band_nodes.ensures) c.band_blocks-size.ensures
          (sym c.if-not-blocks_up_to_25_bits.false ∙ c.blocks_up_to_25_bits.ensures)
          ∙ l.invariant.0,
      ap (λ (z : ℕ). end_of z (drop (l.band-index + 1) bs)) k
          ∙ sym (at_drop_more (end_of l.at) bs l.band-index no_band c.loop-band-test.true) ∙ l.invariant.1,
    )

pub returns : goal.returns
unfolding bits_up_to25
returns c =
    let l = c.loop-band in
    sym (at_drop_all (bits_up_to25 c.args.state.now l.at) (take c.args.n c.args.bands) l.band-index c.loop-band-test.false)
    ∙ l.invariant.0
