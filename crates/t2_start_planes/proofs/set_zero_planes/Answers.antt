use Rattle.std.proofs.Common.{◌≡◌, ◌+◌, ◌*◌, ◌<◌, ◌≤◌, ℕ, List, map, length, take, drop, get_or, refl, sym, ap, ◌∙◌, arith, drop_of_length-le, rules}
use Rattle.t800.specs.declared.Band.{Band}
use Rattle.t800.specs.Base.{sum}
use Rattle.t800.specs.State.{blocks_in, blocks_at, blocks, end_of, state_length}
use Rattle.t800.specs.Start.{set_zero_planes}
use Rattle.tcd_laws.specs.Geometry.{no_band}
use Rattle.tcd_laws.proofs.Laws.Bands.{sides_of, length-blocks}
use Rattle.tcd_laws.proofs.Laws.BlockPlanes.{deep_is}
use Rattle.t2_start_planes.proofs.Laws.Runs.{part_length}
use Rattle.t2_start_planes.proofs.Laws.BlockRows.{band_then, band_ends, band_within}
use Rattle.t2_start_planes.proofs.Laws.ZeroPlanes.{shallow_turn, band_turn}
use Rattle.t2_start_planes.proofs.set_zero_planes.Goals as goal

-- the planes of the band at an index
some_given : (bs : List Band) (i from : ℕ) → i < length bs
    → from + sum (map blocks_in (drop i bs)) ≡ from + blocks_in (get_or bs i no_band) + sum (map blocks_in (drop (i + 1) bs))
unfolding sum
some_given bs i from h =
    let e : sum (map blocks_in (drop i bs)) ≡ blocks_in (get_or bs i no_band) + sum (map blocks_in (drop (i + 1) bs)) =
    ap (λ (l : List Band). sum (map blocks_in l)) (band_then bs i h) in
    omega arith

pub loop-band-init : goal.loop-band-init
unfolding state_length blocks
loop-band-init c =
    let bs : List Band = take c.args.n c.args.bands in
    record {
      same = refl;
      total = sym c.requires.2;
      given = omega (arith, c.requires.3, length-blocks bs);
      shallow = deep_is bs c.args.planes.now ∙ c.requires.4;
      set = refl;
    }

pub slice_bounds-set_band-end : goal.slice_bounds-set_band-end
slice_bounds-set_band-end c =
    let l = c.loop-band in
    let e = some_given (take c.args.n c.args.bands) l.band-index l.from c.loop-band-test.true in
    omega (arith, e, l.invariant.given, c.band_blocks-size.ensures)

pub overflow_add-to : goal.overflow_add-to
overflow_add-to c =
    let l = c.loop-band in
    let e = some_given (take c.args.n c.args.bands) l.band-index l.from c.loop-band-test.true in
    let f : length c.args.planes.now * 4 < 0x1_0000_0000_0000_0000 = search rules in
    omega (arith, e, f, l.invariant.given, c.band_blocks-size.ensures)

pub offset_bounds-planes-from : goal.offset_bounds-planes-from
offset_bounds-planes-from c = omega (arith, slice_bounds-set_band-end c)

pub slice_bounds-set_band-start : goal.slice_bounds-set_band-start
slice_bounds-set_band-start c = omega (arith, slice_bounds-set_band-end c)

pub set_band-requires : goal.set_band-requires
set_band-requires c =
    let l = c.loop-band in
    let bs : List Band = take c.args.n c.args.bands in
    let h = c.loop-band-test.true in
    let q = c.band_blocks-size.ensures in
    let e = some_given bs l.band-index l.from h in
    let to : ℕ = l.from + c.band_blocks-size.result in (
      sides_of bs l.band-index h c.requires.1,
      omega (arith, l.invariant.same, band_within bs l.band-index h l.at _ l.invariant.total),
      part_length c.args.planes.now l.from to (omega arith) (omega (arith, e, q, l.invariant.given)) ∙ omega (arith, q),
      (shallow_turn _ _ _ c.args.planes.now l.from to (band_then bs l.band-index h)
          (ap (λ (m : ℕ). l.from + m) q) l.invariant.shallow).0,
    )

pub band_length-words-requires : goal.band_length-words-requires
band_length-words-requires c = sides_of (take c.args.n c.args.bands) c.loop-band.band-index c.loop-band-test.true c.requires.1

pub overflow_add-at : goal.overflow_add-at
overflow_add-at c =
    let l = c.loop-band in
    let f : length c.args.state.now < 0x1_0000_0000_0000_0000 = search rules in
    omega (
      arith,
      f,
      c.band_length-words.ensures,
      band_within (take c.args.n c.args.bands) l.band-index c.loop-band-test.true l.at _ l.invariant.total,
    )

pub loop-band-preserved : goal.loop-band-preserved
loop-band-preserved c =
    let l = c.loop-band in
    let bs : List Band = take c.args.n c.args.bands in
    let h = c.loop-band-test.true in
    let b : Band = get_or bs l.band-index no_band in
    let e = some_given bs l.band-index l.from h in
    let q = c.band_blocks-size.ensures in
    let to : ℕ = l.from + c.band_blocks-size.result in
    let rest : List Band = drop (l.band-index + 1) bs in
    let next = band_then bs l.band-index h in
    let r : to ≡ l.from + blocks_in b = ap (λ (m : ℕ). l.from + m) q in
    record {
      same = c.set_band.auto.state ∙ l.invariant.same;
      total = ap (λ (z : ℕ). end_of (l.at + z) rest) c.band_length-words.ensures
          ∙ band_ends bs l.band-index h l.at ∙ l.invariant.total;
      given = omega (arith, e, q, l.invariant.given);
      shallow = (shallow_turn _ b rest c.args.planes.now l.from to next r l.invariant.shallow).1;
      set = ap (λ (z : ℕ). set_zero_planes (blocks_at (l.at + z) rest) (drop to c.args.planes.now)
          c.set_band.new.state) c.band_length-words.ensures
          ∙ band_turn _ b rest l.at c.args.planes.now l.state c.set_band.new.state l.from to
          next r c.set_band.ensures
          ∙ l.invariant.set;
    }

pub shape_of-state : goal.shape_of-state
shape_of-state c = c.loop-band.invariant.same

pub returns : goal.returns
unfolding blocks_at set_zero_planes
returns c =
    let l = c.loop-band in
    rw (drop_of_length-le (take c.args.n c.args.bands) {i = l.band-index} c.loop-band-test.false) at l.invariant.set

pub slice_bounds-set_band-count : goal.slice_bounds-set_band-count
slice_bounds-set_band-count c = omega arith
