use mathlib.Core.Path.{◌≡◌, refl, sym, ap, ◌∙◌, subst}
use mathlib.Core.List.{List, [], ◌∷◌}
use Prim.Native.Nat.{ℕ, ◌+◌, ◌*◌, ◌<◌, ◌^◌}
use native.Mathlib.Numerals.{add-one}
use native.Mathlib.Omega.{arith}
use lib.ListN.{length, get_or, take, drop, length-take}
use lib.Seq.{drop-cons, get_or-take}
use borrow.Author.Rules.{rules}
use Rattle.std.proofs.lemmas.List.{length_push}
use Rattle.std.proofs.lemmas.Slice.Zip.{zip_turn, zip_end}
use Rattle.t800.specs.declared.Band.{Band}
use Rattle.t800.specs.declared.Level.{Level}
use Rattle.t800.specs.TagTree.{levels}
use Rattle.t800.specs.State.{band_length, blocks_at, blocks, end_of, state_length}
use Rattle.t800_laws.proofs.Laws.Layout.{end_after}
use Rattle.tcd_laws.specs.Geometry.{no_band, padded, SidesUpTo64}
use Rattle.tcd_laws.proofs.Laws.Bands.{no_more_bands, sides_of, band_levels_at}
use Rattle.t2_write_block.specs.Runs.{running, AllFit}
use Rattle.tcd_places.specs.declared.Grid.{Grid}
use Rattle.t2_write_bands.specs.Bands.{code_band, code_bands}
use Rattle.tcd_places.specs.Places.{BandIn, band_blocks, grid_of}
use Rattle.t2_write_bands.proofs.Laws.AllBands.{first_band_fits, other_bands_fit, blocks-of_first, band_clear, band_blocks_lem}
use Rattle.t2_write_bands.proofs.Laws.AllBands.{bands-turn, bands-coded}
use Rattle.t2_write_bands.proofs.code_bands.Goals as goal
use Rattle.t2_write_bands.proofs.code_bands.Goals.{In-Some}

-- ---- the band in turn, which is the next of those left

abbrev left : In-Some → List Band
left c = drop (length c.loop-band.yielded + 1) (take c.args.n c.args.bands)

turn : (c : In-Some) →
    let i = length c.loop-band.yielded in
    (i < length (take c.args.n c.args.bands)) × (i < length c.band_levels-trees.result)
    × ((d : Band) → c.in-Some.band.now ≡ get_or (take c.args.n c.args.bands) i d)
    × ((d : List Level) → c.in-Some.tree.now ≡ get_or c.band_levels-trees.result i d)
turn c = zip_turn (take c.args.n c.args.bands) c.band_levels-trees.result c.loop-band.yielded c.into_iter-band-iterator.result _
    c.next.new.self _ (search rules) (search rules) c.loop-band.yielded_by _ c.in-Some.is c.next.ensures.steps

next : (c : In-Some) → drop (length c.loop-band.yielded) (take c.args.n c.args.bands) ≡ c.in-Some.band.now ∷ left c
next c =
    let t = turn c in
    rw (add-one, drop-cons (take c.args.n c.args.bands) (length c.loop-band.yielded) no_band t.0, t.2 no_band)

sides : (c : In-Some) → SidesUpTo64 c.in-Some.band.now
sides c =
    let t = turn c in
    subst SidesUpTo64 (sym (t.2 no_band)) (sides_of (take c.args.n c.args.bands) _ t.0 c.requires.2)

tree_levels : (c : In-Some) → c.in-Some.tree.now ≡ padded (levels c.in-Some.band.now.across c.in-Some.band.now.down)
tree_levels c =
    let a = c.args in
    let i : ℕ = length c.loop-band.yielded in
    let t = turn c in
    let three : length a.bands ≡ 3 = search rules in
    let k : i < a.n = omega (arith, t.0, length-take a.n a.bands) in
    let same : get_or a.bands i no_band ≡ c.in-Some.band.now = sym (t.2 no_band ∙ get_or-take a.n a.bands i no_band k) in
    t.3 [] ∙ ap (λ (z : List (List Level)). get_or z i []) c.band_levels-trees.ensures
    ∙ band_levels_at a.bands i (omega (arith, t.0, length-take a.n a.bands))
    ∙ ap (λ (b : Band). padded (levels b.across b.down)) same

still_fit : (c : In-Some) →
    let l = c.loop-band in
    AllFit c.args.by.now.counts.now c.args.by.now.lengths.now c.args.by.now.marks.now l.words (blocks_at l.start (c.in-Some.band.now ∷ left c))
    l.run.block l.run.pass
still_fit c =
    let a = c.args in
    let l = c.loop-band in
    subst (λ (z : List Band). AllFit a.by.now.counts.now a.by.now.lengths.now a.by.now.marks.now l.words (blocks_at l.start z) l.run.block
    l.run.pass) (next c) l.invariant.5

still_counted : (c : In-Some) → c.loop-band.run.block + length (blocks_at c.loop-band.start (c.in-Some.band.now ∷ left c))
    ≡ length c.args.by.now.counts.now
still_counted c =
    let l = c.loop-band in
    subst (λ (z : List Band). l.run.block + length (blocks_at l.start z) ≡ length c.args.by.now.counts.now) (next c) l.invariant.4

ends : (c : In-Some) → end_of (c.loop-band.start + band_length c.in-Some.band.now) (left c) ≡ length c.args.words.now
unfolding end_of
ends c =
    let l = c.loop-band in
    sym (ap (end_of l.start) (next c)) ∙ l.invariant.3

pub loop-band-init : goal.loop-band-init
unfolding blocks state_length
loop-band-init c =
    let s = c in
    (s.requires.0, refl, refl, sym s.requires.3, omega (arith, s.requires.4), s.requires.5, refl)

pub grid_of-g-requires : goal.grid_of-g-requires
grid_of-g-requires c = sides (goal.at.grid_of-g-requires c).In-Some

pub code_band-run-requires : goal.code_band-run-requires
code_band-run-requires c =
    let a = c.args in
    let l = c.loop-band in
    let here = (goal.at.code_band-run-requires c).In-Some in
    let band : Band = c.in-Some.band.now in
    let ge = c.grid_of-g.ensures in (
      l.invariant.0,
      subst (λ (k : Grid). BandIn (length l.words) k.start band) (sym ge) (record {
        sides = sides here;
        inside = omega (arith, l.invariant.1, ends here, end_after (l.start + band_length band) (left here));
      }),
      subst (λ (k : Grid). k ≡ grid_of k.start band) (sym ge) refl,
      tree_levels here,
      omega (arith, blocks-of_first l.start band (left here), still_counted here),
      subst (λ (k : Grid). AllFit a.by.now.counts.now a.by.now.lengths.now a.by.now.marks.now l.words (band_blocks k.start band)
          l.run.block l.run.pass) (sym ge)
          (first_band_fits l.start band a.by.now.layer a.by.now.counts.now a.by.now.lengths.now a.by.now.marks.now (left here)
          (running l.words l.out l.run) (still_fit here)),
    )

pub grid_end-start-requires : goal.grid_end-start-requires
grid_end-start-requires c =
    let a = c.args in
    let l = c.loop-band in
    let here = (goal.at.grid_end-start-requires c).In-Some in
    let w : length a.words.now * 4 < 2 ^ 64 = search rules in
    let band : Band = c.in-Some.band.now in
    subst (λ (k : Grid). SidesUpTo64 band × (k ≡ grid_of k.start band) × (k.start < 2 ^ 63)) (sym c.grid_of-g.ensures)
    (sides here, refl, omega (arith, ends here, end_after (l.start + band_length band) (left here)))

pub loop-band-preserved : goal.loop-band-preserved
loop-band-preserved c =
    let a = c.args in
    let l = c.loop-band in
    let k = c.code_band-run in
    let ge = c.grid_of-g.ensures in
    let here = (goal.at.loop-band-preserved c).In-Some in
    let band : Band = c.in-Some.band.now in
    let rest : List Band = left here in
    let u = running l.words l.out l.run in
    let st : ℕ = l.start + band_length band in
    let ke = k.ensures ∙ ap (λ (z : Grid). code_band a.by.now.layer a.by.now.counts.now a.by.now.lengths.now a.by.now.marks.now z.start band u) ge in
    let p : c.grid_end-start.result ≡ st = c.grid_end-start.ensures ∙ ap (λ (z : Grid). z.start + band_length band) ge in
    rw (length_push l.yielded (c.in-Some.band, c.in-Some.tree)) (
      band_clear a.by.now.layer a.by.now.counts.now a.by.now.lengths.now a.by.now.marks.now l.start band u _ ke l.invariant.0,
      k.auto.words ∙ l.invariant.1,
      k.auto.out ∙ l.invariant.2,
      ap (λ (z : ℕ). end_of z rest) p ∙ ends here,
      ap (λ (z : ℕ). k.result.block + length (blocks_at z rest)) p
          ∙ omega (
            arith,
            band_blocks_lem a.by.now.layer a.by.now.counts.now a.by.now.lengths.now a.by.now.marks.now l.start band u _ ke,
            blocks-of_first l.start band rest,
            still_counted here,
          ),
      other_bands_fit l.start band a.by.now.layer a.by.now.counts.now a.by.now.lengths.now a.by.now.marks.now rest u (still_fit here) _ _ p ke,
      bands-turn a.by.now.layer a.by.now.counts.now a.by.now.lengths.now a.by.now.marks.now l.start band _ rest _ u _ (next here) p ke ∙ l.invariant.6,
    )

pub returns : goal.returns
unfolding code_bands state_length
returns c =
    let a = c.args in
    let l = c.loop-band in
    let u = running l.words l.out l.run in
    let three : length a.bands ≡ 3 = search rules in
    let trees : length c.band_levels-trees.result ≡ 3 = search rules in
    let all : length l.yielded ≡ _ = zip_end (take a.n a.bands) c.band_levels-trees.result l.yielded c.into_iter-band-iterator.result _
    c.next.new.self _ (search rules) (search rules) l.yielded_by c.in-None.is c.next.ensures.steps in
    let e : code_bands a.by.now.layer a.by.now.counts.now a.by.now.lengths.now a.by.now.marks.now l.start (drop (length l.yielded) (take a.n a.bands)) u
    ≡ u = ap (λ (z : List Band). code_bands a.by.now.layer a.by.now.counts.now a.by.now.lengths.now a.by.now.marks.now l.start z u)
    (no_more_bands a.bands a.n (length l.yielded) (omega (arith, all, length-take a.n a.bands, c.requires.1, trees))) in
    bands-coded a.by.now.layer a.by.now.counts.now a.by.now.lengths.now a.by.now.marks.now a.words.now a.out.now a.b
    (take a.n a.bands) u (sym e ∙ l.invariant.6) (omega (arith, c.requires.3)) (omega (arith, c.requires.4))
