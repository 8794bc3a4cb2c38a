use Prim.Native.Nat.{◌+◌, ◌-◌, ◌≤◌, ◌<◌, ℕ}
use lib.ListN.{length, take, drop, get_or, length-drop}
use mathlib.Core.Bool.{true, false}
use mathlib.Core.List.{List, map}
use mathlib.Core.Path.{◌≡◌, ◌∙◌, ap, refl, sym}
use native.Mathlib.Nat.{le_trans}
use native.Mathlib.Omega.{arith}
use Rattle.std.proofs.lemmas.List.{at_drop_all, at_drop_more, drop_more}
use Rattle.t800.specs.Base.{sum}
use Rattle.t800.specs.State.{blocks, blocks_at, blocks_from, blocks_in, band_length, state_length, end_of}
use Rattle.t800.specs.WriteHeader.{segment_too_long, field_too_wide}
use Rattle.t800.specs.declared.Band.{Band}
use Rattle.t800_laws.proofs.Laws.Layout.{end_after}
use Rattle.t800_laws.proofs.Laws.Sums.{sum-splits}
use Rattle.tcd_laws.specs.Geometry.{no_band}
use Rattle.tcd_laws.proofs.Laws.Bands.{sides_of, length-blocks, blocks-up_to_12288}
use Rattle.t2_widths.specs.Widths.{PassesLeft}
use Rattle.t2_widths.proofs.Laws.Lists.{passes_left_after, of_rests, on_rests, part_length}
use Rattle.t2_widths.proofs.Laws.BlocksLeft.{band_wide_turn, passes_after_band, none_long_after_band, passes_here, no_band_left}
use Rattle.t2_widths.proofs.field_too_wide.Goals as goal
use Rattle.t2_widths.proofs.field_too_wide.Goals.{In-loop-band}

-- band b's blocks, words and passes lie in the lists

abbrev Inside : Band → List ℕ → List ℕ → List ℕ → List ℕ → ℕ → ℕ → ℕ → Type 0
Inside b ws cs ls ms at first from = (first + blocks_in b ≤ length cs) × (at + band_length b ≤ length ws) × (from ≤ length ls)
    × (from ≤ length ms)

inside : (bs : List Band) (i : ℕ) (ws cs ls ms : List ℕ) (at first from : ℕ) → i < length bs
    → end_of at (drop i bs) ≡ length ws
    → first + sum (map blocks_in (drop i bs)) ≡ length cs → from + sum (drop first cs) ≡ sum cs → PassesLeft cs ls ms
    → Inside (get_or bs i no_band) ws cs ls ms at first from
unfolding end_of sum
inside bs i ws cs ls ms at first from k w b f p =
    let q = at_drop_more (λ (ks : List Band). sum (map blocks_in ks)) bs i no_band k in
    let e = at_drop_more (end_of at) bs i no_band k in
    let a = end_after (at + band_length (get_or bs i no_band)) (drop (i + 1) bs) in
    (omega arith, omega arith, omega (arith, p.0), omega (arith, p.0, p.1))

here : (c : In-loop-band)
    → let s = c.args in let l = c.loop-band in
    Inside (get_or (take s.n s.bands) l.band-index no_band) s.state.now s.counts.now s.lengths.now s.marks.now l.at l.first l.from
here c =
    let s = c.args in
    let l = c.loop-band in
    inside (take s.n s.bands) l.band-index s.state.now s.counts.now s.lengths.now s.marks.now l.at l.first l.from
    c.loop-band-test.true l.invariant.0 l.invariant.1 l.invariant.2 c.requires.4

with-length : (a r m b : ℕ) → r ≡ m → a + m ≤ b → a + r ≤ b
with-length a r m b e h = omega arith

room_after : (cs : List ℕ) (first m : ℕ) → first + m ≤ length cs → m ≤ length (drop first cs)
room_after cs first m h = omega (arith, length-drop first cs)

up-to-12288 : (m k : ℕ) → m ≡ k → k ≤ 12288 → m ≤ 4294967296
up-to-12288 m k e h = omega arith

passes-inside : (rest : List ℕ) (m from p all size : ℕ) → p ≡ sum (take m rest) → from + sum rest ≡ all → all ≤ size → from + p ≤ size
passes-inside rest m from p all size e f h = omega (arith, sum-splits m rest)

blocks-left : (first r m rest all size : ℕ) → r ≡ m → all ≡ m + rest → first + all ≡ size → first + r + rest ≡ size
blocks-left first r m rest all size e q h = omega arith

pub loop-band-init : goal.loop-band-init
unfolding state_length blocks
loop-band-init c =
    (sym c.requires.2, omega (arith, length-blocks (take c.args.n c.args.bands), c.requires.3), omega arith, c.requires.5, refl)

pub band_too_wide-requires : goal.band_too_wide-requires
band_too_wide-requires c =
    let a = c.args in
    let l = c.loop-band in
    let b : Band = get_or (take a.n a.bands) l.band-index no_band in
    let h = here (goal.at.band_too_wide-requires c).In-loop-band in
    let r = of_rests (λ (x y z : List ℕ). (blocks_in b ≤ length x) × PassesLeft x y z × (segment_too_long x y z ≡ false))
    a.counts.now a.lengths.now a.marks.now l.first l.from (
      room_after a.counts.now l.first (blocks_in b) h.0,
      passes_left_after a.counts.now a.lengths.now a.marks.now l.first l.from l.invariant.2 c.requires.4,
      l.invariant.3,
    ) in
    (sides_of (take a.n a.bands) l.band-index c.loop-band-test.true c.requires.1, h.1, r.0, r.1, r.2)

pub returns-then-band_too_wide : goal.returns-then-band_too_wide
returns-then-band_too_wide c =
    let a = c.args in
    let l = c.loop-band in
    let b : Band = get_or (take a.n a.bands) l.band-index no_band in
    sym (band_wide_turn a.counts.now a.lengths.now a.marks.now b l.first _ l.from _ refl refl a.state.now l.at _ _ true
    (drop_more (take a.n a.bands) l.band-index no_band c.loop-band-test.true)
    (sym c.if-band_too_wide.true ∙ c.band_too_wide.ensures
    ∙ on_rests (λ (x y z : List ℕ). field_too_wide a.state.now (blocks_from l.at b (blocks_in b) 0) x y z)
    a.counts.now a.lengths.now a.marks.now l.first l.from)) ∙ l.invariant.4

pub overflow_add-next : goal.overflow_add-next
overflow_add-next c =
    let k = with-length c.loop-band.first _ _ _ c.band_blocks.ensures (here (goal.at.overflow_add-next c).In-loop-band).0 in
    omega (arith, k)

pub slice_bounds-total-end : goal.slice_bounds-total-end
slice_bounds-total-end c =
    let a = c.args in
    let l = c.loop-band in
    with-length l.first c.band_blocks.result (blocks_in (get_or (take a.n a.bands) l.band-index no_band)) (length a.counts.now)
    c.band_blocks.ensures (here (goal.at.slice_bounds-total-end c).In-loop-band).0

pub total-requires : goal.total-requires
total-requires c =
    let a = c.args in
    let l = c.loop-band in
    le_trans (part_length a.counts.now (l.first + c.band_blocks.result - l.first) l.first)
    (up-to-12288 _ _ c.requires.3 (blocks-up_to_12288 a.n a.bands c.requires.0 c.requires.1))

pub overflow_add-from : goal.overflow_add-from
overflow_add-from c =
    let a = c.args in
    let l = c.loop-band in
    let b : Band = get_or (take a.n a.bands) l.band-index no_band in
    let p = passes_here a.counts.now b l.first _ _ (ap (λ (z : ℕ). l.first + z) c.band_blocks.ensures) c.total.ensures in
    let k = passes-inside (drop l.first a.counts.now) (blocks_in b) l.from _ _ _ p l.invariant.2 c.requires.4.0 in
    omega (arith, k)

pub overflow_add-at : goal.overflow_add-at
overflow_add-at c =
    let k = with-length c.loop-band.at _ _ _ c.band_length-at.ensures (here (goal.at.overflow_add-at c).In-loop-band).1 in
    omega (arith, k)

pub loop-band-preserved : goal.loop-band-preserved
unfolding end_of sum
loop-band-preserved c =
    let a = c.args in
    let l = c.loop-band in
    let bs : List Band = take a.n a.bands in
    let b : Band = get_or bs l.band-index no_band in
    let q = at_drop_more (λ (ks : List Band). sum (map blocks_in ks)) bs l.band-index no_band c.loop-band-test.true in
    let ls : List ℕ = drop (l.from + c.total.result) a.lengths.now in
    let ms : List ℕ = drop (l.from + c.total.result) a.marks.now in
    let size = ap (λ (z : ℕ). l.first + z) c.band_blocks.ensures in
    let p = passes_here a.counts.now b l.first _ _ size c.total.ensures in
    let rest : List Band = drop (l.band-index + 1) bs in (
      ap (λ (w : ℕ). end_of (l.at + w) rest) c.band_length-at.ensures
          ∙ sym (at_drop_more (end_of l.at) bs l.band-index no_band c.loop-band-test.true) ∙ l.invariant.0,
      blocks-left l.first _ _ _ _ _ c.band_blocks.ensures q l.invariant.1,
      passes_after_band a.counts.now a.lengths.now a.marks.now b l.first _ l.from _ size p l.invariant.2,
      none_long_after_band a.counts.now a.lengths.now a.marks.now b l.first _ l.from _ size p l.invariant.3,
      ap (λ (w : ℕ). field_too_wide a.state.now (blocks_at (l.at + w) rest)
          (drop (l.first + c.band_blocks.result) a.counts.now) ls ms) c.band_length-at.ensures
          ∙ sym (band_wide_turn a.counts.now a.lengths.now a.marks.now b l.first _ l.from _ size p
          a.state.now l.at _ _ false
          (drop_more bs l.band-index no_band c.loop-band-test.true)
          (sym c.if-band_too_wide.false ∙ c.band_too_wide.ensures
          ∙ on_rests (λ (x y z : List ℕ). field_too_wide a.state.now (blocks_from l.at b (blocks_in b) 0) x y z)
          a.counts.now a.lengths.now a.marks.now l.first l.from)) ∙ l.invariant.4,
    )

pub returns : goal.returns
returns c =
    let a = c.args in
    let l = c.loop-band in
    sym (no_band_left a.state.now l.at (drop l.first a.counts.now) (drop l.from a.lengths.now) (drop l.from a.marks.now))
    ∙ sym (at_drop_all (λ (k : List Band). field_too_wide a.state.now (blocks_at l.at k) (drop l.first a.counts.now)
    (drop l.from a.lengths.now) (drop l.from a.marks.now)) (take a.n a.bands) l.band-index c.loop-band-test.false)
    ∙ l.invariant.4
