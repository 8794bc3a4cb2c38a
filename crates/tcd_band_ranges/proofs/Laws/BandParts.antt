-- The parts of a band's range check, as the code reads them, make the definition's. Each law takes a Bool for each part, so that a
-- part that
-- is known to fail decides.
use mathlib.Core.Path.{◌≡◌, refl}
use mathlib.Core.Bool.{Bool, true, false, cond, ◌&&◌, ◌||◌}
use mathlib.Core.List.{List}
use Prim.Native.Nat.{ℕ, ◌+◌, ◌*◌}
use native.Mathlib.Omega.{arith}
use lib.ListN.{get_or}
use lib.Dec.{leb, eqb}
use borrow.Author.Tests.{eq-eqb, ne_eqb, le-leb, lt-leb}
use Rattle.t800.specs.declared.Band.{Band}
use Rattle.t800.specs.Base.{every}
use Rattle.t800.specs.Segments.{is_limit}
use Rattle.t800.specs.State.{writer, not_yet_included, not_yet_planes, role, style, layer, band_nodes, blocks_in}
use Rattle.t800.specs.Ranges.{node_in_range, block_in_range, band_in_range, band_in_range_with}
use Rattle.t800_laws.proofs.Laws.Tests.{on-eq}
use Rattle.tcd_band_ranges.specs.declared.Limits.{Limits}
use Rattle.tcd_band_ranges.specs.BlockParts.{LimitsOf, is_one_of, length_bits_in_range, segment_in_range, block_words_in_range}

pub at_most_zero : (n : ℕ) → leb n 0 ≡ eqb n 0
at_most_zero n = on-eq n 0 (λ e. simp (le-leb n 0 (omega arith), eq-eqb n 0 e)) (λ e. simp (lt-leb n 0 (omega arith), ne_eqb n 0 e))

pub length-bits_parts : (p b least most : ℕ) → least ≡ cond (eqb p 0) 0 3 → most ≡ cond (eqb p 0) 0 32 → (leb least b && leb b most)
    ≡ length_bits_in_range p b
unfolding length_bits_in_range
length-bits_parts p b least most x y = rw (x, y) (go (eqb p 0))
  where
    go : (none : Bool) → (leb (cond none 0 3) b && leb b (cond none 0 32)) ≡ cond none (eqb b 0) (leb 3 b && leb b 32)
    go true = rw (le-leb 0 b (omega arith)) (at_most_zero b)
    go false = refl

pub segment-parts : (r : ℕ) (l : Limits) (p m u least : ℕ) (none : Bool) → none ≡ (eqb p 0 || eqb r writer) → least ≡ cond none 0 1
    → (cond none (eqb m 0) (is_one_of l m) && leb least u && leb u m) ≡ segment_in_range r l p m u
unfolding segment_in_range writer
segment-parts r l p m u least none x y = rw (y, ← x) (go none)
  where
    go : (t : Bool) → (cond t (eqb m 0) (is_one_of l m) && leb (cond t 0 1) u && leb u m)
        ≡ cond t (eqb m 0 && eqb u 0) (is_one_of l m && leb 1 u && leb u m)
    go true = on-eq m 0 (λ e. rw (e, le-leb 0 u (omega arith)) (at_most_zero u)) (λ e. simp (ne_eqb m 0 e))
    go false = refl

pub block_words : (ws : List ℕ) (at r s t : ℕ) (l : Limits) → r ≡ role ws → s ≡ style ws → t ≡ layer ws → LimitsOf s l
    → block_words_in_range r l t (get_or ws at 0) (get_or ws (at + 1) 0) (get_or ws (at + 2) 0) (get_or ws (at + 3) 0) ≡ block_in_range ws at
unfolding block_words_in_range block_in_range length_bits_in_range segment_in_range is_one_of is_limit writer
block_words ws at r s t l p q h k = rw (k.first, k.second, k.third, p, q, h)

-- n nodes in each tree, the second's from `zeros` on, and m blocks from `blocks` on
pub band_parts : (ws : List ℕ) (at : ℕ) (b : Band) (n zeros blocks m : ℕ) (t u v : Bool) → n ≡ band_nodes b → zeros ≡ at + 3 * n
    → blocks ≡ zeros + 3 * n → m ≡ blocks_in b
    → t ≡ every n (λ i. node_in_range ws not_yet_included (at + 3 * i))
    → u ≡ every n (λ i. node_in_range ws not_yet_planes (zeros + 3 * i))
    → v ≡ every m (λ i. block_in_range ws (blocks + 4 * i)) → (t && u && v) ≡ band_in_range ws at b
unfolding band_in_range_with
band_parts ws at b n zeros blocks m t u v en ez eb em et eu ev =
    let e₁ : zeros ≡ at + 3 * band_nodes b = omega arith in
    let e₂ : blocks ≡ at + 6 * band_nodes b = omega arith in
    rw (et, eu, ev, e₂, e₁, en, em)
