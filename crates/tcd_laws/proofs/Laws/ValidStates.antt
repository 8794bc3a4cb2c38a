-- What a state that refusal 5 lets pass holds: its first words, its length, and bounds on the words of each node and block.
use mathlib.Core.Path.{◌≡◌, refl, ap, ◌∙◌}
use mathlib.Core.Logic.{inl, inr}
use mathlib.Core.Bool.{Bool, true, false, cond, not, ◌&&◌, ◌||◌}
use mathlib.Core.List.{List, [], ◌∷◌}
use Prim.Native.Nat.{ℕ, zero, suc, ◌+◌, ◌*◌, ◌≤◌, ◌<◌}
use native.Mathlib.Omega.{arith}
use lib.ListN.{length}
use lib.Dec.{ltb, leb, eqb}
use borrow.Author.Tests.{not-true, eqb-true, ne_eqb, leb-true, ltb-false}
use Rattle.t800.specs.declared.Band.{Band}
use Rattle.t800.specs.Base.{every}
use Rattle.t800.specs.Segments.{term_all, bypass, first_limit, next_limit, is_limit}
use Rattle.t800.specs.State.{writer, not_yet_included, not_yet_planes, role, band_count, style, layer, bands, blocks, band_nodes, blocks_in}
use Rattle.t800.specs.State.{band_length, state_length, end_of, passes_so_far, length_bits, segment_limit, segment_passes}
use Rattle.t800.specs.Ranges.{bad_shape, bad_style, band_too_deep, node_in_range, block_in_range, band_in_range, band_in_range_with, bands_in_range}
use Rattle.t800.specs.Ranges.{bands_in_range_with}
use Rattle.t800.specs.Ranges.{unused_bands_zero, valid_state, valid_state_with}
use Rattle.t800_laws.proofs.Laws.Tests.{on-eq, and_left, and_right}
use Rattle.t800_laws.proofs.Laws.Layout.{BlockFrom, end_after}
use Rattle.tcd_laws.specs.Geometry.{AllUpTo64}
use Rattle.tcd_laws.specs.Parts.{three_bands, shape_in_range}
use Rattle.tcd_laws.proofs.Laws.Bands.{blocks-up_to_12288}
use Rattle.tcd_laws.proofs.Laws.FirstWords.{shape_known}

-- ---- the first words and the length

pub record ValidState (r : ℕ) (ws : List ℕ) (n : ℕ) : Type 0 where
  pub role-is : role ws ≡ r
  pub some_band : 1 ≤ band_count ws
  pub three_bands_lem : band_count ws ≤ 3
  pub sides : AllUpTo64 (bands ws)
  pub style-up_to : style ws ≤ 63
  pub layer-up_to : layer ws ≤ not_yet_included
  pub depth : band_too_deep (bands ws) ≡ false
  pub unused : unused_bands_zero ws ≡ true
  pub length-is : length ws ≡ state_length (bands ws)
  pub scratch_is : n ≡ length ws
  pub ranges : bands_in_range ws 13 (bands ws) ≡ true

both : (a b : Bool) → (a && b) ≡ true → (a ≡ true) × (b ≡ true)
both a b e = (and_left a b e, and_right a b e)

pub valid_state_lem : (r : ℕ) (ws : List ℕ) (n : ℕ) → valid_state r ws n ≡ true → ValidState r ws n
unfolding valid_state_with bad_style shape_in_range
valid_state_lem r ws n v =
    let shape : Bool = eqb (role ws) r && not (bad_shape (band_count ws) (bands ws)) in
    let style' : Bool = not (ltb 63 (style ws)) in
    let layer' : Bool = leb (layer ws) not_yet_included in
    let depth' : Bool = not (band_too_deep (bands ws)) in
    let unused' : Bool = unused_bands_zero ws in
    let length' : Bool = eqb (length ws) (state_length (bands ws)) in
    let scratch' : Bool = eqb n (length ws) in
    let e₈ = both (shape && style' && layer' && depth' && unused' && length' && scratch') (bands_in_range ws 13 (bands ws)) v in
    let e₇ = both (shape && style' && layer' && depth' && unused' && length') scratch' e₈.0 in
    let e₆ = both (shape && style' && layer' && depth' && unused') length' e₇.0 in
    let e₅ = both (shape && style' && layer' && depth') unused' e₆.0 in
    let e₄ = both (shape && style' && layer') depth' e₅.0 in
    let e₃ = both (shape && style') layer' e₄.0 in
    let e₂ = both shape style' e₃.0 in
    let e₁ = shape_known r ws e₂.0 in
    record {
      role-is = eqb-true (role ws) r (and_left (eqb (role ws) r) (not (bad_shape (band_count ws) (bands ws))) e₂.0);
      some_band = e₁.0;
      three_bands_lem = e₁.1;
      sides = e₁.2;
      style-up_to = ltb-false 63 (style ws) (not-true (ltb 63 (style ws)) e₂.1);
      layer-up_to = leb-true (layer ws) not_yet_included e₃.1;
      depth = not-true (band_too_deep (bands ws)) e₄.1;
      unused = e₅.1;
      length-is = eqb-true (length ws) (state_length (bands ws)) e₆.1;
      scratch_is = eqb-true n (length ws) e₇.1;
      ranges = e₈.1;
    }

-- it is as long as its bands ask for
module _ {r : ℕ} (ws : List ℕ) (n : ℕ) (valid : ValidState r ws n) where
  pub bands-inside : end_of 13 (bands ws) ≤ length ws
  unfolding state_length
  bands-inside = omega (arith, valid.length-is)

  pub thirteen_words : 13 ≤ length ws
  thirteen_words = omega (arith, bands-inside, end_after 13 (bands ws))

pub long_enough : (r : ℕ) (ws : List ℕ) (n : ℕ) → valid_state r ws n ≡ true → 13 ≤ length ws
long_enough r ws n v = thirteen_words ws n (valid_state_lem r ws n v)

pub too_short : (r : ℕ) (ws : List ℕ) (n : ℕ) → length ws < 13 → false ≡ valid_state r ws n
too_short r ws n h = go (valid_state r ws n) refl
  where
    go : (t : Bool) → valid_state r ws n ≡ t → false ≡ t
    go true e = absurd (omega (arith, long_enough r ws n e))
    go false e = refl

pub blocks-of_valid : (r : ℕ) (ws : List ℕ) (n : ℕ) → valid_state r ws n ≡ true → length (blocks (bands ws)) ≤ 12288
unfolding bands
blocks-of_valid r ws n v = let k = valid_state_lem r ws n v in blocks-up_to_12288 (band_count ws) (three_bands ws) k.three_bands_lem k.sides

-- ---- nodes and blocks, wherever they stand

pub every_true : (n : ℕ) (f : ℕ → Bool) → every n f ≡ true → (k : ℕ) → k < n → f k ≡ true
unfolding every
every_true zero f e k h = absurd (omega arith)
every_true (suc n) f e k h =
    on-eq k n (λ q. ap f q ∙ and_left (f n) (every n f) e) (λ q. every_true n f (and_right (f n) (every n f) e) k (omega arith))

-- a band's blocks
band_blocks_known : (ws : List ℕ) (at : ℕ) (b : Band) → band_in_range ws at b ≡ true
    → every (blocks_in b) (λ i. block_in_range ws (at + 6 * band_nodes b + 4 * i)) ≡ true
unfolding band_in_range_with
band_blocks_known ws at b e =
    let i : Bool = every (band_nodes b) (λ i. node_in_range ws not_yet_included (at + 3 * i)) in
    let z : Bool = every (band_nodes b) (λ i. node_in_range ws not_yet_planes (at + 3 * band_nodes b + 3 * i)) in
    and_right (i && z) (every (blocks_in b) (λ i. block_in_range ws (at + 6 * band_nodes b + 4 * i))) e

pub block_known : (ws : List ℕ) (at : ℕ) (bs : List Band) (p : ℕ) → bands_in_range ws at bs ≡ true → BlockFrom at bs p
    → block_in_range ws p ≡ true
unfolding bands_in_range_with
block_known ws at [] p e n = absurd n
block_known ws at (b ∷ bs) p e (inl c) =
    let k = band_blocks_known ws at b (and_left (band_in_range ws at b) (bands_in_range ws (at + band_length b) bs) e) in
    ap (block_in_range ws) c.2 ∙ every_true (blocks_in b) (λ i. block_in_range ws (at + 6 * band_nodes b + 4 * i)) k c.0 c.1
block_known ws at (b ∷ bs) p e (inr n) =
    block_known ws (at + band_length b) bs p (and_right (band_in_range ws at b) (bands_in_range ws (at + band_length b) bs) e) n

-- ---- bounds on their words

pub limit_up_to_109 : (s m : ℕ) → is_limit s m ≡ true → m ≤ 109
unfolding is_limit first_limit next_limit
limit_up_to_109 s m e = go (term_all s) (bypass s) e
  where
    one : (a b c : ℕ) → a ≤ 109 → b ≤ 109 → c ≤ 109 → (eqb m a || eqb m b || eqb m c) ≡ true → m ≤ 109
    one a b c x y z e = on-eq m a (λ q. omega arith)
        (λ q. on-eq m b (λ q. omega arith) (λ r. omega (arith, eqb-true m c (rw (ne_eqb m a q, ne_eqb m b r) at e))))

    go : (t b : Bool) → (eqb m (cond t 1 (cond b 10 109)) || eqb m (cond t 1 (cond b (cond (eqb 2 2) 1 2) 109)) || eqb m
        (cond t 1 (cond b (cond (eqb 1 2) 1 2) 109))) ≡ true → m ≤ 109
    go true b e = one 1 1 1 (omega arith) (omega arith) (omega arith) e
    go false true e = one 10 1 2 (omega arith) (omega arith) (omega arith) e
    go false false e = one 109 109 109 (omega arith) (omega arith) (omega arith) e

pub block_bounds : (ws : List ℕ) (p : ℕ) → block_in_range ws p ≡ true
    → (passes_so_far ws p ≤ 164 * layer ws) × (length_bits ws p ≤ 32) × (segment_passes ws p ≤ segment_limit ws p) × (segment_limit ws p ≤ 109)
unfolding block_in_range writer
block_bounds ws p e =
    let none : Bool = eqb (passes_so_far ws p) 0 in
    let b : ℕ = length_bits ws p in
    let m : ℕ = segment_limit ws p in
    let u : ℕ = segment_passes ws p in
    let passes : Bool = leb (passes_so_far ws p) (164 * layer ws) in
    let bits : Bool = cond none (eqb b 0) (leb 3 b && leb b 32) in
    let segment : Bool = cond (none || eqb (role ws) 1) (eqb m 0 && eqb u 0) (is_limit (style ws) m && leb 1 u && leb u m) in
    let e₂ = both (passes && bits) segment e in
    let e₁ = both passes bits e₂.0 in
    let s = segments (none || eqb (role ws) 1) (style ws) m u e₂.1 in
    (leb-true (passes_so_far ws p) (164 * layer ws) e₁.0, most_bits none b e₁.1, s.0, s.1)
  where
    most_bits : (none : Bool) (b : ℕ) → cond none (eqb b 0) (leb 3 b && leb b 32) ≡ true → b ≤ 32
    most_bits true b e = omega (arith, eqb-true b 0 e)
    most_bits false b e = leb-true b 32 (and_right (leb 3 b) (leb b 32) e)

    segments : (none : Bool) (s m u : ℕ) → cond none (eqb m 0 && eqb u 0) (is_limit s m && leb 1 u && leb u m) ≡ true → (u ≤ m) × (m ≤ 109)
    segments true s m u e = let k = both (eqb m 0) (eqb u 0) e in
        (omega (arith, eqb-true m 0 k.0, eqb-true u 0 k.1), omega (arith, eqb-true m 0 k.0))
    segments false s m u e =
        let k = both (is_limit s m && leb 1 u) (leb u m) e in
        (leb-true u m k.1, limit_up_to_109 s m (and_left (is_limit s m) (leb 1 u) k.0))
