-- The parts of the first words' range check, as the code reads them, make the definition's.
use mathlib.Core.Path.{◌≡◌, refl}
use mathlib.Core.Bool.{Bool, true, not, ◌&&◌, ◌||◌}
use mathlib.Core.List.{List, [], ◌∷◌}
use Prim.Native.Nat.{ℕ, ◌+◌, ◌*◌, ◌≤◌, ◌<◌}
use native.Mathlib.Omega.{arith}
use lib.ListN.{get_or, take, drop}
use lib.Seq.{get_or-take}
use lib.Dec.{ltb, leb, eqb}
use borrow.Author.Tests.{not-true}
use Rattle.t800.specs.declared.Band.{Band}
use Rattle.t800.specs.Base.{every}
use Rattle.t800.specs.Exports.{band_in, bands_in}
use Rattle.t800.specs.State.{not_yet_included, role, band_count, style, layer, band_at, bands}
use Rattle.t800.specs.Ranges.{bad_shape, bad_style, band_too_deep, unused_bands_zero}
use Rattle.tcd_laws.specs.Geometry.{AllUpTo64}
use Rattle.tcd_laws.proofs.Laws.Bands.{shape_not_refused}
use Rattle.tcd_laws.specs.Parts.{three_bands, shape_in_range, first_words_in_range}
use Rattle.t800_laws.proofs.Laws.Tests.{and_right}

-- the nine words after the first four
pub three_bands_lem : (ws : List ℕ) → bands_in (drop 4 ws) ≡ three_bands ws
unfolding band_at band_in
three_bands_lem [] = refl
three_bands_lem (a ∷ []) = refl
three_bands_lem (a ∷ b ∷ []) = refl
three_bands_lem (a ∷ b ∷ c ∷ []) = refl
three_bands_lem (a ∷ b ∷ c ∷ d ∷ ws) = refl

pub first_bands : (ws : List ℕ) (n : ℕ) (bs : List Band) → n ≡ band_count ws → bs ≡ three_bands ws → take n bs ≡ bands ws
unfolding bands
first_bands ws n bs p q = rw (p, q)

pub unused_zero : (ws : List ℕ) (n : ℕ) → n ≡ band_count ws → every 9 (λ i. ltb i (3 * n) || eqb (get_or ws (4 + i) 0) 0) ≡ unused_bands_zero ws
unfolding unused_bands_zero
unused_zero ws n p = rw p

pub shape_parts : (r : ℕ) (ws : List ℕ) (n : ℕ) (bs : List Band) (t u : Bool) → n ≡ band_count ws → bs ≡ three_bands ws → t
    ≡ eqb (role ws) r → u ≡ bad_shape n (take n bs) → (t && not u) ≡ shape_in_range r ws
unfolding shape_in_range
shape_parts r ws n bs t u en eb et eu =
    let e : take n bs ≡ bands ws = first_bands ws n bs en eb in
    rw (et, eu, e, en)

pub first_words_parts : (r : ℕ) (ws : List ℕ) (shape style' layer' deep unused : Bool) → shape ≡ shape_in_range r ws → style'
    ≡ bad_style (style ws) → layer' ≡ leb (layer ws) not_yet_included
    → deep ≡ band_too_deep (bands ws) → unused ≡ unused_bands_zero ws → (shape && not style' && layer' && not deep && unused)
    ≡ first_words_in_range r ws
unfolding first_words_in_range
first_words_parts r ws a b c d e ea eb ec ed ee = rw (ea, eb, ec, ed, ee)

pub shape_known : (r : ℕ) (ws : List ℕ) → shape_in_range r ws ≡ true → (1 ≤ band_count ws) × (band_count ws ≤ 3) × AllUpTo64 (bands ws)
unfolding shape_in_range bands
shape_known r ws e =
    shape_not_refused (band_count ws) (three_bands ws)
    (not-true (bad_shape (band_count ws) (bands ws)) (and_right (eqb (role ws) r) (not (bad_shape (band_count ws) (bands ws))) e))

-- ---- the words in front of a list have its first ones

module _ (ws : List ℕ) (n : ℕ) (h : 13 ≤ n) where
  at : (i : ℕ) → i < 13 → get_or (take n ws) i 0 ≡ get_or ws i 0
  at i l = get_or-take n ws i 0 (omega arith)

  pub bands-in_front : bands (take n ws) ≡ bands ws
  unfolding bands band_at
  bands-in_front =
      rw (
        at 1 (omega arith),
        at 4 (omega arith),
        at 5 (omega arith),
        at 6 (omega arith),
        at 7 (omega arith),
        at 8 (omega arith),
        at 9 (omega arith),
        at 10 (omega arith),
        at 11 (omega arith),
        at 12 (omega arith),
      )

  pub first_words_in_front : (r : ℕ) → first_words_in_range r (take n ws) ≡ first_words_in_range r ws
  unfolding first_words_in_range shape_in_range bands band_at unused_bands_zero every
  first_words_in_front r =
      rw (
        at 0 (omega arith),
        at 1 (omega arith),
        at 2 (omega arith),
        at 3 (omega arith),
        at 4 (omega arith),
        at 5 (omega arith),
        at 6 (omega arith),
        at 7 (omega arith),
        at 8 (omega arith),
        at 9 (omega arith),
        at 10 (omega arith),
        at 11 (omega arith),
        at 12 (omega arith),
      )
