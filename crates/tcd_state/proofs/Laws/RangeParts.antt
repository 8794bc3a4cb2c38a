-- The parts of the range check, as the code reads them, make the definition's.
use mathlib.Core.Path.{◌≡◌, refl, sym, subst}
use mathlib.Core.Bool.{Bool, true, false, not, ◌&&◌}
use mathlib.Core.List.{List, ◌∷◌}
use Prim.Native.Nat.{ℕ, ◌+◌, ◌≤◌}
use native.Mathlib.Omega.{arith}
use lib.ListN.{length, take}
use lib.Dec.{leb, eqb}
use Rattle.t800.specs.declared.Band.{Band}
use Rattle.t800.specs.State.{not_yet_included, band_count, style, layer, bands, band_length, state_length}
use Rattle.t800.specs.Ranges.{bad_style, band_too_deep, band_in_range, bands_in_range, bands_in_range_with, unused_bands_zero, valid_state}
use Rattle.t800.specs.Ranges.{valid_state_with}
use Rattle.t800_laws.proofs.Laws.Tests.{and_left}
use Rattle.tcd_laws.specs.Geometry.{AllUpTo64}
use Rattle.tcd_laws.specs.Parts.{three_bands, shape_in_range, first_words_in_range}
use Rattle.tcd_laws.proofs.Laws.FirstWords.{first_bands, shape_known}

pub bands-turn : (ws : List ℕ) (at : ℕ) (l : List Band) (b : Band) (bs : List Band) (t : Bool) → l ≡ b ∷ bs → t
    ≡ band_in_range ws at b → (t && bands_in_range ws (at + band_length b) bs) ≡ bands_in_range ws at l
unfolding bands_in_range_with
bands-turn ws at l b bs t e h = rw (e, h)

pub first_words_shape : (r : ℕ) (ws : List ℕ) → first_words_in_range r ws ≡ true → shape_in_range r ws ≡ true
unfolding first_words_in_range
first_words_shape r ws e =
    let a : Bool = shape_in_range r ws in
    let b : Bool = not (bad_style (style ws)) in
    let c : Bool = leb (layer ws) not_yet_included in
    let d : Bool = not (band_too_deep (bands ws)) in
    and_left a b (and_left (a && b) c (and_left (a && b && c) d (and_left (a && b && c && d) (unused_bands_zero ws) e)))

pub sides_known : (r : ℕ) (ws : List ℕ) (n : ℕ) (bs : List Band) → first_words_in_range r ws ≡ true → n ≡ band_count ws → bs
    ≡ three_bands ws → (n ≤ 3) × AllUpTo64 (take n bs)
sides_known r ws n bs e p q =
    let k = shape_known r ws (first_words_shape r ws e) in
    (omega (arith, k.1), subst AllUpTo64 (sym (first_bands ws n bs p q)) k.2)

-- ---- the whole state

regroup : (t u v w : Bool) → (t && v && (u && w)) ≡ (t && u && v && w)
regroup true true v w = refl
regroup true false true w = refl
regroup true false false w = refl
regroup false u v w = refl

pub valid_parts : (r : ℕ) (ws : List ℕ) (n : ℕ) (t v w : Bool) → t ≡ first_words_in_range r ws → v ≡ eqb n (length ws) → w
    ≡ (eqb (length ws) (state_length (bands ws)) && bands_in_range ws 13 (bands ws))
    → (t && v && w) ≡ valid_state r ws n
unfolding valid_state_with first_words_in_range shape_in_range
valid_parts r ws n t v w et ev ew =
    rw (et, ev, ew) (regroup (first_words_in_range r ws) (eqb (length ws) (state_length (bands ws))) (eqb n (length ws))
    (bands_in_range ws 13 (bands ws)))
