-- Parts of the range check of a state (refusal 5): its first words, and the faults that loops gather.
use Rattle.std.specs.Prelude.{ℕ, Bool, cond, ◌&&◌, not, List, [], ◌∷◌, leb, eqb}
use Rattle.t800.specs.declared.Band.{Band}
use Rattle.t800.specs.State.{not_yet_included, role, band_count, style, layer, bands, band_at}
use Rattle.t800.specs.Ranges.{bad_shape, bad_style, band_too_deep, unused_bands_zero}

-- a loop's fault: 0 as long as the test holds
abbrev pub fault : Bool → ℕ
fault t = cond t 0 1

-- the three bands that a state's words name, used or not
abbrev pub three_bands : List ℕ → List Band
three_bands ws = band_at ws 0 ∷ band_at ws 1 ∷ band_at ws 2 ∷ []

-- role, band count and sides
unfoldable pub shape_in_range : ℕ → List ℕ → Bool
shape_in_range r ws = eqb (role ws) r && not (bad_shape (band_count ws) (bands ws))

-- the thirteen words before the first band's
unfoldable pub first_words_in_range : ℕ → List ℕ → Bool
first_words_in_range r ws =
    shape_in_range r ws
    && not (bad_style (style ws))
    && leb (layer ws) not_yet_included
    && not (band_too_deep (bands ws))
    && unused_bands_zero ws
