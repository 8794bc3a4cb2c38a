-- What a writer's state that refusal 5 lets pass says of its bands.
use mathlib.Core.Path.{◌≡◌, sym, ap, ◌∙◌, subst}
use mathlib.Core.Bool.{true}
use mathlib.Core.List.{List}
use Prim.Native.Nat.{ℕ, ◌≤◌}
use native.Mathlib.Omega.{arith}
use lib.ListN.{length, take}
use Rattle.t800.specs.declared.Band.{Band}
use Rattle.t800.specs.State.{writer, band_count, bands, state_length}
use Rattle.t800.specs.Ranges.{valid_state}
use Rattle.tcd_laws.specs.Geometry.{AllUpTo64}
use Rattle.tcd_laws.specs.Parts.{three_bands}
use Rattle.tcd_laws.proofs.Laws.FirstWords.{first_bands}
use Rattle.tcd_laws.proofs.Laws.ValidStates.{valid_state_lem, long_enough}

module _ (ws : List ℕ) (k : ℕ) (valid : valid_state writer ws k ≡ true) where
  pub first_words_lem : 13 ≤ length ws
  first_words_lem = long_enough writer ws k valid

  pub scratch_as_long : valid_state writer ws (length ws) ≡ true
  scratch_as_long = subst (λ (z : ℕ). valid_state writer ws z ≡ true) (valid_state_lem writer ws k valid).scratch_is valid

  module _ (n : ℕ) (bs : List Band) (count : n ≡ band_count ws) (three : bs ≡ three_bands ws) where
    pub bands-are : take n bs ≡ bands ws
    bands-are = first_bands ws n bs count three

    pub sides_are : (n ≤ 3) × AllUpTo64 (take n bs)
    sides_are = (
      omega (arith, (valid_state_lem writer ws k valid).three_bands_lem),
      subst AllUpTo64 (sym bands-are) (valid_state_lem writer ws k valid).sides,
    )

    pub length-is : length ws ≡ state_length (take n bs)
    length-is = (valid_state_lem writer ws k valid).length-is ∙ ap state_length (sym bands-are)
