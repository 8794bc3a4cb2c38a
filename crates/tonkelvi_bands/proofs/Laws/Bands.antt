-- Bands from nine words.
use Prim.Native.Nat.{ℕ}
use mathlib.Core.Bool.{true, false}
use mathlib.Core.Path.{◌≡◌, sym}
use mathlib.Core.Logic.{◌≢◌}
use mathlib.Core.List.{List}
use lib.ListN.{length, take}
use borrow.Author.Tests.{eq-eqb, ne_eqb}
use Rattle.t800.specs.declared.Band.{Band}
use Rattle.t800.specs.State.{state_length}
use Rattle.t800.specs.Ranges.{bad_shape}
use Rattle.t800.specs.Exports.{bands_in, state_length_of}

module _ (n : ℕ) (bands : List ℕ) where
  pub length-unlisted : length bands ≢ 9 → 0 ≡ state_length_of n bands
  unfolding state_length_of
  length-unlisted h = rw (ne_eqb (length bands) 9 h)

  module _ (nine : length bands ≡ 9) (bs : List Band) (are : bs ≡ bands_in bands) where
    pub length-refused : bad_shape n (take n bs) ≡ true → 0 ≡ state_length_of n bands
    unfolding state_length_of
    length-refused e = rw (eq-eqb (length bands) 9 nine, sym are, e)

    pub length-given : bad_shape n (take n bs) ≡ false → state_length (take n bs) ≡ state_length_of n bands
    unfolding state_length_of
    length-given e = rw (eq-eqb (length bands) 9 nine, sym are, e)
