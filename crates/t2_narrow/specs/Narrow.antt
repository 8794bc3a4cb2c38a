-- What rules refusals 8 and 9 out.
use Rattle.std.specs.Prelude.{ℕ, ◌+◌, ◌*◌, Bool, true, ◌&&◌, List, [], ◌∷◌, leb}
use Rattle.t800.specs.declared.Band.{Band}
use Rattle.t800.specs.Base.{every}
use Rattle.t800.specs.State.{blocks_in, band_nodes, band_length, length_bits}

-- each block's length bits are at most 25, in the bands whose words begin at `at`
unfoldable pub bits_up_to25 : List ℕ → ℕ → List Band → Bool
bits_up_to25 ws at [] = true
bits_up_to25 ws at (b ∷ bs) =
    every (blocks_in b) (λ i. leb (length_bits ws (at + 6 * band_nodes b + 4 * i)) 25) && bits_up_to25 ws (at + band_length b) bs
