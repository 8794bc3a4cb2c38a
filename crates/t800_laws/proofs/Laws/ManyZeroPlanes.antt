-- Rows in the form of the table of t800 and too long for it: the threshold of the zero planes is raised a thousand times.
use mathlib.Core.Path.{◌≡◌, refl}
use mathlib.Core.Bool.{true, false}
use mathlib.Core.List.{[], ◌∷◌, ◌++◌}
use Prim.Native.Nat.{ℕ, ◌+◌, ◌-◌, ◌^◌}
use lib.ListN.{replicate}
use Rattle.t800.proofs.Table.{Row, loads-reader, reads, row_holds}

-- one block, whose zero-plane node has this low, and one byte: so many bits past its end, and the length of one pass
abbrev one_byte : (low byte past bytes : ℕ) → Row
one_byte low byte past bytes =
    record {
      given = record { across = 1; down = 1; planes = 5 } ∷ [];
      planes = 5 ∷ [];
      style = 0;
      steps =
          loads-reader (2 ∷ 1 ∷ 0 ∷ 0 ∷ 1 ∷ 1 ∷ 5 ∷ replicate 9 0 ++ 999 ∷ low ∷ 0 ∷ replicate 4 0)
          ∷ reads (record { markers = record { sop = false; eph = false }; input = byte ∷ []; scratch = 23; reports = 4; records = 4 })
          (0 ∷ 1 ∷ 1 ∷ 1 ∷ 0 ∷ 0 ∷ past ∷ []) (1 ∷ 999 ∷ (2 ^ 32 + 5 - 999) ∷ 1 ∷ []) (0 ∷ 1 ∷ 1 ∷ bytes ∷ [])
          ∷ [];
    }

-- from low 997 two bits 0 and no 1 are 999 zero planes
pub many_zero_planes : row_holds (one_byte 997 0x85 0 5) ≡ true
unfolding row_holds
many_zero_planes = refl

-- from low 0 they are 999 bits, of which a byte that has the first bit holds seven; five more tell one pass of no bytes
pub many_bits_past : row_holds (one_byte 0 0x80 997 0) ≡ true
unfolding row_holds
many_bits_past = refl
