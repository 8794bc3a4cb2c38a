-- The codewords of pass counts as one table (SCOPE S11): the 164 values, then their 164 lengths in bits.
use Rattle.std.specs.Prelude.{◌≡◌, Bool, true, false, ◌&&◌, List, [], ◌∷◌, ℕ, ◌+◌, ◌≤◌, eqb, leb, get_or}
use Rattle.t800.specs.Base.{every}
use Rattle.t800.specs.Bits.{bits_of}
use Rattle.t800.specs.PassCount.{pass_bits}
use Rattle.t2_write_codes.specs.declared.Codeword.{Codeword}

unfoldable pub same_bits : List ℕ → List ℕ → Bool
same_bits [] [] = true
same_bits [] (y ∷ ys) = false
same_bits (x ∷ xs) [] = false
same_bits (x ∷ xs) (y ∷ ys) = eqb x y && same_bits xs ys

-- value and length at place i make the codeword of i + 1 passes
unfoldable pub is_codeword : List ℕ → ℕ → Bool
is_codeword codes i = same_bits (bits_of (get_or codes (i + 164) 0) (get_or codes i 0)) (pass_bits (i + 1)) && leb (get_or codes (i + 164) 0) 16

-- the one test of the table, at each place
unfoldable pub is_pass_table : List ℕ → Bool
is_pass_table codes = every 164 (is_codeword codes)

pub record IsCodewordOf (n : ℕ) (c : Codeword) : Type 0 where
  pub bits : bits_of c.len c.value ≡ pass_bits n
  pub short : c.len ≤ 16
