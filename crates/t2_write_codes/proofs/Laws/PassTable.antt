-- From the one test of the table to the codeword at each place.
use mathlib.Core.Path.{◌≡◌, refl, ap₂, subst}
use mathlib.Core.List.{List, [], ◌∷◌}
use Prim.Native.Nat.{ℕ, ◌+◌, ◌-◌, ◌≤◌}
use native.Mathlib.Omega.{arith}
use lib.Dec.{T, eqb, leb, eqb→eq, leb→le}
use lib.ListN.{get_or}
use mir.Facts.{and_yes}
use Rattle.t800.specs.Bits.{bits_of}
use Rattle.t800.specs.PassCount.{pass_bits}
use Rattle.t800_laws.proofs.Laws.Computed.{every-below}
use Rattle.t2_write_codes.specs.PassTable.{same_bits, is_codeword, is_pass_table, IsCodewordOf}

pub same_bits-equal : (xs ys : List ℕ) → T (same_bits xs ys) → xs ≡ ys
unfolding same_bits
same_bits-equal [] [] t = refl
same_bits-equal [] (y ∷ ys) t = absurd t
same_bits-equal (x ∷ xs) [] t = absurd t
same_bits-equal (x ∷ xs) (y ∷ ys) t = let both = and_yes (eqb x y) (same_bits xs ys) t in
    ap₂ ◌∷◌ (eqb→eq x y both.0) (same_bits-equal xs ys both.1)

pub codeword_at : (codes : List ℕ) (n : ℕ) → T (is_pass_table codes) → 1 ≤ n → n ≤ 164
    → IsCodewordOf n (record { value = get_or codes (n - 1) 0; len = get_or codes (n - 1 + 164) 0 })
unfolding is_pass_table is_codeword
codeword_at codes n t l h =
    let place = every-below 164 (is_codeword codes) t (n - 1) (omega arith) in
    let both = and_yes (same_bits (bits_of (get_or codes (n - 1 + 164) 0) (get_or codes (n - 1) 0)) (pass_bits (n - 1 + 1)))
    (leb (get_or codes (n - 1 + 164) 0) 16) place in
    let e : n - 1 + 1 ≡ n = omega arith in
    record {
      bits = subst (λ (m : ℕ). bits_of (get_or codes (n - 1 + 164) 0) (get_or codes (n - 1) 0) ≡ pass_bits m) e (same_bits-equal _ _ both.0);
      short = leb→le _ _ both.1;
    }
