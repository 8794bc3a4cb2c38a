-- Runs of ones as the code puts them.
use mathlib.Core.Path.{◌≡◌, refl, sym, ap, ◌∙◌}
use mathlib.Core.List.{List, [], ◌∷◌, ◌++◌}
use Prim.Native.Nat.{ℕ, ◌+◌, ◌-◌, ◌*◌, ◌%◌, ◌^◌, ◌≤◌}
use native.Mathlib.Omega.{arith}
use lib.Dec.{T}
use lib.ListN.{replicate, replicate-append-replicate}
use Rattle.t800.specs.Base.{every}
use Rattle.t800.specs.Bits.{bits_of}
use Rattle.t800.specs.Segments.{comma_bits}
use Rattle.t800_laws.proofs.Laws.Computed.{every-below}
use Rattle.t2_write_codes.specs.PassTable.{same_bits}
use Rattle.t2_write_codes.proofs.Laws.PassTable.{same_bits-equal}

append_assoc : (xs ys zs : List ℕ) → (xs ++ ys) ++ zs ≡ xs ++ ys ++ zs
append_assoc [] ys zs = refl
append_assoc (x ∷ xs) ys zs = ap (λ (l : List ℕ). x ∷ l) (append_assoc xs ys zs)

-- thirty ones in front
pub comma_ones : (n : ℕ) → 30 ≤ n → bits_of 30 0x3fff_ffff ++ comma_bits (n - 30) ≡ comma_bits n
unfolding bits_of comma_bits
comma_ones n h =
    let e : 30 + (n - 30) ≡ n = omega arith in
    sym (append_assoc (replicate 30 1) (replicate (n - 30) 1) (0 ∷ []))
    ∙ ap (λ (l : List ℕ). l ++ 0 ∷ []) (replicate-append-replicate 30 (n - 30) 1)
    ∙ ap (λ (m : ℕ). replicate m 1 ++ 0 ∷ []) e

-- all of it as the low bits of one number
computed : T (every 31 (λ n. same_bits (bits_of (n + 1) (2 * 2 ^ n % 4294967296 - 2)) (comma_bits n)))
unfolding every same_bits bits_of comma_bits
computed = tt

pub comma_number : (n : ℕ) → n ≤ 30 → bits_of (n + 1) (2 * 2 ^ n % 4294967296 - 2) ≡ comma_bits n
comma_number n h = same_bits-equal _ _
    (every-below 31 (λ n. same_bits (bits_of (n + 1) (2 * 2 ^ n % 4294967296 - 2)) (comma_bits n)) computed n (omega arith))
