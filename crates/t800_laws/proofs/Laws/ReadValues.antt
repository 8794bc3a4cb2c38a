-- How large the numbers are that a header's bits give, and which bounds on a run of ones give the same.
use mathlib.Core.Path.{◌≡◌, refl, ap, ◌∙◌}
use mathlib.Core.Bool.{Bool, true, false, cond}
use mathlib.Core.List.{List}
use Prim.Native.Nat.{ℕ, zero, suc, ◌+◌, ◌*◌, ◌^◌, ◌≤◌, ◌<◌}
use native.Mathlib.Nat.{suc-add, mul-le-mul_right}
use native.Mathlib.Omega.{arith}
use lib.Dec.{eqb, leb}
use Rattle.t800.specs.declared.Bio.{Bio}
use Rattle.t800.specs.Bits.{Decoded, held_bit, get_bit, read_bits_onto, read_bits}
use Rattle.t800.specs.PassCount.{read_passes}
use Rattle.t800.specs.Segments.{read_ones}
use Rattle.t800_laws.proofs.Laws.Tests.{either}

get_bit-bit : (src : List ℕ) (b : Bio) → (get_bit src b).value ≤ 1
unfolding get_bit held_bit
get_bit-bit src b = omega arith

onto_below : (src : List ℕ) (n v : ℕ) (b : Bio) → (read_bits_onto src n v b).value < (v + 1) * 2 ^ n
unfolding read_bits_onto
onto_below src zero v b = omega arith
onto_below src (suc n) v b =
    let ih = onto_below src n (2 * v + (get_bit src b).value) (get_bit src b).bio in
    let one = get_bit-bit src b in
    let more : (2 * v + (get_bit src b).value + 1) * 2 ^ n ≤ (2 * v + 2) * 2 ^ n = mul-le-mul_right (2 ^ n) (omega arith) in
    let two : 2 ^ suc n ≡ 2 * 2 ^ n = omega arith in
    rw two (omega arith)

-- n bits are a number below 2 ^ n
pub read_bits-below : (src : List ℕ) (n : ℕ) (b : Bio) → (read_bits src n b).value < 2 ^ n
unfolding read_bits
read_bits-below src n b = omega (arith, onto_below src n 0 b)

pub passes_between : (src : List ℕ) (b : Bio) → (1 ≤ (read_passes src b).value) × ((read_passes src b).value ≤ 164)
unfolding read_passes
passes_between src b =
    let P : Decoded → Type 0 = λ d. (1 ≤ d.value) × (d.value ≤ 164) in
    let first = get_bit src b in
    let second = get_bit src first.bio in
    let two = read_bits src 2 second.bio in
    let five = read_bits src 5 two.bio in
    let l2 = read_bits-below src 2 second.bio in
    let l5 = read_bits-below src 5 two.bio in
    let l7 = read_bits-below src 7 five.bio in
    either P (eqb first.value 0) _ _ (omega arith)
    (either P (eqb second.value 0) _ _ (omega arith)
    (either P (leb two.value 2) _ _ (omega arith) (either P (leb five.value 30) _ _ (omega arith) (omega arith))))

-- ---- a run of ones that ends within the bound is the run for every larger bound

more_by : (t : Bool) (x y z : Decoded) (m : ℕ) → (y.value < m → z ≡ y) → (cond t x y).value < m → cond t x z ≡ cond t x y
more_by true x y z m p h = refl
more_by false x y z m p h = p h

pub ones_more : (src : List ℕ) (f g n : ℕ) (b : Bio) → (read_ones src f n b).value < n + f → read_ones src (f + g) n b ≡ read_ones src f n b
unfolding read_ones
ones_more src zero g n b h = absurd (omega arith)
ones_more src (suc f) g n b h =
    ap (λ (k : ℕ). read_ones src k n b) (suc-add f g)
    ∙ more_by (eqb (get_bit src b).value 0) (record { value = n; bio = (get_bit src b).bio }) _ _ (n + suc f)
    (λ l. ones_more src f g (n + 1) (get_bit src b).bio (omega (arith, l))) h
