-- The number of coding passes (T.800, B.10.6, Table B.4; SCOPE S11).
use Rattle.std.specs.Prelude.{ℕ, ◌+◌, ◌-◌, cond, [], ◌∷◌, ◌++◌, replicate, leb, eqb}
use Rattle.t800.specs.declared.Bio.{Bio}
use Rattle.t800.specs.Base.{Bytes, Bits}
use Rattle.t800.specs.Bits.{Decoded, bits_of, get_bit, read_bits}

-- the codeword of 1 to 164 passes
unfoldable pub pass_bits : (passes : ℕ) → Bits
pass_bits passes =
    cond (leb passes 1) (0 ∷ [])
    (cond (leb passes 2) (1 ∷ 0 ∷ [])
    (cond (leb passes 5) (1 ∷ 1 ∷ bits_of 2 (passes - 3))
    (cond (leb passes 36) (replicate 4 1 ++ bits_of 5 (passes - 6))
    (replicate 9 1 ++ bits_of 7 (passes - 37)))))

-- shorter codewords name the numbers below `least`
abbrev pub plus : (least : ℕ) → Decoded → Decoded
plus least r = record { value = least + r.value; bio = r.bio }

-- a bit 0 is 1; 10 is 2; then two bits unless both are 1, five bits unless all are 1, seven bits
unfoldable pub read_passes : (src : Bytes) → Bio → Decoded
read_passes src b =
    let first = get_bit src b in
    let second = get_bit src first.bio in
    let two = read_bits src 2 second.bio in
    let five = read_bits src 5 two.bio in
    let seven = read_bits src 7 five.bio in
    let is1 : Decoded = record { value = 1; bio = first.bio } in
    let is2 : Decoded = record { value = 2; bio = second.bio } in
    let from3 = plus 3 two in
    let from6 = plus 6 five in
    let from37 = plus 37 seven in
    cond (eqb first.value 0) is1
    (cond (eqb second.value 0) is2 (cond (leb two.value 2) from3 (cond (leb five.value 30) from6 from37)))
