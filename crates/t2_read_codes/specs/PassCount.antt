-- `read_passes` from the third bit on: `Laws.PassCount` says that it ends in this after two ones.
use Rattle.std.specs.Prelude.{cond, List, ℕ, leb}
use Rattle.t800.specs.declared.Bio.{Bio}
use Rattle.t800.specs.Bits.{Decoded, read_bits}
use Rattle.t800.specs.PassCount.{plus}

-- two bits unless both are 1, five bits unless all are 1, seven bits
unfoldable pub read_from3 : List ℕ → Bio → Decoded
read_from3 src b =
    let two = read_bits src 2 b in
    let five = read_bits src 5 two.bio in
    let seven = read_bits src 7 five.bio in
    cond (leb two.value 2) (plus 3 two) (cond (leb five.value 30) (plus 6 five) (plus 37 seven))
