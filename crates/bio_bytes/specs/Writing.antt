-- Bits of a packet header as they are written (T.800, B.10.1; SCOPE S13), a step at a time: `Laws.Packed` says that they make
-- the bytes of `pack`.
use Rattle.std.specs.Prelude.{◌≡◌, cond, List, [], ◌∷◌, ℕ, ◌+◌, ◌-◌, ◌*◌, ◌%◌, ◌^◌, ◌≤◌, min, eqb, set}
use Rattle.t800.specs.declared.Bio.{Bio}

-- a lent output, and where its bits stand
pub record Output : Type 0 where
  pub bytes : List ℕ
  pub bio : Bio

abbrev pub output : List ℕ → Bio → Output
output bytes b = record { bytes = bytes; bio = b }

-- before the first bit, with the byte at p to be filled
abbrev pub empty_at : ℕ → Bio
empty_at p = record { bp = p; buf = 0; ct = 8 }

-- the largest place that there is, and the place after p, which stops there
abbrev pub last_place : ℕ
last_place = 0xffff_ffff_ffff_ffff

unfoldable pub place_after : ℕ → ℕ
place_after p = min (p + 1) last_place

-- The held byte goes out where there is room for it, and the place moves on in any case, so that an empty output measures. The held word
-- is moved up by eight and cut to sixteen bits; after a byte FF only seven bits follow.
unfoldable pub byte_out : Output → Output
byte_out o =
    let moved = o.bio.buf * 256 % 65536 in
    output (set o.bytes o.bio.bp (o.bio.buf % 256))
    (record { bp = place_after o.bio.bp; buf = moved; ct = cond (eqb moved 0xff00) 7 8 })

-- a byte goes out if no bit of the held one is free
unfoldable pub make_room : Output → Output
make_room o = cond (eqb o.bio.ct 0) (byte_out o) o

-- a bit takes the top place of those that are free
unfoldable pub hold_bit : Bio → ℕ → Bio
hold_bit b bit = record { bp = b.bp; buf = b.buf + bit * 2 ^ (b.ct - 1); ct = b.ct - 1 }

unfoldable pub put_bit : Output → ℕ → Output
put_bit o bit = let m = make_room o in output m.bytes (hold_bit m.bio bit)

unfoldable pub put_bits : Output → List ℕ → Output
put_bits o [] = o
put_bits o (bit ∷ bits) = put_bits (put_bit o bit) bits

-- the last byte goes out, and after a byte FF a byte 00
unfoldable pub flush : Output → Output
flush o = let last = byte_out o in cond (eqb last.bio.ct 7) (byte_out last) last

-- what the bits keep while they are written: at most eight are free, and those are 0
pub record FreeBitsClear (b : Bio) : Type 0 where
  pub at_most_eight : b.ct ≤ 8
  pub clear : b.buf % 2 ^ b.ct ≡ 0
