-- Bits and bytes of a packet header (T.800, B.10.1; SCOPE S13): bits fill bytes from the high end, and after a byte FF
-- the next byte's high bit is a stuffed 0. A bit is the number 0 or 1.
use Rattle.std.specs.Prelude.{ℕ, zero, suc, ◌+◌, ◌-◌, ◌*◌, ◌/◌, ◌%◌, ◌^◌, max, min, Bool, cond, ◌&&◌, [], ◌∷◌, length, get_or, ltb, eqb}
use Rattle.t800.specs.declared.Bio.{Bio}
use Rattle.t800.specs.Base.{Bytes, Bits}

-- the low n bits of v, high bit first
unfoldable pub bits_of : (n v : ℕ) → Bits
bits_of zero v = []
bits_of (suc n) v = v / 2 ^ n % 2 ∷ bits_of n v

-- ---- writing

-- how many bits go into the byte after this one
unfoldable pub bits_after : (byte : ℕ) → ℕ
bits_after byte = cond (eqb byte 255) 7 8

-- a last byte FF gets a 00 after it
unfoldable pub last_bytes : (byte : ℕ) → Bytes
last_bytes byte = byte ∷ cond (eqb byte 255) (0 ∷ []) []

-- the bytes that the bits make, where `byte` is being filled and its low `free` bits are free
unfoldable pub pack_from : (byte free : ℕ) → Bits → Bytes
pack_from byte free [] = last_bytes byte
pack_from byte zero (bit ∷ bits) = byte ∷ pack_from (bit * 2 ^ (bits_after byte - 1)) (bits_after byte - 1) bits
pack_from byte (suc free) (bit ∷ bits) = pack_from (byte + bit * 2 ^ free) free bits

unfoldable pub pack : Bits → Bytes
pack bits = pack_from 0 8 bits

-- ---- reading

-- a number that was read, and where reading goes on
pub record Decoded : Type 0 where
  pub value : ℕ
  pub bio : Bio

-- before the first bit, with the next byte at this place
abbrev pub bio_at : (place : ℕ) → Bio
bio_at place = record { bp = place; buf = 0; ct = 0 }

-- how far past the input's end the place goes on; no header that is read gets there (`header-in-reach` of bits_taken)
abbrev pub reach : ℕ
reach = 2 ^ 40

-- The held word is moved up by eight and cut to sixteen bits, and the next byte moves in, a 0 past the end. After FF seven bits
-- of it count. The place goes on by one, but not out of reach.
unfoldable pub byte_in : (src : Bytes) → Bio → Bio
byte_in src b =
    let moved = b.buf * 256 % 65536 in
    record {
      bp = max b.bp (min (b.bp + 1) (length src + reach));
      buf = moved + get_or src b.bp 0;
      ct = cond (eqb moved 0xff00) 7 8;
    }

-- the next bit of the held word
unfoldable pub held_bit : Bio → Decoded
held_bit b = record { value = b.buf / 2 ^ (b.ct - 1) % 2; bio = record { bp = b.bp; buf = b.buf; ct = b.ct - 1 } }

unfoldable pub get_bit : (src : Bytes) → Bio → Decoded
get_bit src b = held_bit (cond (eqb b.ct 0) (byte_in src b) b)

-- a bit, whether it lay past the input's end, and where reading goes on
pub record BitRead : Type 0 where
  pub value : ℕ
  pub past : Bool
  pub bio : Bio

-- the byte that is held lies past the input's end
unfoldable pub past_end : (src : Bytes) → Bio → Bool
past_end src b = ltb (length src) b.bp

unfoldable pub read_bit : (src : Bytes) → Bio → BitRead
read_bit src b = let r = get_bit src b in record { value = r.value; past = past_end src r.bio; bio = r.bio }

-- n bits as a number, high bit first, after those that v holds
unfoldable pub read_bits_onto : (src : Bytes) (n v : ℕ) → Bio → Decoded
read_bits_onto src zero v b = record { value = v; bio = b }
read_bits_onto src (suc n) v b = let r = get_bit src b in read_bits_onto src n (2 * v + r.value) r.bio

unfoldable pub read_bits : (src : Bytes) (n : ℕ) → Bio → Decoded
read_bits src n b = read_bits_onto src n 0 b

-- ---- the header's end

-- the last bit read lies in a byte FF
unfoldable pub in_ff : Bio → Bool
in_ff b = eqb (b.buf % 256) 255

-- refusal 12: and the input ends with that byte
unfoldable pub ends_in_ff : (src : Bytes) → Bio → Bool
ends_in_ff src b = in_ff b && eqb b.bp (length src)

-- the bytes taken: a byte FF takes the one after it along
unfoldable pub bytes_taken : (src : Bytes) → Bio → ℕ
bytes_taken src b = cond (in_ff b) (b.bp + 1) (min b.bp (length src))

-- ---- bits past the input's end

-- The bits from `from` up to `to` are read once more, and those past the end counted. A stuffed bit is not read. `bound` bounds the bits.
unfoldable pub bits_past_from : (src : Bytes) (bound : ℕ) (from to : Bio) → ℕ
bits_past_from src zero from to = 0
bits_past_from src (suc bound) from to =
    let r = read_bit src from in
    let counted = cond r.past 1 0 + bits_past_from src bound r.bio to in
    cond (eqb from.bp to.bp && eqb from.ct to.ct) 0 counted

-- from a byte's start on there are at most eight bits a byte
unfoldable pub bits_past : (src : Bytes) (from to : Bio) → ℕ
bits_past src from to = bits_past_from src (8 * (to.bp - from.bp)) from to
