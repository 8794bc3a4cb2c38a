-- Bits taken one after another, and how many of them lie past the input's end.
use Rattle.std.specs.Prelude.{◌≡◌, cond, ◌&&◌, ℕ, zero, suc, ◌+◌, ◌-◌, ◌%◌, ◌^◌, ◌≤◌, length, get_or, ltb, eqb}
use Rattle.t800.specs.declared.Bio.{Bio}
use Rattle.t800.specs.Base.{Bytes}
use Rattle.t800.specs.Bits.{bio_at, get_bit, read_bit}

-- where reading stands after n bits
unfoldable pub after_bits : (src : Bytes) (n : ℕ) → Bio → Bio
after_bits src zero b = b
after_bits src (suc n) b = after_bits src n (get_bit src b).bio

-- how many of these n bits are flagged as past the input's end
unfoldable pub flagged : (src : Bytes) (n : ℕ) → Bio → ℕ
flagged src zero b = 0
flagged src (suc n) b = let r = read_bit src b in cond r.past 1 0 + flagged src n r.bio

-- reading from b stands at e after at most so many bits
pub record Takes (src : Bytes) (most : ℕ) (b e : Bio) : Type 0 where
  pub bits : ℕ
  pub few : bits ≤ most
  pub ends : e ≡ after_bits src bits b

-- the bits of a header that begins at this place, fewer than it would take to leave the reach of the input
pub record Reached (src : Bytes) (start : ℕ) (e : Bio) : Type 0 where
  pub inside : start ≤ length src
  pub takes : Takes src (2 ^ 39) (bio_at start) e

-- the stuffed bit of the first byte past the end: 1 where that byte follows an FF of the header's; a byte is an entry's low eight bits
unfoldable pub stuffed_past : (src : Bytes) (start : ℕ) → ℕ
stuffed_past src start = cond (ltb start (length src) && eqb (get_or src (length src - 1) 0 % 256) 255) 1 0
