-- Several bits come from the held word in one step: `Laws.ReadChunks` says that they are as many single bits.
use Rattle.std.specs.Prelude.{cond, List, ℕ, ◌-◌, ◌/◌, ◌%◌, ◌^◌, eqb}
use Rattle.t800.specs.declared.Bio.{Bio}
use Rattle.t800.specs.Bits.{Decoded, byte_in}

-- a byte comes in if no bit of the held one is left
unfoldable pub refill : List ℕ → Bio → Bio
refill src b = cond (eqb b.ct 0) (byte_in src b) b

-- the top k bits of those that are left
unfoldable pub held_bits : Bio → ℕ → Decoded
held_bits b k = record { value = b.buf / 2 ^ (b.ct - k) % 2 ^ k; bio = record { bp = b.bp; buf = b.buf; ct = b.ct - k } }
