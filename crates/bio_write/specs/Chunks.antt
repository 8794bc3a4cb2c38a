-- Several bits go into the held word in one step: `Laws.WriteChunks` says that they are as many single bits.
use Rattle.std.specs.Prelude.{ℕ, ◌+◌, ◌-◌, ◌*◌, ◌%◌, ◌^◌}
use Rattle.t800.specs.declared.Bio.{Bio}

-- the low k bits of v take the top places of those that are free
unfoldable pub hold_bits : Bio → ℕ → ℕ → Bio
hold_bits b v k = record { bp = b.bp; buf = b.buf + v % 2 ^ k * 2 ^ (b.ct - k); ct = b.ct - k }
