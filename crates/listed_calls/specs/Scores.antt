-- What the contracts of scores cite.
use Rattle.std.specs.Prelude.{ℕ, ◌+◌, cond, ltb, leb}

-- A count stops at 2^32 - 1, and a larger number counts for nothing.
abbrev pub plus : ℕ → ℕ → ℕ
plus sum n = cond (ltb sum 4294967295) (cond (leb n 4294967295) (sum + n) sum) sum
