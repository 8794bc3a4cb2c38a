-- A run of ones that isn't read beyond a limit: `Laws.CommaCode` says that below the limit it is `read_comma`'s, and else `read_comma`'s is
-- no shorter than the limit.
use Rattle.std.specs.Prelude.{ℕ, ◌+◌, ◌*◌, min, List, length}
use Rattle.t800.specs.declared.Bio.{Bio}
use Rattle.t800.specs.Bits.{Decoded}
use Rattle.t800.specs.Segments.{read_ones}

-- 30 ones or more make a length field wider than 32 bits, refusal 9
abbrev pub most_ones : ℕ
most_ones = 64

unfoldable pub ones_limit : List ℕ → ℕ
ones_limit src = min most_ones (8 * length src + 8)

unfoldable pub read_comma_limited : List ℕ → Bio → Decoded
read_comma_limited src b = read_ones src (ones_limit src) 0 b
