-- Refusal 3 from the lengths of the lists.
use Rattle.std.specs.Prelude.{ℕ, Bool, ◌||◌, not, eqb}

-- so many blocks, and counts that add up to so many passes
unfoldable pub wrong_lengths : (counts lengths marks blocks passes : ℕ) → Bool
wrong_lengths counts lengths marks blocks passes = not (eqb counts blocks) || not (eqb lengths passes) || not (eqb marks passes)
