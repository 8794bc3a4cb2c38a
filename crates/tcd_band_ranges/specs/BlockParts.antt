-- Parts of the range check of a block (refusal 5) on the numbers that the code has read.
use Rattle.std.specs.Prelude.{ℕ, ◌*◌, ◌≡◌, Bool, cond, ◌&&◌, ◌||◌, leb, eqb}
use Rattle.tcd_band_ranges.specs.declared.Limits.{Limits}
use Rattle.t800.specs.Segments.{first_limit, next_limit}
use Rattle.t800.specs.State.{writer}

-- length bits b of a block with p passes
unfoldable pub length_bits_in_range : ℕ → ℕ → Bool
length_bits_in_range p b = cond (eqb p 0) (eqb b 0) (leb 3 b && leb b 32)

-- the limits that a style gives, and a test against them
pub record LimitsOf (s : ℕ) (l : Limits) : Type 0 where
  pub first : l.first ≡ first_limit s
  pub second : l.second ≡ next_limit s 2
  pub third : l.third ≡ next_limit s 1

unfoldable pub is_one_of : Limits → ℕ → Bool
is_one_of l m = eqb m l.first || eqb m l.second || eqb m l.third

-- limit m and passes u of its current segment, for a role and a style's limits
unfoldable pub segment_in_range : ℕ → Limits → ℕ → ℕ → ℕ → Bool
unfolding writer
segment_in_range r l p m u = cond (eqb p 0 || eqb r writer) (eqb m 0 && eqb u 0) (is_one_of l m && leb 1 u && leb u m)

-- the four words of a block, for a role, a style's limits and a next layer
unfoldable pub block_words_in_range : ℕ → Limits → ℕ → ℕ → ℕ → ℕ → ℕ → Bool
block_words_in_range r l t p b m u = leb p (164 * t) && length_bits_in_range p b && segment_in_range r l p m u
