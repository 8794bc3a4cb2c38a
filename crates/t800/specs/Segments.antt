-- Codeword segments and their lengths (T.800, B.10.7 and Table A.19; SCOPE S10).
use Rattle.std.specs.Prelude.{ℕ, zero, suc, ◌+◌, ◌-◌, ◌*◌, ◌/◌, ◌%◌, max, Bool, true, false, cond, ◌||◌, not, List, [], ◌∷◌, ◌++◌, length, replicate, eqb}
use Rattle.t800.specs.declared.Bio.{Bio}
use Rattle.t800.specs.Base.{Words, Bytes, Bits, floor_log2}
use Rattle.t800.specs.Bits.{Decoded, bits_of, get_bit}

-- ---- the style's limits

-- style bit 0x04, termination on each coding pass, and 0x01, selective arithmetic coding bypass
unfoldable pub term_all : (style : ℕ) → Bool
term_all style = eqb (style / 4 % 2) 1

unfoldable pub bypass : (style : ℕ) → Bool
bypass style = eqb (style % 2) 1

-- the passes that a block's first segment can hold, and those of one that follows a segment with this limit: 1 each; or 10, 2, 1,
-- 2, 1 and so on; or 109 each
unfoldable pub first_limit : (style : ℕ) → ℕ
first_limit style = cond (term_all style) 1 (cond (bypass style) 10 109)

unfoldable pub next_limit : (style limit : ℕ) → ℕ
next_limit style limit = cond (term_all style) 1 (cond (bypass style) (cond (eqb limit 2) 1 2) 109)

-- a limit that the style gives
unfoldable pub is_limit : (style limit : ℕ) → Bool
is_limit style limit = eqb limit (first_limit style) || eqb limit (next_limit style 2) || eqb limit (next_limit style 1)

-- ---- segments as written

-- a segment's passes in this layer, and their bytes
pub record Segment : Type 0 where
  pub passes : ℕ
  pub bytes : ℕ

abbrev is_empty : List ℕ → Bool
is_empty [] = true
is_empty (x ∷ xs) = false

-- A block's passes in this layer by lengths and termination marks: a segment ends at a terminated pass or at the layer's last. `passes`
-- and `bytes` are what the segment has so far.
unfoldable pub segments_from : (passes bytes : ℕ) (lengths : Words) (marks : Bytes) → List Segment
segments_from passes bytes [] marks = []
segments_from passes bytes (len ∷ lens) [] = []
segments_from passes bytes (len ∷ lens) (mark ∷ marks) =
    let segment : Segment = record { passes = passes + 1; bytes = bytes + len } in
    let ends = segment ∷ segments_from 0 0 lens marks in
    let goes_on = segments_from (passes + 1) (bytes + len) lens marks in
    cond (not (eqb mark 0) || is_empty lens) ends goes_on

unfoldable pub segments_of : (lengths : Words) (marks : Bytes) → List Segment
segments_of lengths marks = segments_from 0 0 lengths marks

-- ---- lengths

-- of a length field: the length bits + floor(log2 of the segment's passes in this layer)
unfoldable pub width : (length_bits passes : ℕ) → ℕ
width length_bits passes = length_bits + floor_log2 passes

-- the bits of a length; 0 takes 1
unfoldable pub bit_length : (bytes : ℕ) → ℕ
bit_length bytes = 1 + floor_log2 bytes

-- the largest of 0 and, over segments, bits of the length minus that width
unfoldable pub increment : (length_bits : ℕ) → List Segment → ℕ
increment length_bits [] = 0
increment length_bits (s ∷ ss) = max (bit_length s.bytes - width length_bits s.passes) (increment length_bits ss)

-- a run of ones and a zero
unfoldable pub comma_bits : (ones : ℕ) → Bits
comma_bits ones = replicate ones 1 ++ 0 ∷ []

-- one length per segment
unfoldable pub length_fields : (length_bits : ℕ) → List Segment → Bits
length_fields length_bits [] = []
length_fields length_bits (s ∷ ss) = bits_of (width length_bits s.passes) s.bytes ++ length_fields length_bits ss

-- the ones up to a zero, after `ones` that are read
unfoldable pub read_ones : (src : Bytes) (bound ones : ℕ) → Bio → Decoded
read_ones src zero ones b = record { value = ones; bio = b }
read_ones src (suc bound) ones b =
    let r = get_bit src b in
    let more = read_ones src bound (ones + 1) r.bio in
    let ends : Decoded = record { value = ones; bio = r.bio } in
    cond (eqb r.value 0) ends more

-- past the input's end there are only zeros, which bounds the ones
unfoldable pub read_comma : (src : Bytes) → Bio → Decoded
read_comma src b = read_ones src (8 * length src + 8) 0 b
