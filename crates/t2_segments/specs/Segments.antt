-- A block's segments in one layer as the code walks them, and refusals 8 and 9 of one block.
use Rattle.std.specs.Prelude.{ℕ, ◌+◌, ◌^◌, ◌≤◌, ◌≡◌, Bool, cond, List, [], ◌∷◌, length, eqb, ltb, leb}
use Rattle.t800.specs.Base.{any}
use Rattle.t800.specs.Segments.{Segment, width, increment}

abbrev pub segment : ℕ → ℕ → Segment
segment p b = record { passes = p; bytes = b }

-- n passes with these bytes, and those that are left of the same segment
unfoldable pub first_from : ℕ → ℕ → List ℕ → List ℕ → Segment
first_from n bytes [] ms = segment n bytes
first_from n bytes (l ∷ ls) [] = segment n bytes
first_from n bytes (l ∷ ls) (m ∷ ms) =
    let goes_on = first_from (n + 1) (bytes + l) ls ms in
    cond (eqb m 0) goes_on (segment (n + 1) (bytes + l))

unfoldable pub first_segment : List ℕ → List ℕ → Segment
first_segment ls ms = first_from 0 0 ls ms

-- a mark for each pass, and so few passes that their bytes can be added up
abbrev pub PassLists : List ℕ → List ℕ → Type 0
PassLists ls ms = (length ls ≡ length ms) × (length ls ≤ 4294967295)

-- length bits as the packet begins, of a block with so many passes so far
abbrev pub bits_before : ℕ → ℕ → ℕ
bits_before passes length_bits = cond (eqb passes 0) 3 length_bits

-- 8
abbrev pub any_too_long : List Segment → Bool
any_too_long segments = any (λ s. leb (2 ^ 31) s.bytes) segments

abbrev pub any_too_wide : ℕ → List Segment → Bool
any_too_wide length_bits segments = any (λ s. ltb 32 (width length_bits s.passes)) segments

-- 9, with the length bits as the packet begins
abbrev pub block_too_wide : ℕ → List Segment → Bool
block_too_wide before segments = any_too_wide (before + increment before segments) segments
