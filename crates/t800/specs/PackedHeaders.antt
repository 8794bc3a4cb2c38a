-- Packet headers packed in PPT marker segments (T.800, A.7.5; SCOPE S22): FF 61, the length field, which counts itself, the index and the
-- header bytes, the index, and the bytes. A header may go on in the next segment.
use Rattle.std.specs.Prelude.{ℕ, zero, suc, ◌+◌, ◌-◌, ◌*◌, ◌/◌, ◌%◌, Bool, cond, ◌||◌, not, [], ◌∷◌, ◌++◌, length, get_or, take, drop, ltb, eqb}
use Rattle.t800.specs.Base.{Bytes}
use Rattle.t800.specs.Refusals.{packed_refusal}

-- the most header bytes of one segment, by its 16-bit length field, and the most segments, by the 8-bit index
abbrev pub most_bytes : ℕ
most_bytes = 65532

abbrev pub most_segments : ℕ
most_segments = 256

-- ---- packed

unfoldable pub ppt_segment : (index : ℕ) (bytes : Bytes) → Bytes
ppt_segment index bytes =
    let field = 3 + length bytes in
    0xff ∷ 0x61 ∷ field / 256 ∷ field % 256 ∷ index ∷ bytes

-- each segment but the last one is filled; without bytes there is none. `bound` bounds them.
unfoldable pub packed_from : (bound index : ℕ) (headers : Bytes) → Bytes
packed_from zero index headers = []
packed_from (suc bound) index headers =
    let later = packed_from bound (index + 1) (drop most_bytes headers) in
    cond (eqb (length headers) 0) [] (ppt_segment index (take most_bytes headers) ++ later)

unfoldable pub packed : (headers : Bytes) → Bytes
packed headers = packed_from (length headers) 0 headers

-- the segments that so many bytes need
unfoldable pub segments_for : (bytes : ℕ) → ℕ
segments_for bytes = (bytes + (most_bytes - 1)) / most_bytes

-- ---- unpacked

-- 16, or 0 and the bytes of all segments
pub record Unpacked : Type 0 where
  pub refusal : ℕ
  pub bytes : Bytes

-- the segment in front: cut short, with a length field below 4, without its marker, or with another index
unfoldable pub bad_segment : (index : ℕ) (segments : Bytes) → Bool
bad_segment index segments =
    let field = get_or segments 2 0 * 256 + get_or segments 3 0 in
    ltb (length segments) (2 + field)
    || ltb field 4
    || not (eqb (get_or segments 0 0) 0xff)
    || not (eqb (get_or segments 1 0) 0x61)
    || not (eqb (get_or segments 4 0) index)

unfoldable pub unpacked_from : (bound index : ℕ) (segments : Bytes) → Unpacked
unpacked_from zero index segments = record { refusal = 0; bytes = [] }
unpacked_from (suc bound) index segments =
    let field = get_or segments 2 0 * 256 + get_or segments 3 0 in
    let later = unpacked_from bound (index + 1) (drop (2 + field) segments) in
    let all : Unpacked = record { refusal = later.refusal; bytes = take (field - 3) (drop 5 segments) ++ later.bytes } in
    let some = cond (bad_segment index segments) (record { refusal = packed_refusal; bytes = [] }) all in
    cond (eqb (length segments) 0) (record { refusal = 0; bytes = [] }) some

unfoldable pub unpacked : (segments : Bytes) → Unpacked
unpacked segments = unpacked_from (length segments) 0 segments
