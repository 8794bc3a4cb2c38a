-- Header bytes put into PPT marker segments one by one: the segments of the first `count` header bytes stand in front of a lent list.
use Rattle.std.specs.Prelude.{ℕ, ◌+◌, ◌-◌, ◌*◌, ◌/◌, ◌%◌, cond, [], ◌∷◌, set, eqb}
use Rattle.std.proofs.lemmas.List.Edits.{sets}
use Rattle.t800.specs.Base.{Bytes}
use Rattle.t800.specs.PackedHeaders.{most_bytes, segments_for}
use Rattle.t2_pack_headers.specs.declared.Place.{Place}

-- the bytes of their segments
abbrev pub packed_length : (count : ℕ) → ℕ
packed_length count = count + 5 * segments_for count

-- where the next one goes, and how many more the last segment takes
abbrev pub place_of : (count : ℕ) → Place
place_of count = record { count = count; at = packed_length count; left = segments_for count * most_bytes - count }

-- the front of a segment, with the length field of a filled one
abbrev pub opening : (index : ℕ) → Bytes
opening index = 0xff ∷ 0x61 ∷ 0xff ∷ 0xff ∷ index ∷ []

-- one more header byte, with its segment's front where it is the first of a segment
unfoldable pub put_byte : (out : Bytes) (count byte : ℕ) → Bytes
put_byte out count byte =
    let at = packed_length count in
    let first = set (sets out at (opening (segments_for count))) (at + 5) byte in
    cond (eqb (count % most_bytes) 0) first (set out at byte)

unfoldable pub put_header : (out : Bytes) (count : ℕ) (bytes : Bytes) → Bytes
put_header out count [] = out
put_header out count (byte ∷ bytes) = put_header (put_byte out count byte) (count + 1) bytes

-- the last segment's length field set, where it isn't filled
unfoldable pub closed : (out : Bytes) (count : ℕ) → Bytes
closed out count =
    let last = count % most_bytes in
    let at = count / most_bytes * (5 + most_bytes) in
    let field = 3 + last in
    cond (eqb last 0) out (set (set out (at + 2) (field / 256)) (at + 3) (field % 256))

-- a lent list and the place behind the bytes put
pub record Put : Type 0 where
  pub out : Bytes
  pub place : Place

abbrev pub bytes_put : (out : Bytes) (place : Place) → Put
bytes_put out place = record { out = out; place = place }
