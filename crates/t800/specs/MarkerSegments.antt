-- The markers SOP and EPH (T.800, A.8.1 and A.8.2; SCOPE S8).
use Rattle.std.specs.Prelude.{ℕ, ◌+◌, ◌-◌, ◌/◌, ◌%◌, Bool, cond, ◌&&◌, not, [], ◌∷◌, ◌++◌, length, get_or, ltb, eqb}
use Rattle.t800.specs.declared.Markers.{Markers}
use Rattle.t800.specs.Base.{Bytes}

-- ---- writing

-- start of packet, with the low 16 bits of the packet number, high byte first
unfoldable pub sop_bytes : (number : ℕ) → Bytes
sop_bytes number = 0xff ∷ 0x91 ∷ 0x00 ∷ 0x04 ∷ number / 256 % 256 ∷ number % 256 ∷ []

-- end of packet header
unfoldable pub eph_bytes : Bytes
eph_bytes = 0xff ∷ 0x92 ∷ []

unfoldable pub with_markers : Markers → (number : ℕ) (header : Bytes) → Bytes
with_markers m number header = cond m.sop (sop_bytes number) [] ++ header ++ cond m.eph eph_bytes []

-- ---- reading

-- bytes to skip, and the mark: 0 in order or not used, 1 too few bytes, 2 not found
pub record MarkerRead : Type 0 where
  pub skip : ℕ
  pub mark : ℕ

-- a marker of `size` bytes, FF and `second` first
unfoldable pub read_marker : (used : Bool) (size second : ℕ) (src : Bytes) (place : ℕ) → MarkerRead
read_marker used size second src place =
    cond (not used) (record { skip = 0; mark = 0 })
    (cond (ltb (length src - place) size) (record { skip = 0; mark = 1 })
    (cond (eqb (get_or src place 0) 0xff && eqb (get_or src (place + 1) 0) second) (record { skip = size; mark = 0 })
    (record { skip = 0; mark = 2 })))

unfoldable pub read_sop : Markers → (src : Bytes) → MarkerRead
read_sop m src = read_marker m.sop 6 0x91 src 0

unfoldable pub read_eph : Markers → (src : Bytes) (place : ℕ) → MarkerRead
read_eph m src place = read_marker m.eph 2 0x92 src place
