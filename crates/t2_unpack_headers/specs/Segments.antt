-- A segment at a place of the list, in the code's own numbers.
use Rattle.std.specs.Prelude.{Result, MatchResult, Option, None, Some, ℕ, ◌+◌, ◌-◌, ◌*◌, ◌≤◌, ◌≡◌, Bool, cond, ◌||◌, not, length, get_or, drop, ltb, eqb}
use Rattle.t800.specs.declared.Refusal.{Refusal}
use Rattle.t800.specs.RefusalNumbers.{number_of}
use Rattle.t800.specs.Base.{Bytes}
use Rattle.t800.specs.PackedHeaders.{Unpacked, unpacked_from, unpacked}

-- the length field
abbrev pub field_at : (segments : Bytes) (at : ℕ) → ℕ
field_at segments at = get_or segments (at + 2) 0 * 256 + get_or segments (at + 3) 0

-- the length field is r, a 16-bit number
pub record FieldOf (segments : Bytes) (at r : ℕ) : Type 0 where
  pub field : r ≡ field_at segments at
  pub small : r ≤ 65535

-- how many header bytes the segment holds
abbrev pub held_at : (segments : Bytes) (at : ℕ) → ℕ
held_at segments at = field_at segments at - 3

-- the segment isn't right
unfoldable pub bad_at : (segments : Bytes) (index at : ℕ) → Bool
bad_at segments index at =
    ltb (length segments - at) (2 + field_at segments at)
    || ltb (field_at segments at) 4
    || not (eqb (get_or segments at 0) 0xff)
    || not (eqb (get_or segments (at + 1) 0) 0x61)
    || not (eqb (get_or segments (at + 4) 0) index)

-- how many bytes it has, where it is right
abbrev pub size_at : (segments : Bytes) (index at : ℕ) → Option ℕ
size_at segments index at = cond (bad_at segments index at) None (Some (2 + field_at segments at))

-- the segments from a place on, the first of them with this index
abbrev pub unpacked_at : (segments : Bytes) (index at : ℕ) → Unpacked
unpacked_at segments index at = unpacked_from (length segments) index (drop at segments)

-- the answer of a look at all of them
abbrev pub LookedAt : (segments : Bytes) → Result ℕ Refusal → Type 0
LookedAt segments r =
    MatchResult r
    (λ bytes. ((unpacked segments).refusal ≡ 0) × (bytes ≡ length (unpacked segments).bytes))
    (λ why. number_of why ≡ (unpacked segments).refusal)
