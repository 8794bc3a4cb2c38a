-- Where the segments are right, and which header bytes they hold.
use Rattle.std.specs.Prelude.{ℕ, ◌+◌, ◌≤◌, ◌<◌, ◌≡◌, length, drop}
use Rattle.t800.specs.Base.{Bytes}
use Rattle.t800.specs.PackedHeaders.{unpacked}
use Rattle.t2_unpack_headers.specs.declared.Cursor.{Cursor}
use Rattle.t2_unpack_headers.specs.Segments.{held_at, unpacked_at}

-- the segments from `at` on are right, and hold these bytes
pub record HoldsAt (segments : Bytes) (at : ℕ) (bytes : Bytes) : Type 0 where
  pub within : at ≤ length segments
  pub index : ℕ
  pub right : (unpacked_at segments index at).refusal ≡ 0
  pub holds : (unpacked_at segments index at).bytes ≡ bytes

-- a segment of the list or its end, with so many header bytes before it
pub record CursorAt (segments : Bytes) (c : Cursor) : Type 0 where
  pub fewer : c.before ≤ c.at
  pub here : HoldsAt segments c.at (drop c.before (unpacked segments).bytes)

-- the segment that holds header byte `from`, or the list's end
pub record Sought (segments : Bytes) (from : ℕ) (c : Cursor) : Type 0 where
  pub cursor : CursorAt segments c
  pub before : c.before ≤ from
  pub inside : c.at < length segments → from < c.before + held_at segments c.at
