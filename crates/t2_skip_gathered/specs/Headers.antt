-- A header in PPT marker segments, from before its first bit to its end.
use Rattle.std.specs.Prelude.{Option, None, Some, MatchOption, ℕ, ◌+◌, ◌-◌, ◌%◌, ◌≤◌, ◌≡◌, min, Bool, true, false, cond, ◌&&◌, [], length, drop, eqb}
use Rattle.t800.specs.declared.Bio.{Bio}
use Rattle.t800.specs.Base.{Words, Bytes}
use Rattle.t800.specs.Bits.{Decoded, bio_at, get_bit, ends_in_ff}
use Rattle.t800.specs.Reports.{room_for_all}
use Rattle.t800.specs.State.{layer, bands, blocks}
use Rattle.t800.specs.ReadHeader.{HeaderRead, read_blocks}
use Rattle.t800.specs.PackedHeaders.{unpacked}
use Rattle.t2_read_segments.specs.declared.Run.{Run}
use Rattle.t2_unpack_headers.specs.Windows.{window_of}
use Rattle.t2_skip_packet.specs.Parts.{header_bytes}
use Rattle.t2_skip_windows.specs.declared.InWindow.{InWindow}
use Rattle.t2_skip_windows.specs.Windows.{window_bytes, most_of_block, Stands, WindowOn}
use Rattle.t2_skip_gathered.specs.declared.FirstBit.{FirstBit}

-- ---- before the first bit

abbrev pub start_run : (place : ℕ) → Run
start_run place = record { bio = bio_at place; count = 0; room = room_for_all; bytes = 0; refusal = 0 }

-- at header byte `at`, with the bytes of a block ahead
pub record StandsBefore (at : ℕ) (o : InWindow) : Type 0 where
  pub run : o.run ≡ start_run o.run.bio.bp
  pub place : o.base + o.run.bio.bp ≡ at
  pub enough : o.run.bio.bp + most_of_block ≤ window_bytes

-- ---- the first bit

-- with a run that has read nothing else
abbrev pub first_in : (window : Bytes) → InWindow → FirstBit
first_in window s =
    let d = get_bit window s.run.bio in
    record {
      value = d.value;
      stand = record
          { run = record { bio = d.bio; count = s.run.count; room = s.run.room; bytes = s.run.bytes; refusal = 0 }; base = s.base };
    }

-- ---- all blocks

-- o is where r ends, after so many blocks, or both are refused with the same number
pub record Arrives (at : ℕ) (vs : Words) (o : InWindow) (r : HeaderRead) : Type 0 where
  pub refuses : o.run.refusal ≡ r.refusal
  pub number : ℕ
  pub few : number ≤ 12288
  pub holds : r.refusal ≡ 0 → Stands at number vs o r

-- all blocks of the state ws where the first bit isn't 0
abbrev pub blocks_after : (src : Bytes) (ws : Words) (first : ℕ) → HeaderRead → HeaderRead
blocks_after src ws first r = cond (eqb first 0) r (read_blocks src room_for_all (layer ws) 0 (blocks (bands ws)) r)

pub record SkipsAfter (segments : Bytes) (ws : Words) (s : InWindow) (first : ℕ) (window : Bytes) (vs : Words) (o : InWindow) : Type 0 where
  pub window_on : WindowOn segments window o.base
  pub arrives : (at : ℕ) (r : HeaderRead) → Stands at 0 ws s r
      → Arrives at vs o (blocks_after (drop at (unpacked segments).bytes) ws first r)

-- a header from its first bit on, before its end is looked at
abbrev pub header_up_to : (src : Bytes) (ws : Words) → Decoded → HeaderRead
header_up_to src ws first =
    blocks_after src ws first.value (record { refusal = 0; words = ws; bio = first.bio; reports = []; records = [] })

pub record SkipsUpTo (segments : Bytes) (ws : Words) (at : ℕ) (window : Bytes) (vs : Words) (o : InWindow) : Type 0 where
  pub window_on : WindowOn segments window o.base
  pub enough : o.run.refusal ≡ 0 → o.run.bio.bp + most_of_block ≤ window_bytes
  pub arrives : Arrives at vs o
      (header_up_to (drop at (unpacked segments).bytes) ws (get_bit (drop at (unpacked segments).bytes) (bio_at 0)))

-- ---- the end

-- where the bits stand, counted from header byte `at` on
abbrev pub bio_from : (at : ℕ) → InWindow → Bio
bio_from at s = record { bp = s.base + s.run.bio.bp - at; buf = s.run.bio.buf; ct = s.run.bio.ct }

-- the bytes of a header without EPH, whose bits end at a place, of so many bytes that are left: none where it ends with them in a byte FF
abbrev pub taken_of : (buf place left : ℕ) → Option ℕ
taken_of buf place left =
    cond (eqb (buf % 256) 255 && eqb place left) None (Some (cond (eqb (buf % 256) 255) (place + 1) (min place left)))

-- of a header over src whose bits end at b: its bytes with EPH, where src doesn't end with it in a byte FF
abbrev pub EndOf : (src : Bytes) → Bool → Bio → Option ℕ → Type 0
EndOf src eph b r =
    MatchOption r (ends_in_ff src b ≡ true) (λ bytes. (ends_in_ff src b ≡ false) × (bytes ≡ header_bytes src eph 0 b))

-- of the header at header byte `at` of so many plain ones, whatever these are
abbrev pub EndsInWindow : (window : Bytes) → InWindow → (plain at : ℕ) → Bool → Option ℕ → Type 0
EndsInWindow window s plain at eph r =
    (bytes : Bytes) → window ≡ window_of bytes s.base window_bytes → plain ≡ length bytes → EndOf (drop at bytes) eph (bio_from at s) r
