-- A header read through a window on plain header bytes, and what reading in it has come to.
use Rattle.std.specs.Prelude.{ℕ, ◌+◌, ◌*◌, ◌%◌, ◌^◌, ◌≤◌, ◌<◌, ◌≡◌, List, length, drop}
use Rattle.t800.specs.Base.{Words, Bytes}
use Rattle.t800.specs.Reports.{room_for_all, body_bytes}
use Rattle.t800.specs.State.{Block}
use Rattle.t800.specs.PackedHeaders.{unpacked}
use Rattle.t800.specs.ReadHeader.{HeaderRead, read_blocks}
use Rattle.t2_unpack_headers.specs.Windows.{window_of}
use Rattle.t2_read_segments.specs.declared.Run.{Run}
use Rattle.t2_skip_windows.specs.declared.InWindow.{InWindow}

-- ---- the window

abbrev pub window_bytes : ℕ
window_bytes = 32768

-- no block takes more bytes
abbrev pub most_of_block : ℕ
most_of_block = 11264

-- the same run with its bits at another place
abbrev pub run_at : (place : ℕ) → Run → Run
run_at place r =
    record {
      bio = record { bp = place; buf = r.bio.buf; ct = r.bio.ct };
      count = r.count;
      room = r.room;
      bytes = r.bytes;
      refusal = r.refusal;
    }

-- o is s in a window with the bytes of a block ahead
pub record Ahead (s o : InWindow) : Type 0 where
  pub run : o.run ≡ run_at o.run.bio.bp s.run
  pub place : o.base + o.run.bio.bp ≡ s.base + s.run.bio.bp
  pub enough : o.run.bio.bp + most_of_block ≤ window_bytes

-- ---- where a reading stands

-- s is where r is, which has read i blocks over the bytes from header byte `at` on
pub record Stands (at i : ℕ) (ws : Words) (s : InWindow) (r : HeaderRead) : Type 0 where
  pub words : r.words ≡ ws
  pub place : at + r.bio.bp ≡ s.base + s.run.bio.bp
  pub buf : r.bio.buf ≡ s.run.bio.buf
  pub ct : r.bio.ct ≡ s.run.bio.ct
  pub few : r.bio.ct < 8
  pub near : r.bio.bp ≤ 1 + most_of_block * i
  pub reports : length r.reports ≡ i
  pub count : s.run.count ≡ length r.records
  pub records : length r.records ≤ 164 * i
  pub room : s.run.room ≡ room_for_all
  pub bytes : s.run.bytes ≡ body_bytes r.records % 2 ^ 64
  pub accepted : r.refusal ≡ 0
  pub goes_on : s.run.refusal ≡ 0

-- or both are refused with the same number
pub record Reads (at i : ℕ) (ws : Words) (s : InWindow) (r : HeaderRead) : Type 0 where
  pub refuses : s.run.refusal ≡ r.refusal
  pub holds : r.refusal ≡ 0 → Stands at i ws s r

-- where some reading is
pub record Somewhere (i : ℕ) (ws : Words) (s : InWindow) : Type 0 where
  pub at : ℕ
  pub reading : HeaderRead
  pub near : at < 2 ^ 63
  pub stands : Stands at i ws s reading

-- ---- blocks skipped

-- from ws and s the blocks ks, of which the first has number i, lead to vs and o
abbrev pub Skips : Bytes → (layer i : ℕ) → List Block → (ws : Words) (s : InWindow) (vs : Words) (o : InWindow) → Type 0
Skips bytes layer i ks ws s vs o =
    (at : ℕ) (r : HeaderRead) → Stands at i ws s r
    → Reads at (i + length ks) vs o (read_blocks (drop at bytes) room_for_all layer i ks r)

-- the window holds the header bytes from `base` on of segments that are right
pub record WindowOn (segments window : Bytes) (base : ℕ) : Type 0 where
  pub right : (unpacked segments).refusal ≡ 0
  pub holds : window ≡ window_of (unpacked segments).bytes base window_bytes

-- and the words from q on stay
pub record SkipsTo (segments : Bytes) (layer i : ℕ) (ks : List Block) (q : ℕ) (ws : Words) (s : InWindow) (window : Bytes) (vs : Words)
    (o : InWindow) : Type 0 where
  pub window_on : WindowOn segments window o.base
  pub skips : Skips (unpacked segments).bytes layer i ks ws s vs o
  pub after : drop q vs ≡ drop q ws
