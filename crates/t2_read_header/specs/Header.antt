-- A header read into lent lists, and what its reading leaves.
use Rattle.std.specs.Prelude.{ℕ, ◌/◌, ◌≡◌, cond, ◌&&◌, List, length, eqb}
use Rattle.t800.specs.declared.Bio.{Bio}
use Rattle.t800.specs.Bits.{ends_in_ff}
use Rattle.t800.specs.State.{layer, bands, blocks}
use Rattle.t800.specs.ReadHeader.{read_header}
use Rattle.t2_read_segments.specs.declared.Run.{Run}
use Rattle.t2_read_segments.specs.Reading.{Reading, stopped, BitsIn, Follows}
use Rattle.t2_read_block_parts.specs.Blocks.{next_blocks}
use Rattle.t800.specs.Reports.{record_width}

-- before the first block, with room for so many records
abbrev pub start_of : ℕ → Bio → Run
start_of room b = record { bio = b; count = 0; room = room; bytes = 0; refusal = 0 }

-- all blocks, and the header's end
unfoldable pub next_header : List ℕ → Reading → Reading
next_header src a =
    let r = next_blocks src (layer a.words) 0 (blocks (bands a.words)) a in
    cond (eqb r.refusal 0 && ends_in_ff src r.bio) (stopped 12 r) r

-- from the state's words ws and the bits at b, into these lists as they were lent: a ended as t800's reading did, and that has a report
-- for each block
pub record ReadsHeader (src reports records ws : List ℕ) (b : Bio) (a : Reading) : Type 0 where
  pub follows : Follows reports records a (read_header src (length records / record_width) ws b)
  pub bits : BitsIn src a.bio
  pub reported : (read_header src (length records / record_width) ws b).refusal ≡ 0
      → length (read_header src (length records / record_width) ws b).reports ≡ length (blocks (bands ws))
