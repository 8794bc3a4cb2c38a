-- What skipping a packet tells and leaves: its parts as t800 has them, and the state after it, where it isn't refused.
use Rattle.std.specs.Prelude.{Result, Ok, Err, ◌≡◌, Bool, false, cond, [], ℕ, ◌+◌, ◌-◌, eqb}
use Rattle.t800.specs.declared.Bio.{Bio}
use Rattle.t800.specs.declared.Refusal.{Refusal}
use Rattle.t800.specs.RefusalNumbers.{number_of}
use Rattle.t800.specs.Base.{Words, Bytes}
use Rattle.t800.specs.Bits.{Decoded, bytes_taken}
use Rattle.t800.specs.MarkerSegments.{read_eph}
use Rattle.t800.specs.ReadHeader.{HeaderRead}
use Rattle.t800.specs.Reports.{body_bytes}
use Rattle.t800.specs.Gathered.{Parts}
use Rattle.t2_read_segments.specs.Reading.{BitsIn}
use Rattle.t2_skip_header.specs.declared.Skipped as Header
use Rattle.t2_skip_header.specs.Skipping.{whole_header}
use Rattle.t2_skip_packet.specs.declared.Parts as Counts

-- 0, or the number of a refusal
abbrev pub number_in : {A : Type 0} → Result A Refusal → ℕ
number_in (Ok _) = 0
number_in (Err why) = number_of why

-- the parts of a packet, where the refusal is 0
pub record Skipped : Type 0 where
  pub refusal : ℕ
  pub sop : ℕ
  pub header : ℕ
  pub body : ℕ

abbrev pub skipped : Result Counts.Parts Refusal → Skipped
skipped (Ok p) = record { refusal = 0; sop = p.sop; header = p.header; body = p.body }
skipped (Err why) = record { refusal = number_of why; sop = 0; header = 0; body = 0 }

-- the words vs, and o
pub record SkipsPacket (p : Parts) (vs : Words) (o : Skipped) : Type 0 where
  pub refuses : o.refusal ≡ p.refusal
  pub holds : p.refusal ≡ 0 → (vs ≡ p.state) × (o.sop ≡ p.sop) × (o.header ≡ p.header) × (o.body ≡ p.body)

-- a header from its first bit on: that alone where it is 0
unfoldable pub header_from : (src : Bytes) (ws : Words) → Decoded → HeaderRead
header_from src ws first =
    cond (eqb first.value 0) (record { refusal = 0; words = ws; bio = first.bio; reports = []; records = [] })
    (whole_header src ws first.bio)

pub record SkipsFrom (src : Bytes) (ws : Words) (first : Decoded) (vs : Words) (o : Header.Skipped) : Type 0 where
  pub refuses : o.refusal ≡ (header_from src ws first).refusal
  pub holds : (header_from src ws first).refusal ≡ 0
      → (vs ≡ (header_from src ws first).words)
      × (o.bio ≡ (header_from src ws first).bio)
      × (o.bytes ≡ body_bytes (header_from src ws first).records)
  pub bits : BitsIn src o.bio

-- the bytes of a header that begins at `start` and whose bits end at b, with EPH
unfoldable pub header_bytes : (src : Bytes) (eph : Bool) (start : ℕ) → Bio → ℕ
header_bytes src eph start b =
    let at = bytes_taken src b in
    at + (read_eph (record { sop = false; eph = eph }) src at).skip - start
