-- What a header that is skipped leaves: of t800's reading, with room for every record, all but the reports and the records themselves.
use Rattle.std.specs.Prelude.{◌≡◌, List, ℕ}
use Rattle.t800.specs.declared.Bio.{Bio}
use Rattle.t800.specs.Reports.{room_for_all, body_bytes}
use Rattle.t800.specs.ReadHeader.{HeaderRead, read_header}
use Rattle.t2_read_segments.specs.Reading.{BitsIn}
use Rattle.t2_skip_header.specs.declared.Skipped.{Skipped}

abbrev pub whole_header : (src ws : List ℕ) → Bio → HeaderRead
whole_header src ws b = read_header src room_for_all ws b

-- from the state's words ws and the bits at b: the words vs, and o
pub record SkipsHeader (src ws : List ℕ) (b : Bio) (vs : List ℕ) (o : Skipped) : Type 0 where
  pub refuses : o.refusal ≡ (whole_header src ws b).refusal
  pub holds : (whole_header src ws b).refusal ≡ 0
      → (vs ≡ (whole_header src ws b).words)
      × (o.bio ≡ (whole_header src ws b).bio)
      × (o.bytes ≡ body_bytes (whole_header src ws b).records)
  pub bits : BitsIn src o.bio
