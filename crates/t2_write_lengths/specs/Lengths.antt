-- The lengths of one block's segments in one layer.
use Rattle.std.specs.Prelude.{ℕ, ◌+◌, ◌≤◌, ◌≡◌, false, List, ◌++◌, length}
use Rattle.t800.specs.PassCount.{pass_bits}
use Rattle.t800.specs.Segments.{Segment, segments_of, increment, comma_bits, length_fields}
use Rattle.bio_bytes.specs.Writing.{Output, output, put_bits}
use Rattle.t2_segments.specs.Segments.{any_too_long}
use Rattle.t2_write_lengths.specs.declared.LengthsPut.{LengthsPut}

-- a block's passes in one layer: a length and a mark for each, at most 164, and no segment too long
pub record BlockPasses (ls ms : List ℕ) : Type 0 where
  pub marked : length ms ≡ length ls
  pub few : length ls ≤ 164
  pub short : any_too_long (segments_of ls ms) ≡ false

-- ---- what putting them leaves

pub record Lengths : Type 0 where
  pub output : Output
  pub length_bits : ℕ

abbrev pub lengths_put : List ℕ → LengthsPut → Lengths
lengths_put bytes r = record { output = output bytes r.bio; length_bits = r.bits }

-- pass count, increment of the length bits, one length per segment
unfoldable pub put_lengths : Output → ℕ → ℕ → List Segment → Lengths
put_lengths o before c segments =
    let now = before + increment before segments in
    record { output = put_bits o (pass_bits c ++ comma_bits (increment before segments) ++ length_fields now segments); length_bits = now }
