-- A block by the numbers that the code has, and what the checks before coding establish of it.
use Rattle.std.specs.Prelude.{ℕ, ◌+◌, ◌^◌, ◌≤◌, ◌<◌, ◌≡◌, false, List, length}
use Rattle.t800.specs.Segments.{segments_of}
use Rattle.bio_bytes.specs.Writing.{Output}
use Rattle.tgt_write.specs.Coding.{LeafCoded}
use Rattle.t2_segments.specs.Segments.{bits_before, block_too_wide}
use Rattle.t2_write_lengths.specs.Lengths.{BlockPasses}

abbrev pub coded : List ℕ → Output → LeafCoded
coded ws o = record { words = ws; output = o }

-- c passes can be coded after so many with those length bits: refusals 5, 3, 7, 8 and 9 of one block don't apply
pub record PassesFit (passes length_bits c : ℕ) (ls ms : List ℕ) : Type 0 where
  pub many : c ≡ length ls
  pub block : BlockPasses ls ms
  pub sum : passes + c < 2 ^ 32
  pub before : bits_before passes length_bits ≤ 32
  pub narrow : block_too_wide (bits_before passes length_bits) (segments_of ls ms) ≡ false
