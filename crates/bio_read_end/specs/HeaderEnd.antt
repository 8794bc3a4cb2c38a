-- The end of a header as it is read.
use Rattle.std.specs.Prelude.{not, List, ℕ}
use Rattle.t800.specs.declared.Bio.{Bio}
use Rattle.t800.specs.Bits as t800
use Rattle.bio_read_end.specs.declared.Aligned.{Aligned}

-- to the start of the byte after the header, or `ok` is false: the last bit read lies in a byte FF and the input ends with it
unfoldable pub aligned_at : List ℕ → Bio → Aligned
aligned_at src b = record { ok = not (t800.ends_in_ff src b); bio = t800.bio_at (t800.bytes_taken src b) }
