-- The segment that a block's next passes go into, as the code holds it.
use Rattle.std.specs.Prelude.{ℕ, cond, List, ◌==◌}
use Rattle.t800.specs.Segments.{first_limit, next_limit}
use Rattle.t800.specs.State.{Block}
use Rattle.t800.specs.ReadHeader.{opens_segment, current_limit, current_passes}
use Rattle.t2_read_segments.specs.declared.Segment.{Segment}

-- the limit of the segment after one with the limit m, or of a block's first where m is 0
unfoldable pub limit_after : ℕ → ℕ → ℕ
limit_after style m = cond (m == 0) (first_limit style) (next_limit style m)

unfoldable pub current_segment : List ℕ → Block → Segment
current_segment ws k = record { opens = opens_segment ws k; limit = current_limit ws k; used = current_passes ws k }
