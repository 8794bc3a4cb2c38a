-- The refusals of measuring, in the parts that the code has.
use Rattle.std.specs.Prelude.{ℕ, ◌++◌}
use Rattle.t800.specs.Base.{Words}
use Rattle.t800.specs.Refusals.{first_of}
use Rattle.t800.specs.State.{writer}
use Rattle.t800.specs.WriteHeader.{Contribution}
use Rattle.t800.specs.Packet.{state_checks, contribution_checks}

-- 3, 7, 8, 9
unfoldable pub contribution_refusal : (state : Words) → Contribution → ℕ
contribution_refusal state p = first_of (contribution_checks state p)

-- `measure_refusal` of any scratch of n words
unfoldable pub measure_refusal_for : (state : Words) (n : ℕ) → Contribution → ℕ
measure_refusal_for state n p = first_of (state_checks writer state n ++ contribution_checks state p)
