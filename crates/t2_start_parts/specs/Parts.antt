-- Parts of a start: what both roles do.
use Rattle.std.specs.Prelude.{ℕ, cond, List, length, take, eqb}
use Rattle.t800.specs.declared.Band.{Band}
use Rattle.t800.specs.State.{writer, blocks}
use Rattle.t800.specs.Start.{StartResult, fresh_state, start_refusal}

-- as many block planes as a start wants: none for a reader
unfoldable pub planes_wanted : ℕ → List Band → ℕ
unfolding writer
planes_wanted r bs = cond (eqb r writer) (length (blocks bs)) 0

abbrev pub answered : ℕ → List ℕ → StartResult
answered why ws = record { answer = why; state = ws }

-- a start before zero planes are set
unfoldable pub begun : ℕ → ℕ → List Band → ℕ → List ℕ → List ℕ → StartResult
begun r n given s planes lent =
    let why = start_refusal r n given s planes lent in
    answered why (cond (eqb why 0) (fresh_state r s (take n given)) lent)
