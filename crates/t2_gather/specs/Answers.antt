-- What a move of a row's headers answers.
use Rattle.std.specs.Prelude.{ℕ}
use Rattle.t800.specs.declared.GatherAnswer.{GatherAnswer}
use Rattle.t800.specs.Base.{Words, Bytes, wiped}
use Rattle.t800.specs.Gathered.{GatherResult}

abbrev pub gather_result : GatherAnswer → (scratch : Words) (headers bodies : Bytes) → GatherResult
gather_result answer scratch headers bodies = record { answer = answer; scratch = scratch; headers = headers; bodies = bodies }

abbrev pub refused_move : (why : ℕ) (scratch : Words) (headers bodies : Bytes) → GatherResult
refused_move why scratch headers bodies =
    gather_result (record { refusal = why; headers = 0; bodies = 0 }) (wiped scratch) (wiped headers) (wiped bodies)
