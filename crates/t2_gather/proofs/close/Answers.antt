use Prim.Native.Nat.{ℕ}
use mathlib.Core.Path.{ap}
use Rattle.t800.specs.declared.GatherAnswer.{GatherAnswer}
use Rattle.t2_gather.proofs.close.Goals as goal

told : (headers bodies : ℕ) → GatherAnswer
told headers bodies = record { refusal = 0; headers = headers; bodies = bodies }

pub returns : goal.returns
unfolding told
returns c =
    let bodies = c.args.g.bodies in
    (c.close_segments.ensures, ap (λ (n : ℕ). told n bodies) c.packed_length-bytes.ensures)
