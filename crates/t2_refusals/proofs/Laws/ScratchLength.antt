-- A refusal depends on the length of the scratch alone.
use mathlib.Core.Path.{◌≡◌, refl}
use mathlib.Core.List.{List}
use Prim.Native.Nat.{ℕ}
use lib.ListN.{length}
use Rattle.t800.specs.WriteHeader.{Contribution}
use Rattle.t800.specs.Packet.{measure_refusal, measure_refusal_with}
use Rattle.t2_refusal_laws.specs.Refusals.{measure_refusal_for}

pub refusal_by_scratch_length : (ws scratch : List ℕ) (p : Contribution) → measure_refusal ws scratch p
    ≡ measure_refusal_for ws (length scratch) p
unfolding measure_refusal_with measure_refusal_for
refusal_by_scratch_length ws scratch p = refl
