use Prim.Native.Nat.{◌*◌, ◌+◌}
use lib.Dec.{leb}
use mathlib.Core.Path.{◌≡◌}
use Rattle.t800.specs.Base.{every}
use Rattle.t800.specs.State.{length_bits}
use Rattle.tcd_laws.specs.Parts.{fault}
use Rattle.t2_narrow.proofs.blocks_up_to_25_bits.Given as goal

abbrev pub invariant-loop-i : goal.invariant-loop-i
invariant-loop-i l = l.faults ≡ fault (every l.i (λ k. leb (length_bits l.state (l.at + 4 * k)) 25))
