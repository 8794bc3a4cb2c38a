use mathlib.Core.Path.{◌≡◌}
use Prim.Native.Nat.{◌-◌, ◌^◌, ◌≤◌, ◌<◌}
use Rattle.t800.specs.Bits.{read_bits_onto, read_bits}
use Rattle.bio_read.proofs.read_chunks.Given as goal

abbrev pub invariant-loop-left : goal.invariant-loop-left
invariant-loop-left l =
    (l.bio.ct ≤ 8) × (l.left ≤ l.n) × (l.n ≤ 32) × (l.value < 2 ^ (l.n - l.left)) × (read_bits_onto l.src l.left l.value l.bio ≡ read_bits l.src l.n l.initial.bio)

abbrev pub decreases-loop-left : goal.decreases-loop-left
decreases-loop-left l = l.left
