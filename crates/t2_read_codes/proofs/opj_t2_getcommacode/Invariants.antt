use mathlib.Core.Path.{◌≡◌}
use Prim.Native.Nat.{◌-◌, ◌≤◌}
use Rattle.t800.specs.Segments.{read_ones}
use Rattle.t2_read_codes.specs.CommaCode.{read_comma_limited}
use Rattle.t2_read_codes.proofs.opj_t2_getcommacode.Given as goal

-- The invariant: what is left to read, after the ones that are read, is the whole.
abbrev pub invariant-loop-value : goal.invariant-loop-value
invariant-loop-value l =
    (l.bio.ct ≤ 8) × (read_ones l.src (l.limit - l.value) l.value l.bio ≡ read_comma_limited l.src l.initial.bio)
