use Rattle.std.proofs.Common.{◌≡◌, ltb, not, take}
use Rattle.t800.specs.Base.{any}
use Rattle.tcd_laws.specs.Parts.{fault}
use Rattle.tcd_shape.proofs.any_over.Given as goal

abbrev pub invariant-loop-p : goal.invariant-loop-p
invariant-loop-p l = l.faults ≡ fault (not (any (λ x. ltb l.most x) (take l.p-index l.planes)))
