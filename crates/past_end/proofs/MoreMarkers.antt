-- SOP and EPH that had their bytes are the same with more input.
use mathlib.Core.Path.{◌≡◌}
use mathlib.Core.Logic.{◌≢◌}
use mathlib.Core.List.{List, ◌++◌}
use Prim.Native.Nat.{ℕ}
use native.Mathlib.Omega.{arith}
use Rattle.t800.specs.declared.Markers.{Markers}
use Rattle.t800.specs.MarkerSegments.{read_sop, read_eph}
use Rattle.past_end.proofs.SameMarkers.{same_marker}

module _ (m : Markers) (src more : List ℕ) where
  pub same_sop : (read_sop m src).mark ≢ 1 → read_sop m (src ++ more) ≡ read_sop m src
  unfolding read_sop
  same_sop h = same_marker m.sop 6 0x91 src more 0 (omega arith) h

  pub same_eph : (place : ℕ) → (read_eph m src place).mark ≢ 1 → read_eph m (src ++ more) place ≡ read_eph m src place
  unfolding read_eph
  same_eph place h = same_marker m.eph 2 0x92 src more place (omega arith) h
