use native.Mathlib.Omega.{arith}
use mathlib.Core.Path.{sym}
use lib.ListN.{take, length-take, get_or-eq_default}
use lib.Seq.{get_or-take}
use Rattle.tcd_laws.specs.Geometry.{no_band}
use Rattle.t2_start_parts.proofs.used_band.Goals as goal

pub returns-then-i-n : goal.returns-then-i-n
returns-then-i-n c = let s = c.args in sym (get_or-take s.n s.bands s.i no_band c.if-i-n.true)

pub returns : goal.returns
returns c = let s = c.args in sym (get_or-eq_default (take s.n s.bands) no_band (simp length-take (omega arith)))
