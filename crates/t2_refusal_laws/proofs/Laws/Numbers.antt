-- A refusal's number is not that of success.
use mathlib.Core.Logic.{◌≢◌}
use native.Mathlib.Omega.{arith}
use Rattle.t800.specs.declared.Refusal.{Refusal}
use Rattle.t800.specs.declared.Refusal.TheVariants.{Shape, Style, List, Planes, State, Layers, Passes, Length, Width, Body, Space, HeaderEnd, Records, Precincts, Segments, Packed}
use Rattle.t800.specs.RefusalNumbers.{number_of}

pub number-not_0 : (why : Refusal) → number_of why ≢ 0
number-not_0 Shape = omega arith
number-not_0 Style = omega arith
number-not_0 List = omega arith
number-not_0 Planes = omega arith
number-not_0 State = omega arith
number-not_0 Layers = omega arith
number-not_0 Passes = omega arith
number-not_0 Length = omega arith
number-not_0 Width = omega arith
number-not_0 Body = omega arith
number-not_0 Space = omega arith
number-not_0 HeaderEnd = omega arith
number-not_0 Records = omega arith
number-not_0 Precincts = omega arith
number-not_0 Segments = omega arith
number-not_0 Packed = omega arith
