-- The numbers of refusals: none is 0.
use mathlib.Core.Logic.{◌≢◌}
use native.Mathlib.Omega.{arith}
use Rattle.t800.specs.declared.Refusal.{Refusal}
use Rattle.t800.specs.declared.Refusal.TheVariants.{Shape, Style, List, Planes, State, Layers, Passes, Length, Width, Body, Space, HeaderEnd, Records, Precincts, Segments, Packed}
use Rattle.t800.specs.RefusalNumbers.{number_of}

pub refusal_counts : (why : Refusal) → number_of why ≢ 0
refusal_counts Shape = omega arith
refusal_counts Style = omega arith
refusal_counts List = omega arith
refusal_counts Planes = omega arith
refusal_counts State = omega arith
refusal_counts Layers = omega arith
refusal_counts Passes = omega arith
refusal_counts Length = omega arith
refusal_counts Width = omega arith
refusal_counts Body = omega arith
refusal_counts Space = omega arith
refusal_counts HeaderEnd = omega arith
refusal_counts Records = omega arith
refusal_counts Precincts = omega arith
refusal_counts Segments = omega arith
refusal_counts Packed = omega arith
