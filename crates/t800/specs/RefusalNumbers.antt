-- The code's names for the refusals, and their numbers.
use Rattle.std.specs.Prelude.{ℕ, Option, None, Some}
use Rattle.t800.specs.declared.Refusal.{Refusal}
use Rattle.t800.specs.declared.Refusal.TheVariants.{Shape, Style, List, Planes, State, Layers, Passes, Length, Width, Body, Space, HeaderEnd, Records, Precincts, Segments, Packed}
use Rattle.t800.specs.Refusals.{shape_refusal, style_refusal, list_refusal, planes_refusal, state_refusal, layers_refusal, passes_refusal, length_refusal}
use Rattle.t800.specs.Refusals.{width_refusal, body_refusal, space_refusal, header_end_refusal, records_refusal, precincts_refusal, segments_refusal, packed_refusal}

abbrev pub number_of : Refusal → ℕ
number_of Shape = shape_refusal
number_of Style = style_refusal
number_of List = list_refusal
number_of Planes = planes_refusal
number_of State = state_refusal
number_of Layers = layers_refusal
number_of Passes = passes_refusal
number_of Length = length_refusal
number_of Width = width_refusal
number_of Body = body_refusal
number_of Space = space_refusal
number_of HeaderEnd = header_end_refusal
number_of Records = records_refusal
number_of Precincts = precincts_refusal
number_of Segments = segments_refusal
number_of Packed = packed_refusal

-- 0 where nothing is refused
abbrev pub word_of : Option Refusal → ℕ
word_of None = 0
word_of (Some r) = number_of r
