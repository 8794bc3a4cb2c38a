-- The refusals (SCOPE S4). Each number has its name here; what a call looks for is a list of numbers with their conditions, in order.
use Rattle.std.specs.Prelude.{ℕ, Bool, cond, List, [], ◌∷◌}

abbrev pub shape_refusal : ℕ
shape_refusal = 1

abbrev pub style_refusal : ℕ
style_refusal = 2

abbrev pub list_refusal : ℕ
list_refusal = 3

abbrev pub planes_refusal : ℕ
planes_refusal = 4

abbrev pub state_refusal : ℕ
state_refusal = 5

abbrev pub layers_refusal : ℕ
layers_refusal = 6

abbrev pub passes_refusal : ℕ
passes_refusal = 7

abbrev pub length_refusal : ℕ
length_refusal = 8

abbrev pub width_refusal : ℕ
width_refusal = 9

abbrev pub body_refusal : ℕ
body_refusal = 10

abbrev pub space_refusal : ℕ
space_refusal = 11

abbrev pub header_end_refusal : ℕ
header_end_refusal = 12

abbrev pub records_refusal : ℕ
records_refusal = 13

abbrev pub precincts_refusal : ℕ
precincts_refusal = 14

abbrev pub segments_refusal : ℕ
segments_refusal = 15

abbrev pub packed_refusal : ℕ
packed_refusal = 16

-- a number, and whether its condition holds
pub record Check : Type 0 where
  pub number : ℕ
  pub holds : Bool

abbrev pub check : (number : ℕ) (holds : Bool) → Check
check number holds = record { number = number; holds = holds }

-- the first number whose condition holds, or 0
abbrev pub first_of : List Check → ℕ
first_of [] = 0
first_of (c ∷ cs) = cond c.holds c.number (first_of cs)
