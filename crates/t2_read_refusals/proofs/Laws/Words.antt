-- What the number of a refusal says of it.
use Rattle.std.proofs.Common.{◌≡◌, ◌≢◌, Option, None, Some, arith, refl}
use Rattle.t800.specs.declared.Refusal.{Refusal}
use Rattle.t800.specs.declared.Refusal.TheVariants.{Shape, Style, List, Planes, State, Layers, Passes, Length, Width, Body, Space, HeaderEnd, Records, Precincts, Segments, Packed}
use Rattle.t800.specs.RefusalNumbers.{number_of, word_of}

pub number-ne0 : (r : Refusal) → number_of r ≢ 0
number-ne0 Shape = omega arith
number-ne0 Style = omega arith
number-ne0 List = omega arith
number-ne0 Planes = omega arith
number-ne0 State = omega arith
number-ne0 Layers = omega arith
number-ne0 Passes = omega arith
number-ne0 Length = omega arith
number-ne0 Width = omega arith
number-ne0 Body = omega arith
number-ne0 Space = omega arith
number-ne0 HeaderEnd = omega arith
number-ne0 Records = omega arith
number-ne0 Precincts = omega arith
number-ne0 Segments = omega arith
number-ne0 Packed = omega arith

-- where there is no refusal the word is 0
pub word-0 : (why : Option Refusal) → ((r : Refusal) → why ≢ Some r) → word_of why ≡ 0
word-0 None n = refl
word-0 (Some r) n = absurd (n r refl)
