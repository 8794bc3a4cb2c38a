-- The first step of the exported read: the read on the work list, with room for so many records, and the lent list of answer words.
use Rattle.std.specs.Prelude.{ℕ, cond, List, length, eqb}
use Rattle.t800.specs.declared.Markers.{Markers}
use Rattle.t800.specs.Refusals.{list_refusal}
use Rattle.t800.specs.Reports.{as_words}
use Rattle.t800.specs.Packet.{ReadResult, refused_answer, read_result}
use Rattle.t800.specs.Exports.{read_words}
use Rattle.t2_read_numbers.specs.Reading.{read_numbers}

pub record NumbersCall : Type 0 where
  pub result : ReadResult as_words
  pub answer : List ℕ

abbrev pub numbers_of : (result : ReadResult as_words) → NumbersCall
numbers_of r = record { result = r; answer = read_words r.answer }

unfoldable pub numbers_call : (state : List ℕ) (scratch : List ℕ) (markers : Markers) (input : List ℕ) (reports : List ℕ)
    (work : List ℕ) (room : ℕ) (answer : List ℕ) → NumbersCall
numbers_call state scratch markers input reports work room answer =
    cond (eqb (length answer) 6) (numbers_of (read_numbers state scratch markers input reports work room))
    (record { result = read_result as_words state scratch reports work (refused_answer list_refusal); answer = answer })
