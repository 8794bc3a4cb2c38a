-- The first step of the exported read from gathered headers: the read on the work list, with room for so many records, and the lent list of
-- answer words.
use Rattle.std.specs.Prelude.{ℕ, cond, List, length, eqb}
use Rattle.t800.specs.declared.Markers.{Markers}
use Rattle.t800.specs.Refusals.{list_refusal}
use Rattle.t800.specs.Reports.{as_words}
use Rattle.t800.specs.Packet.{ReadResult, refused_answer, read_result}
use Rattle.t800.specs.Gathered.{told_beside, without_sop}
use Rattle.t800.specs.Exports.{gathered_words}
use Rattle.t2_read_numbers.specs.Reading.{read_numbers}
use Rattle.tonkelvi_read_parts.specs.Numbers.{NumbersCall}

abbrev pub gathered_of : Markers → (src : List ℕ) (result : ReadResult as_words) → NumbersCall
gathered_of m src r = record { result = r; answer = gathered_words (told_beside m src r.answer) }

unfoldable pub gathered_numbers : (state scratch : List ℕ) (markers : Markers) (headers src reports work : List ℕ) (room : ℕ)
    (answer : List ℕ) → NumbersCall
gathered_numbers state scratch markers headers src reports work room answer =
    cond (eqb (length answer) 7)
    (gathered_of markers src (read_numbers state scratch (without_sop markers) headers reports work room))
    (record { result = read_result as_words state scratch reports work (refused_answer list_refusal); answer = answer })
