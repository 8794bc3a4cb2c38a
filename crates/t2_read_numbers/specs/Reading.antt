-- The two steps of a read into structs: t800's `read` on the work list, and how many structs are then stored from it.
use Rattle.std.specs.Prelude.{ℕ, ◌*◌, cond, ◌||◌, List, length, eqb}
use Rattle.t800.specs.declared.Markers.{Markers}
use Rattle.t800.specs.declared.ReadAnswer.{ReadAnswer}
use Rattle.t800.specs.Refusals.{width_refusal, header_end_refusal, records_refusal}
use Rattle.t800.specs.Reports.{record_width, as_words}
use Rattle.t800.specs.Packet.{ReadResult, refused_answer, read, read_result}
use Rattle.t800.specs.Exports.{work_refusal}

-- a work list of another length than is asked
abbrev pub wrong_work : (state : List ℕ) (scratch : List ℕ) (reports : List ℕ) (work : List ℕ) → ReadResult as_words
wrong_work state scratch reports work = read_result as_words state scratch reports work (refused_answer (work_refusal state scratch))

-- the read on the work list, with room for so many records
unfoldable pub read_numbers : (state : List ℕ) (scratch : List ℕ) (markers : Markers) (input : List ℕ) (reports : List ℕ)
    (work : List ℕ) (room : ℕ) → ReadResult as_words
read_numbers state scratch markers input reports work room =
    cond (eqb (length work) (record_width * room)) (read as_words state scratch markers input reports work)
    (wrong_work state scratch reports work)

-- how many records are then stored: the segments found, or all where the work list was wiped
unfoldable pub to_fill : (answer : ReadAnswer) (room : ℕ) → ℕ
to_fill a room =
    cond (eqb a.refusal 0) a.segments
    (cond (eqb a.refusal width_refusal || eqb a.refusal header_end_refusal || eqb a.refusal records_refusal) room 0)
