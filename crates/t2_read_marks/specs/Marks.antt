-- A marker that was looked for, and the answer where nothing is refused.
use Rattle.std.specs.Prelude.{ℕ, ◌+◌, List}
use Rattle.t800.specs.declared.Bio.{Bio}
use Rattle.t800.specs.declared.Markers.{Markers}
use Rattle.t800.specs.declared.ReadAnswer.{ReadAnswer}
use Rattle.t800.specs.Bits.{bio_at, bytes_taken, bits_past}
use Rattle.t800.specs.MarkerSegments.{MarkerRead, read_eph}
use Rattle.t2_read_marks.specs.declared.MarkerFound.{MarkerFound}
use Rattle.t2_read_marks.specs.declared.Mark.{Mark}
use Rattle.t2_read_marks.specs.declared.Mark.TheVariants.{InOrder, TooFew, NotFound}

abbrev pub mark_number : Mark → ℕ
mark_number InOrder = 0
mark_number TooFew = 1
mark_number NotFound = 2

abbrev pub marker_read : MarkerFound → MarkerRead
marker_read f = record { skip = f.skip; mark = mark_number f.mark }

-- the answer where nothing is refused, the header's bits ending at b: EPH is looked for after them
unfoldable pub done_answer : Markers → List ℕ → MarkerRead → Bio → ℕ → ℕ → ReadAnswer
done_answer m src s b present segments =
    let at = bytes_taken src b in
    let e = read_eph m src at in
    record {
      refusal = 0;
      present = present;
      taken = at + e.skip;
      segments = segments;
      sop = s.mark;
      eph = e.mark;
      past = bits_past src (bio_at s.skip) b;
    }
