-- A header read, or refused.
use Rattle.std.specs.Prelude.{ℕ, cond, List, eqb}
use Rattle.t800.specs.declared.Markers.{Markers}
use Rattle.t800.specs.Base.{wiped}
use Rattle.t800.specs.MarkerSegments.{MarkerRead}
use Rattle.t800.specs.ReadHeader.{HeaderRead}
use Rattle.t800.specs.Reports.{as_words}
use Rattle.t800.specs.Packet.{ReadResult, refused_answer, read_present}

-- a first bit 1, and the header read, or refused
unfoldable pub present_or_broken : List ℕ → List ℕ → Markers → List ℕ → List ℕ → List ℕ → MarkerRead → HeaderRead → ReadResult as_words
present_or_broken ws scratch m src reports records s r =
    let present = read_present as_words ws m src records s r in
    let broken : ReadResult as_words =
    record {
      answer = refused_answer r.refusal;
      state = ws;
      scratch = wiped scratch;
      reports = wiped reports;
      records = wiped records;
    } in
    cond (eqb r.refusal 0) present broken
