-- The round trip of the exported calls says something: packet A of SCOPE S16, written into an output with just the room and read back,
-- meets its premises, by computing.
use mathlib.Core.Path.{◌≡◌, refl}
use mathlib.Core.Bool.{false}
use mathlib.Core.List.{List, [], ◌∷◌}
use Prim.Native.Nat.{ℕ}
use native.Mathlib.Omega.{arith}
use lib.ListN.{replicate}
use Rattle.t800.specs.declared.Markers.{Markers}
use Rattle.t800.specs.declared.SegmentRecord.{SegmentRecord}
use Rattle.t800.specs.Reports.{as_records}
use Rattle.t800.specs.State.{writer, reader}
use Rattle.t800.specs.WriteHeader.{contribution}
use Rattle.t800.specs.Book.{terminated_at, terminated_as_style}
use Rattle.t800.specs.Exports.{band_in, start_call, write_call, read_call}
use Rattle.t800.specs.Starts.{StartsFit}
use Rattle.t800.specs.Interface.{WriteCall}
use Rattle.t800.specs.RoundTrip.{Owed, GivesEntry, written, packet_made, Follows, owed, all_terminated_as_style, book_of, ReadsAsOwed, RoundTrip}
use Rattle.t800.proofs.Table.{row_holds}
use Rattle.theorems.specs.Exports.{StartMade, WriteMade, ReadMade, read_args, read_left, read_told, StartsOfExports}
use Rattle.theorems.proofs.Exports.{exports, round_trip_of_exports, starts_of_exports}

-- one band of one block and 5 planes, style 0
abbrev bands : List ℕ
bands = 1 ∷ 1 ∷ 5 ∷ replicate 6 0

abbrev pub lent : List ℕ
lent = replicate 23 3

abbrev pub plain : Markers
plain = record { sop = false; eph = false }

abbrev pub started : (role : ℕ) → List ℕ → StartMade role
started role planes = record {
  count = 1;
  bands = bands;
  style = 0;
  planes = planes;
  lent = lent;
  left = start_call role 1 bands 0 planes lent;
  met = refl;
}

-- one pass of 5 bytes
abbrev call : WriteCall
call = record {
  scratch = lent;
  contribution = contribution (1 ∷ []) (5 ∷ []) (0 ∷ []);
  body = replicate 5 7;
  markers = plain;
  number = 0;
  output = replicate 6 9;
}

abbrev pub wrote : WriteMade
wrote =
    let state = (started writer (5 ∷ [])).left.state in
    record {
      state = state;
      call = call;
      answer = 9 ∷ [];
      left = write_call state call.scratch call.contribution call.body call.markers call.number call.output (9 ∷ []);
      met = refl;
    }

-- the input is the packet with its body; one record is lent
abbrev pub records : List SegmentRecord
records = record { block = 6; opens = 6; passes = 6; bytes = 6; start = 6 } ∷ []

abbrev pub was_read : ReadMade
was_read =
    let state = (started reader []).left.state in
    let input = wrote.left.output in
    record {
      state = state;
      scratch = lent;
      markers = plain;
      input = input;
      reports = replicate 4 5;
      work = replicate 4 4;
      records = records;
      answer = replicate 6 8;
      left = read_call state lent plain input (replicate 4 5) (replicate 4 4) records (replicate 6 8);
      met = refl;
    }

-- what is owed: the byte E5, one block with no zero planes, 5 planes and 1 pass, and one segment of 5 bytes
abbrev pub packet : Owed
packet = record {
  front = 0xe5 ∷ [];
  markers = plain;
  present = 1;
  entry = record {
    reports = record { inclusion = 1; zero_planes = 0; planes = 5; passes = 1 } ∷ [];
    records = record { block = 0; opens = 1; passes = 1; bytes = 5; start = 0 } ∷ [];
  };
}

one_owed : owed exports 0 (book_of exports (started writer (5 ∷ []))) (written wrote ∷ []) ≡ packet ∷ []
unfolding owed band_in start_call write_call row_holds
one_owed = refl

-- so the round trip applies to its read
applies : GivesEntry as_records packet (read_args was_read) (read_left was_read)
unfolding RoundTrip Follows owed all_terminated_as_style terminated_as_style terminated_at ReadsAsOwed band_in start_call write_call read_call
    row_holds
applies =
    (round_trip_of_exports (started writer (5 ∷ [])) (started reader []) refl refl refl refl refl (written wrote ∷ []) (refl, tt) tt
    (packet_made was_read ∷ []) refl refl
    (record { same_markers = refl; begins = refl; scratch_length_lem = refl; reports_length = refl; records_enough = omega arith })).0

-- and the read is one whose starts are sums
starts_apply : StartsFit (read_told was_read.left)
unfolding StartsOfExports band_in start_call write_call read_call row_holds
starts_apply = starts_of_exports was_read refl
