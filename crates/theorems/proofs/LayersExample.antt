-- The round trip of several precincts says something: two precincts of one block, a writing call on one and then a layer call on both meet
-- its premises, by computing. And a layer call on one precinct twice, which the premises rule out, owes what its reader doesn't get.
use mathlib.Core.Path.{◌≡◌, refl}
use mathlib.Core.List.{List, [], ◌∷◌, ◌++◌, flat_map}
use Prim.Native.Nat.{ℕ}
use native.Mathlib.Omega.{arith}
use lib.ListN.{drop, replicate}
use Rattle.t800.specs.Reports.{as_records}
use Rattle.t800.specs.State.{writer, reader}
use Rattle.t800.specs.WriteHeader.{Contribution, contribution}
use Rattle.t800.specs.Book.{terminated_at, terminated_as_style}
use Rattle.t800.specs.Exports.{band_in, start_call, write_call, write_layer_call, read_call}
use Rattle.t800.specs.Layer.{LayerCall, asks, in_front, behind, singles, first_refused, write_layer}
use Rattle.t800.specs.RoundTrip.{Owed, GivesEntry, packet_made, book_of, ReadsAsOwed}
use Rattle.t800.proofs.Table.{row_holds}
use Rattle.whole_layer.specs.Several.{state_of, put_back, written_in, written_of, owed_for_all, all_terminated}
use Rattle.whole_layer.specs.Several.{SeveralMade, written_at, layered, Finds, after}
use Rattle.whole_layer.specs.Several.{Follows, packet_for, packets_for, SeveralRoundTrip}
use Rattle.theorems.specs.Exports.{StartMade, WriteMade, LayerMade, ReadMade, read_args, read_left}
use Rattle.theorems.proofs.Example.{lent, plain, started, wrote, was_read, records, packet}
use Rattle.theorems.proofs.Exports.{exports, layer_exports, layers_of_exports}

abbrev start : StartMade writer
start = started writer (5 ∷ [])

-- precinct 1 in front of precinct 0: one pass of 5 bytes in the one and of 3 in the other
abbrev layer : LayerMade
layer =
    let states : List ℕ = start.left.state ++ wrote.left.state in
    let call : LayerCall = record {
      scratch = replicate 46 3;
      contribution = contribution (1 ∷ 1 ∷ []) (5 ∷ 3 ∷ []) (0 ∷ 0 ∷ []);
      bodies = replicate 8 7;
      markers = plain;
      numbers = 0 ∷ 1 ∷ [];
      output = replicate 11 9;
    } in
    record { states = states; call = call; answer = 9 ∷ 9 ∷ []; left = write_layer_call states call (9 ∷ 9 ∷ []); met = refl }

abbrev calls : List (SeveralMade layer_exports)
calls = written_at 0 wrote ∷ layered (1 ∷ 0 ∷ []) layer ∷ []

abbrev owed_by : ℕ → List Owed
owed_by k = owed_for_all 0 (book_of exports start) (packets_for layer_exports k calls)

-- precinct 0 owes two packets and precinct 1 one; the second packet of precinct 0 begins behind the one of precinct 1
abbrev second : Owed
second = record {
  front = 0xc6 ∷ [];
  markers = plain;
  present = 1;
  entry = record {
    reports = record { inclusion = 2; zero_planes = 0; planes = 0; passes = 1 } ∷ [];
    records = record { block = 0; opens = 0; passes = 1; bytes = 3; start = 0 } ∷ [];
  };
}

two_owed : owed_by 0 ≡ packet ∷ second ∷ []
unfolding packet_for written_in written_of owed_for_all write_layer_call write_layer singles asks in_front behind first_refused flat_map band_in
    start_call write_call row_holds
two_owed = refl

one_owed : owed_by 1 ≡ packet ∷ []
unfolding packet_for written_in written_of owed_for_all write_layer_call write_layer singles asks in_front behind first_refused flat_map band_in
    start_call write_call row_holds
one_owed = refl

-- so the round trip applies to the second read of precinct 0, whose input is what the layer call left behind the packet of precinct 1
abbrev read_again : ReadMade
read_again =
    let state = was_read.left.state in
    let input = drop 6 layer.left.output in
    record {
      state = state;
      scratch = lent;
      markers = plain;
      input = input;
      reports = replicate 4 5;
      work = replicate 4 4;
      records = records;
      answer = replicate 6 8;
      left = read_call state lent plain input (replicate 4 5) (replicate 4 4) records (replicate 6 8);
      met = refl;
    }

applies : GivesEntry as_records second (read_args read_again) (read_left read_again)
unfolding SeveralRoundTrip Follows Finds after put_back packet_for written_in written_of owed_for_all all_terminated terminated_as_style terminated_at
    ReadsAsOwed write_layer_call write_layer singles asks in_front behind first_refused flat_map band_in start_call write_call read_call row_holds
applies =
    ((layers_of_exports [] (start ∷ []) start (started reader []) (refl, (refl, tt)) refl refl refl refl calls
    ((omega arith, refl), (((omega arith, (omega arith, tt)), ((omega arith, tt), (tt, tt)), refl, refl), tt)) tt
    (packet_made was_read ∷ packet_made read_again ∷ []) refl refl
    (record { same_markers = refl; begins = refl; scratch_length_lem = refl; reports_length = refl; records_enough = omega arith })).2
    refl refl
    (record { same_markers = refl; begins = refl; scratch_length_lem = refl; reports_length = refl; records_enough = omega arith })).0

-- ---- one precinct twice

-- a pass in the first packet, none in the second; the precinct is left with the second one's state
abbrev twice : LayerMade
twice =
    let states : List ℕ = start.left.state ++ start.left.state in
    let call : LayerCall = record {
      scratch = replicate 46 3;
      contribution = contribution (1 ∷ 0 ∷ []) (5 ∷ []) (0 ∷ []);
      bodies = replicate 5 7;
      markers = plain;
      numbers = 0 ∷ 1 ∷ [];
      output = replicate 7 9;
    } in
    record { states = states; call = call; answer = 9 ∷ 9 ∷ []; left = write_layer_call states call (9 ∷ 9 ∷ []); met = refl }

-- then one pass of 5 bytes
abbrev wrote-later : WriteMade
wrote-later =
    let state : List ℕ = drop 23 twice.left.states in
    let pass : Contribution = contribution (1 ∷ []) (5 ∷ []) (0 ∷ []) in
    let body : List ℕ = replicate 5 7 in
    let output : List ℕ = replicate 7 9 in
    record {
      state = state;
      call = record { scratch = lent; contribution = pass; body = body; markers = plain; number = 0; output = output };
      answer = 9 ∷ [];
      left = write_call state lent pass body plain 0 output (9 ∷ []);
      met = refl;
    }

abbrev calls-twice : List (SeveralMade layer_exports)
calls-twice = layered (0 ∷ 0 ∷ []) twice ∷ written_at 0 wrote-later ∷ []

-- all but `Distinct` of what is asked of the calls
found_states : (twice.states ≡ flat_map (state_of (start.left.state ∷ [])) (0 ∷ 0 ∷ []))
    × (after layer_exports (start.left.state ∷ []) (layered (0 ∷ 0 ∷ []) twice) ≡ wrote-later.state ∷ [])
unfolding after put_back write_layer_call write_layer singles asks in_front behind first_refused flat_map band_in start_call write_call row_holds
found_states = (refl, refl)

abbrev read-later : ReadMade
read-later =
    let state = was_read.left.state in
    let input = wrote-later.left.output in
    record {
      state = state;
      scratch = lent;
      markers = plain;
      input = input;
      reports = replicate 4 5;
      work = replicate 4 4;
      records = records;
      answer = replicate 6 8;
      left = read_call state lent plain input (replicate 4 5) (replicate 4 4) records (replicate 6 8);
      met = refl;
    }

-- the book has the block's second pass, and the bytes say that it is included for the first time: its reader takes it for absent
abbrev owed_second : Owed
owed_second = record {
  front = 0xb2 ∷ 0x80 ∷ [];
  markers = plain;
  present = 1;
  entry = record {
    reports = record { inclusion = 2; zero_planes = 0; planes = 0; passes = 1 } ∷ [];
    records = record { block = 0; opens = 0; passes = 1; bytes = 5; start = 0 } ∷ [];
  };
}

owed_later : owed_for_all 0 (book_of exports start) (packets_for layer_exports 0 calls-twice) ≡ packet ∷ owed_second ∷ []
unfolding packet_for written_in written_of owed_for_all write_layer_call write_layer singles asks in_front behind first_refused flat_map band_in
    start_call write_call row_holds
owed_later = refl

read-otherwise : (read_left read-later).reports ≡ 0 ∷ 0 ∷ 0 ∷ 0 ∷ []
unfolding write_layer_call write_layer singles asks in_front behind first_refused flat_map band_in start_call write_call read_call row_holds
read-otherwise = refl
