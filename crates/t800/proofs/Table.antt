-- A table of calls on precincts, and what it is for a row to hold: each call is computed and compared with what the row says of it, with
-- the rule of SCOPE S5 for every lent list, and each read of a packet that the row wrote with the book's entry. No definition rests
-- on this.
use Prim.Native.Nat.{ℕ, zero, suc, ◌+◌, ◌/◌}
use mathlib.Core.Bool.{Bool, true, false, cond, ◌&&◌, ◌||◌}
use mathlib.Core.List.{List, [], ◌∷◌, ◌++◌, flat_map}
use lib.ListN.{length, get_or, drop, replicate}
use lib.Dec.{leb, eqb}
use Rattle.t800.specs.declared.Band.{Band}
use Rattle.t800.specs.declared.Markers.{Markers}
use Rattle.t800.specs.declared.LayerAnswer.{LayerAnswer}
use Rattle.t800.specs.declared.ReadAnswer.{ReadAnswer}
use Rattle.t800.specs.declared.ReadGatheredAnswer.{ReadGatheredAnswer}
use Rattle.t800.specs.declared.SegmentRecord.{SegmentRecord}
use Rattle.t800.specs.Base.{every, any, sum, halvings, floor_log2, overwrite, wiped}
use Rattle.t800.specs.Bits.{bits_of, bits_after, last_bytes, pack_from, pack, byte_in, held_bit, get_bit, read_bits_onto, read_bits}
use Rattle.t800.specs.Bits.{in_ff, ends_in_ff, bytes_taken, past_end, read_bit, bits_past_from, bits_past}
use Rattle.t800.specs.TagTree.{levels_from, levels, nodes_in, nodes, parent_from, parent_of, climb_from, path_to_root, set_value}
use Rattle.t800.specs.TagTree.{low_after, node_bits, known_after, code_path, read_node, read_path}
use Rattle.t800.specs.PassCount.{pass_bits, read_passes}
use Rattle.t800.specs.Segments.{term_all, bypass, first_limit, next_limit, is_limit, segments_from, segments_of, width, bit_length}
use Rattle.t800.specs.Segments.{increment, comma_bits, length_fields, read_ones, read_comma}
use Rattle.t800.specs.State.{writer, reader, blocks_in, band_nodes, band_length, blocks_from, blocks_at, end_of, blocks}
use Rattle.t800.specs.State.{state_length, band_at, bands}
use Rattle.t800.specs.Ranges.{bad_shape, bad_style, band_too_deep, block_too_deep, node_in_range, block_in_range, band_in_range_with}
use Rattle.t800.specs.Ranges.{bands_in_range_with, unused_bands_zero, valid_state_with}
use Rattle.t800.specs.Start.{fresh_nodes, fresh_blocks, fresh_bands_with, band_words, fresh_state_with, set_zero_planes, start_refusal, start}
use Rattle.t800.specs.Start.{start_with}
use Rattle.t800.specs.Reports.{record_width, report_words, record_words, body_bytes, RecordForm, as_records, as_words}
use Rattle.t800.specs.WriteHeader.{Contribution, is_new, length_bits_before, set_new_blocks, code_inclusion, code_zero_planes}
use Rattle.t800.specs.WriteHeader.{code_passes, code_block, code_blocks, contributes, code_present, code_absent, code_header}
use Rattle.t800.specs.WriteHeader.{segment_too_long, field_too_wide}
use Rattle.t800.specs.ReadHeader.{opens_segment, current_limit, current_passes, passes_taken, read_segment, read_segments}
use Rattle.t800.specs.ReadHeader.{read_zero_planes_from, read_zero_planes, first_report, again_report, read_included, read_new_block}
use Rattle.t800.specs.ReadHeader.{read_old_block, read_block, read_blocks, read_header}
use Rattle.t800.specs.MarkerSegments.{sop_bytes, eph_bytes, with_markers, read_marker, read_sop, read_eph}
use Rattle.t800.specs.Packet.{wrong_lists, measure_refusal_with, front, MeasureResult, measure, measure_with, packet, write_refusal_with}
use Rattle.t800.specs.Packet.{WriteResult}
use Rattle.t800.specs.Packet.{write, write_with, read_refusal_with, read_absent, read_present, ReadResult, read, read_with}
use Rattle.t800.specs.Layer.{LayerResult, asks, in_front, behind, singles, first_refused, write_layer}
use Rattle.t800.specs.PackedHeaders.{ppt_segment, packed_from, packed, segments_for, bad_segment, unpacked_from, unpacked}
use Rattle.t800.specs.Gathered.{read_gathered, states_from, states_in, bad_states, parts_in_row, parts_gathered, gather_packet}
use Rattle.t800.specs.Gathered.{gather_packets, gather, spread_packet, spread_packets, spread}
use Rattle.t800.specs.Book.{BlockEntry, Entry, opens_at, new_entries, new_book, report_of, records_from, records_of, entry_from}
use Rattle.t800.specs.Book.{entry, add_counts}

-- ---- rows

-- a start: role, band count, bands, style byte, block planes, words of the lent state
pub record Starting : Type 0 where
  pub role : ℕ
  pub count : ℕ
  pub given : List Band
  pub style : ℕ
  pub planes : List ℕ
  pub lent : ℕ

-- a writing call: what it is given, and how many scratch words, body bytes and output bytes it is lent
pub record Writing : Type 0 where
  pub contribution : Contribution
  pub markers : Markers
  pub number : ℕ
  pub scratch : ℕ
  pub body : ℕ
  pub output : ℕ

-- a layer call: what it is given, and how many scratch words and output bytes it is lent
pub record LayerWriting : Type 0 where
  pub states : List ℕ
  pub contribution : Contribution
  pub bodies : List ℕ
  pub markers : Markers
  pub numbers : List ℕ
  pub scratch : ℕ
  pub output : ℕ

-- a reading call: what it is given, and how many words of scratch, reports and records it is lent
pub record Reading : Type 0 where
  pub markers : Markers
  pub input : List ℕ
  pub scratch : ℕ
  pub reports : ℕ
  pub records : ℕ

-- a reading call from gathered headers: what is given beside an ordinary one's
pub record GatheredReading : Type 0 where
  pub headers : List ℕ
  pub beside : Reading

-- the move of a row's headers, and back: what is given, and how many scratch words and bytes of output are lent
pub record Moving : Type 0 where
  pub states : List ℕ
  pub scratch : ℕ
  pub places : List ℕ
  pub markers : Markers

pub record ToGather : Type 0 where
  pub row : List ℕ
  pub with : Moving
  pub headers : ℕ
  pub bodies : ℕ

pub record ToSpread : Type 0 where
  pub headers : List ℕ
  pub bodies : List ℕ
  pub with : Moving
  pub row : ℕ

pub data Step : Type 0 where
  -- a start on a list of its own, and its answer
  starts : Starting → ℕ → Step
  -- the words of the row's writer, or of its reader, from here on; or what they are here
  loads_writer loads-reader holds-writer holds-reader : List ℕ → Step
  -- a writing call and the measuring call with the same arguments: the refusal or 0, and the packet less its body
  writes : Writing → ℕ → List ℕ → Step
  -- the same of a packet whose body is too long to be built: measured, its header computed, and the state moved on
  heads : Writing → ℕ → List ℕ → Step
  -- a layer call on states of its own: its answer as refusal, place, bytes; the packets, and the states after them
  writes_layer : LayerWriting → List ℕ → List ℕ → List ℕ → Step
  -- a reading call: its answer as refusal, present, taken, segments, SOP mark, EPH mark, bits past the end; reports; records, four
  -- words each, and their starts
  reads_starts : Reading → List ℕ → List ℕ → List ℕ → List ℕ → Step
  -- a reading call from gathered headers: its answer as refusal, present, header bytes, bytes beside, segments, SOP mark, EPH mark, bits
  -- past the end; reports; records, four words each
  reads_gathered : GatheredReading → List ℕ → List ℕ → List ℕ → Step
  -- the move: its number, the segments, the bodies, and the states after it; and back: its number, the row, the states after it
  gathers : ToGather → ℕ → List ℕ → List ℕ → List ℕ → Step
  spreads : ToSpread → ℕ → List ℕ → List ℕ → Step

-- a writer and a reader that are started alike, and steps on them
pub record Row : Type 0 where
  pub given : List Band
  pub planes : List ℕ
  pub style : ℕ
  pub steps : List Step

-- ---- what holds

unfoldable pub same : List ℕ → List ℕ → Bool
same [] [] = true
same [] (y ∷ ys) = false
same (x ∷ xs) [] = false
same (x ∷ xs) (y ∷ ys) = eqb x y && same xs ys

abbrev layer_words : LayerAnswer → List ℕ
layer_words a = a.refusal ∷ a.place ∷ a.bytes ∷ []

abbrev answer_words : ReadAnswer → List ℕ
answer_words a = a.refusal ∷ a.present ∷ a.taken ∷ a.segments ∷ a.sop ∷ a.eph ∷ a.past ∷ []

abbrev gathered_answer : ReadGatheredAnswer → List ℕ
gathered_answer a = a.refusal ∷ a.present ∷ a.headers ∷ a.taken ∷ a.segments ∷ a.sop ∷ a.eph ∷ a.past ∷ []

-- the lent lists at entry
abbrev scratch_of : ℕ → List ℕ
scratch_of n = replicate n 3

abbrev body_of : ℕ → List ℕ
body_of n = replicate n 7

abbrev output_of : ℕ → List ℕ
output_of n = replicate n 9

abbrev reports_of : ℕ → List ℕ
reports_of n = replicate n 5

abbrev records_lent : ℕ → List ℕ
records_lent n = replicate n 6

-- as many structs as these words have room for
abbrev structs_lent : ℕ → List SegmentRecord
structs_lent n = replicate (n / record_width) (record { block = 6; opens = 6; passes = 6; bytes = 6; start = 6 })

-- ---- records with their starts

-- n records of these words, four each: the sums of the lengths before each
unfoldable pub sums_from : (n before : ℕ) (words : List ℕ) → List ℕ
sums_from zero before words = []
sums_from (suc n) before words = before ∷ sums_from n (before + get_or words 3 0) (drop record_width words)

-- a reading call whose records start at the sums of the lengths before them
abbrev pub reads : Reading → List ℕ → List ℕ → List ℕ → Step
reads c answer reports records = reads_starts c answer reports records (sums_from (length records / record_width) 0 records)

-- the records of these words, with these starts
unfoldable pub records_with : (begins words : List ℕ) → List SegmentRecord
records_with [] words = []
records_with (s ∷ ss) words =
    record { block = get_or words 0 0; opens = get_or words 1 0; passes = get_or words 2 0; bytes = get_or words 3 0; start = s }
    ∷ records_with ss (drop record_width words)

unfoldable pub fields : List SegmentRecord → List ℕ
fields [] = []
fields (r ∷ rs) = r.block ∷ r.opens ∷ r.passes ∷ r.bytes ∷ r.start ∷ fields rs

-- ---- what a call gives

unfoldable pub start_holds : Starting → ℕ → Bool
start_holds s why =
    let lent = scratch_of s.lent in
    let r = start s.role s.count s.given s.style s.planes lent in
    eqb r.answer why && (eqb why 0 || same r.state lent)

-- measuring: refused with `why`, or with the lengths of the packet and the state after it in scratch
unfoldable pub measure_holds : Writing → MeasureResult → ℕ → List ℕ → List ℕ → Bool
measure_holds c m why bytes after =
    let done = eqb m.answer.header (length bytes) && eqb m.answer.body (sum c.contribution.lengths) && same m.scratch
    after in
    let otherwise = eqb m.answer.header 0 && eqb m.answer.body 0 && same m.scratch (scratch_of c.scratch) in
    eqb m.answer.refusal why && cond (eqb why 0) done otherwise

unfoldable pub write_holds : Writing → List ℕ → WriteResult → ℕ → List ℕ → Bool
write_holds c w o why bytes =
    let out = output_of c.output in
    let scr = scratch_of c.scratch in
    let done = same o.output (overwrite out (bytes ++ body_of c.body)) && same o.scratch o.state && eqb
    o.answer.bytes (length bytes + c.body) in
    let wipes = eqb why 11 in
    let otherwise =
    same o.output (cond wipes (wiped out) out) && same o.scratch (cond wipes (wiped scr) scr) && same o.state w && eqb
    o.answer.bytes 0 in
    eqb o.answer.refusal why && cond (eqb why 0) done otherwise

-- 14 and an empty list leave each list as it was; otherwise all of it was written, or none
unfoldable pub layer_holds : LayerWriting → LayerResult → List ℕ → List ℕ → List ℕ → Bool
layer_holds c o answer packets after =
    let out = output_of c.output in
    let scr = scratch_of c.scratch in
    let why = o.answer.refusal in
    let untouched = same o.states c.states && same o.scratch scr && same o.output out in
    let all = same o.states after && same o.scratch after && same o.output (overwrite out packets) in
    let none = same o.states c.states && same o.scratch (wiped scr) && same o.output (wiped out) in
    same (layer_words o.answer) answer
    && cond (eqb why 14 || eqb (length c.numbers) 0) untouched (cond (eqb why 0) all none)

-- the answer and each list but the records, for either form of them
unfoldable pub lists_hold : {form : RecordForm} → Reading → List ℕ → ReadResult form → List ℕ → List ℕ → Bool
lists_hold c r o answer reports =
    let scr = scratch_of c.scratch in
    let rep = reports_of c.reports in
    let why = o.answer.refusal in
    let wipes = leb 9 why in
    let done = same o.reports reports && same o.scratch o.state in
    let otherwise =
    same o.reports (cond wipes (wiped rep) rep) && same o.scratch (cond wipes (wiped scr) scr) && same o.state r in
    same (answer_words o.answer) answer && cond (eqb why 0) done otherwise

-- records as words, and as structs with their starts
unfoldable pub words_hold : Reading → ReadResult as_words → List ℕ → Bool
words_hold c o records =
    let rec = records_lent c.records in
    let why = o.answer.refusal in
    same o.records (cond (eqb why 0) (overwrite rec records) (cond (leb 9 why) (wiped rec) rec))

unfoldable pub structs_hold : Reading → ReadResult as_records → List SegmentRecord → Bool
structs_hold c o records =
    let rec = structs_lent c.records in
    let why = o.answer.refusal in
    let kept = cond (eqb why 0) (fields (overwrite rec records)) (fields rec) in
    same (fields o.records) (cond (leb 9 why) (wiped (fields rec)) kept)

-- ---- headers gathered in front

-- the answer, and each list as an ordinary read leaves it
unfoldable pub gathered_holds : GatheredReading → List ℕ → List ℕ → List ℕ → List ℕ → Bool
gathered_holds c r answer reports records =
    let b = c.beside in
    let o = read_gathered as_words r (scratch_of b.scratch) b.markers c.headers b.input (reports_of b.reports)
    (records_lent b.records) in
    let p = read_gathered as_records r (scratch_of b.scratch) b.markers c.headers b.input (reports_of b.reports)
    (structs_lent b.records) in
    let why = o.answer.refusal in
    let wipes = leb 9 why in
    let scr = scratch_of b.scratch in
    let rep = reports_of b.reports in
    let rec = records_lent b.records in
    let told = records_with (sums_from (length records / record_width) 0 records) records in
    let done = same o.reports reports && same o.scratch o.state && same o.records (overwrite rec records)
    && same (fields p.records) (fields (overwrite (structs_lent b.records) told)) in
    let otherwise =
    same o.reports (cond wipes (wiped rep) rep) && same o.scratch (cond wipes (wiped scr) scr) && same o.state r
    && same o.records (cond wipes (wiped rec) rec) in
    same (gathered_answer o.answer) answer && same (gathered_answer p.answer) answer && cond (eqb why 0) done otherwise

-- the state after it
unfoldable pub gathered_after : GatheredReading → List ℕ → List ℕ
gathered_after c r =
    let b = c.beside in
    (read_gathered as_words r (scratch_of b.scratch) b.markers c.headers b.input (reports_of b.reports)
    (records_lent b.records)).state

unfoldable pub gather_holds : ToGather → (why : ℕ) (segments bodies after : List ℕ) → Bool
gather_holds c why segments bodies after =
    let w = c.with in
    let scr = scratch_of w.scratch in
    let hs = output_of c.headers in
    let bs = output_of c.bodies in
    let o = gather c.row w.states scr w.places w.markers hs bs in
    let done = same o.headers (overwrite hs segments) && same o.bodies (overwrite bs bodies) && same o.scratch after
    && eqb o.answer.headers (length segments) && eqb o.answer.bodies (length bodies) in
    let none = same o.headers (wiped hs) && same o.bodies (wiped bs) && same o.scratch (wiped scr) && eqb o.answer.headers 0
    && eqb o.answer.bodies 0 in
    eqb o.answer.refusal why && cond (eqb why 0) done none

unfoldable pub spread_holds : ToSpread → (why : ℕ) (row after : List ℕ) → Bool
spread_holds c why row after =
    let w = c.with in
    let scr = scratch_of w.scratch in
    let lent = output_of c.row in
    let o = spread c.headers c.bodies w.states scr w.places w.markers lent in
    let done = same o.row (overwrite lent row) && same o.scratch after && eqb o.answer.bytes (length row) in
    let none = same o.row (wiped lent) && same o.scratch (wiped scr) && eqb o.answer.bytes 0 in
    eqb o.answer.refusal why && cond (eqb why 0) done none

-- the book's next entry, where the row wrote a packet for it
unfoldable pub as_owed : List Entry → List ℕ → List SegmentRecord → Bool
as_owed [] reports records = true
as_owed (e ∷ es) reports records = same (report_words e.reports) reports && same (fields e.records) (fields records)

-- the style; the book and the entries not yet read; the writer's words and the reader's
unfoldable pub steps_hold : ℕ → List Step → List BlockEntry → List Entry → List ℕ → List ℕ → Bool
steps_hold style [] book es w r = true
steps_hold style (starts s why ∷ rest) book es w r = start_holds s why && steps_hold style rest book es w r
steps_hold style (loads_writer ws ∷ rest) book es w r = steps_hold style rest book es ws r
steps_hold style (loads-reader ws ∷ rest) book es w r = steps_hold style rest book es w ws
steps_hold style (holds-writer ws ∷ rest) book es w r = same w ws && steps_hold style rest book es w r
steps_hold style (holds-reader ws ∷ rest) book es w r = same r ws && steps_hold style rest book es w r
steps_hold style (writes c why bytes ∷ rest) book es w r =
    let p = c.contribution in
    let m = measure w (scratch_of c.scratch) p c.markers in
    let o = write w (scratch_of c.scratch) p (body_of c.body) c.markers c.number (output_of c.output) in
    let owes = steps_hold style rest (add_counts book p.counts) (es ++ entry style book p.counts p.lengths ∷ []) o.state r in
    let otherwise = steps_hold style rest book es o.state r in
    (leb 10 why || measure_holds c m why bytes o.state) && write_holds c w o why bytes && cond (eqb why 0) owes otherwise
steps_hold style (heads c why bytes ∷ rest) book es w r =
    let p = c.contribution in
    let m = measure w (scratch_of c.scratch) p c.markers in
    let next = same (front w p c.markers c.number) bytes && steps_hold style rest book es m.scratch r in
    let otherwise = steps_hold style rest book es w r in
    measure_holds c m why bytes m.scratch && cond (eqb why 0) next otherwise
steps_hold style (writes_layer c answer packets after ∷ rest) book es w r =
    let o = write_layer c.states
    (record {
      scratch = scratch_of c.scratch;
      contribution = c.contribution;
      bodies = c.bodies;
      markers = c.markers;
      numbers = c.numbers;
      output = output_of c.output;
    }) in
    layer_holds c o answer packets after && steps_hold style rest book es w r
steps_hold style (reads_starts c answer reports records begins ∷ rest) book es w r =
    let o = read as_words r (scratch_of c.scratch) c.markers c.input (reports_of c.reports) (records_lent c.records) in
    let p = read as_records r (scratch_of c.scratch) c.markers c.input (reports_of c.reports) (structs_lent c.records) in
    let told = records_with begins records in
    let in_words = lists_hold c r o answer reports && words_hold c o records in
    let in_structs = lists_hold c r p answer reports && structs_hold c p told in
    let next = as_owed es reports told && steps_hold style rest book (drop 1 es) w o.state in
    let otherwise = steps_hold style rest book es w o.state in
    in_words && in_structs && cond (eqb o.answer.refusal 0) next otherwise
steps_hold style (reads_gathered c answer reports records ∷ rest) book es w r =
    gathered_holds c r answer reports records && steps_hold style rest book es w (gathered_after c r)
steps_hold style (gathers c why segments bodies after ∷ rest) book es w r =
    gather_holds c why segments bodies after && steps_hold style rest book es w r
steps_hold style (spreads c why row after ∷ rest) book es w r = spread_holds c why row after && steps_hold style rest book es w r

-- `unfolding row_holds` computes a row: it opens every definition of the base
unfoldable pub row_holds : Row → Bool
unfolding same sums_from records_with fields start_holds measure_holds write_holds layer_holds lists_hold words_hold structs_hold as_owed
    steps_hold every any sum halvings floor_log2 overwrite bits_of bits_after last_bytes pack_from pack byte_in held_bit get_bit
    read_bits_onto read_bits in_ff ends_in_ff bytes_taken past_end read_bit bits_past_from bits_past levels_from levels nodes_in nodes
    parent_from parent_of climb_from path_to_root set_value low_after node_bits known_after code_path read_node read_path pass_bits
    read_passes term_all bypass first_limit next_limit is_limit segments_from segments_of width bit_length increment comma_bits
    length_fields read_ones read_comma writer reader blocks_in band_nodes band_length blocks_from blocks_at end_of blocks state_length
    band_at bands bad_shape bad_style band_too_deep block_too_deep node_in_range block_in_range band_in_range_with bands_in_range_with
    unused_bands_zero valid_state_with fresh_nodes fresh_blocks fresh_bands_with band_words fresh_state_with set_zero_planes start_refusal
    start_with report_words record_words body_bytes is_new length_bits_before set_new_blocks code_inclusion code_zero_planes code_passes
    code_block code_blocks contributes code_present code_absent code_header segment_too_long field_too_wide opens_segment current_limit
    current_passes passes_taken read_segment read_segments read_zero_planes_from read_zero_planes first_report again_report read_included
    read_new_block read_old_block read_block read_blocks read_header sop_bytes eph_bytes with_markers read_marker read_sop read_eph
    wrong_lists measure_refusal_with front measure_with packet write_refusal_with write_with read_refusal_with read_absent read_present
    read_with asks in_front behind singles first_refused write_layer flat_map opens_at new_entries new_book report_of records_from
    records_of entry_from entry add_counts gathered_holds gathered_after gather_holds spread_holds ppt_segment
    packed_from packed segments_for bad_segment unpacked_from unpacked read_gathered states_from states_in bad_states parts_in_row
    parts_gathered gather_packet gather_packets gather spread_packet spread_packets spread
row_holds row =
    let bs = row.given in
    let lent = scratch_of (state_length bs) in
    let w = start writer (length bs) bs row.style row.planes lent in
    let r = start reader (length bs) bs row.style [] lent in
    eqb w.answer 0 && eqb r.answer 0 && steps_hold row.style row.steps (new_book bs row.planes) [] w.state r.state

-- the numbers, from 0, of the rows that do not hold
unfoldable pub failing : ℕ → List Row → List ℕ
failing n [] = []
failing n (row ∷ rows) = let later = failing (n + 1) rows in cond (row_holds row) later (n ∷ later)
